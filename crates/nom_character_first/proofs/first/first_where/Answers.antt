use Rattle.std.proofs.Common.{sym, ◌∙◌, subst, refl, inl, inr}
use Rattle.nom_internal.proofs.Shown.{accepted, undecided, refused}
use Rattle.nom_character_first.proofs.first.first_where.Goals as goal
use Rattle.nom_character_first.proofs.first.first_where.Goals.{in-Some+else-meets, in-None+else-STREAMING}

pub returns-then-meets : goal.returns-then-meets
returns-then-meets g c =
    let meets = subst (g.P.Predicate.answers (g.P.Predicate.state c.args.test.now) c.in-Some.item) c.if-meets.true c.meets.ensures in
    accepted (g.I.Item.Value.code c.in-Some.item) c.after.ensures (c.in-Some.item, c.in-Some.ensures, meets, refl, refl) c.character.ensures

pub returns-then-STREAMING : goal.returns-then-STREAMING
returns-then-STREAMING g c = undecided refl (sym c.STREAMING.ensures ∙ c.if-STREAMING.true, (c.in-None.ensures, refl))

pub returns : goal.returns
returns g c = refused c.refused.ensures (elim c.match-first.branch [
  | in-Some+else-meets w ↦
      inl (
        w.in-Some.item,
        w.in-Some.ensures,
        subst (g.P.Predicate.answers (g.P.Predicate.state c.args.test.now) w.in-Some.item) w.if-meets.false w.meets.ensures,
      )
  | in-None+else-STREAMING w ↦ inr (sym w.STREAMING.ensures ∙ w.if-STREAMING.false, w.in-None.ensures)
])
