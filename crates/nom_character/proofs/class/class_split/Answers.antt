use Rattle.std.proofs.Common.{ap, inr, subst, sym}
use Rattle.nom_internal.specs.Prelude.{Refuses}
use Rattle.nom_traits.proofs.Splitting.{run_empty}
use Rattle.nom_character.specs.ClassRuns.{is_wanted, wanted_error, wanted_grows}
use Rattle.nom_character.proofs.class.class_split.Goals as goal

pub returns-in-Some-wanted : goal.returns-in-Some-wanted
returns-in-Some-wanted g c =
    inr (
      ap is_wanted c.in-Some-wanted.is,
      run_empty _ _ _ _ _ g.met.I.Items.lawful c.in-Some.n c.in-Some.ensures c.if-n-eq0.true,
      subst (λ k. Refuses (wanted_error g.E.ParseError.errors k c.args.input) (wanted_grows g.E.ParseError.errors k) g.OM.Error.Mode.BUILDS c.refusal.result)
          (sym c.in-Some-wanted.is) c.refusal.ensures,
    )
