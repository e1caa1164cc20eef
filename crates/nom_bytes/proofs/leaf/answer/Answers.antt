use Rattle.std.proofs.Common.{true, arith, sym, ◌∙◌, inl, inr}
use Rattle.nom_internal.specs.Prelude.{modes}
use Rattle.nom_internal.proofs.Shown.{refused}
use Rattle.nom_bytes.proofs.TagShown.{comparing_by, tag_begun, tag_found, tag_longer}
use Rattle.nom_bytes.proofs.leaf.answer.Goals as goal

pub returns-in-Ok : goal.returns-in-Ok
returns-in-Ok g c ignores h =
    let laws = comparing_by g.met.I.Compare.comparing g.met.I.Compare.comparing_no_case ignores in
    tag_found _ g.E.ParseError.errors _ _ laws _ _ _ c.known.ensures _ _ _ c.tag_len-n.ensures (rw (c.in-Ok.is) at h) c.take_from.ensures c.front.ensures

pub returns-in-Incomplete : goal.returns-in-Incomplete
returns-in-Incomplete g c ignores h =
    let laws = comparing_by g.met.I.Compare.comparing g.met.I.Compare.comparing_no_case ignores in
    tag_begun _ g.E.ParseError.errors _ _ laws _ _ _ c.known.ensures _ _ _ (sym c.STREAMING.ensures ∙ c.if-STREAMING.true) c.tag_len.ensures
    c.input_len.ensures (rw (c.in-Incomplete.is) at h) c.new.ensures.some

pub returns-in-Incomplete-2 : goal.returns-in-Incomplete-2
returns-in-Incomplete-2 g c ignores h = refused c.refusal.ensures (inr (sym c.STREAMING.ensures ∙ c.if-STREAMING.false, rw (c.in-Incomplete-2.is) at h))

pub returns-in-Error : goal.returns-in-Error
returns-in-Error g c ignores h = refused c.refusal-in-Error.ensures (inl (rw (c.in-Error.is) at h))

pub overflow_sub-n : goal.overflow_sub-n
overflow_sub-n g c =
    let laws = comparing_by g.met.I.Compare.comparing g.met.I.Compare.comparing_no_case c.requires.0 in
    omega (
      arith,
      tag_longer _ g.E.ParseError.errors _ _ laws _ (modes true true true) _ c.known.ensures _ _ c.tag_len.ensures c.input_len.ensures
          (rw (c.in-Incomplete.is) at c.requires.1),
    )
