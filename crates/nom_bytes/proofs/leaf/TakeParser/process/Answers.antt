use Rattle.std.proofs.Common.{sym, ◌∙◌, refl}
use Rattle.nom_internal.specs.Prelude.{place_first}
use Rattle.nom_internal.proofs.Shown.{accepted, undecided, refused}
use Rattle.nom_bytes.proofs.leaf.TakeParser.process.Goals as goal

pub returns-in-Ok-clause-shown : goal.returns-in-Ok-clause-shown
returns-in-Ok-clause-shown g c =
    let n = c.in-Ok.ensures in
    let first = place_first g.I.Items.model _ _ n.place in
    accepted _ c.take_from.ensures (first, n.count_is) (c.front.ensures _ first)

pub returns-in-Err-clause-shown : goal.returns-in-Err-clause-shown
returns-in-Err-clause-shown g c =
    let h = c.in-Err.ensures in
    undecided h.1 (sym c.STREAMING.ensures ∙ c.if-STREAMING.true, (h.0, refl))

pub returns-in-Err-2-clause-shown : goal.returns-in-Err-2-clause-shown
returns-in-Err-2-clause-shown g c =
    refused c.refusal.ensures (sym c.STREAMING.ensures ∙ c.if-STREAMING.false, (c.in-Err-2.ensures).0)
