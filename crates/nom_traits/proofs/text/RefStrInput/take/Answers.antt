use Rattle.std.proofs.Math.Nat.{sub-zero}
use Rattle.nom_traits.proofs.TextCuts.{place_boundary, text_front}
use Rattle.nom_traits.proofs.text.RefStrInput.take.Goals as goal

pub range-requires-clause-end_boundary : goal.range-requires-clause-end_boundary
range-requires-clause-end_boundary c = place_boundary c.args.self.now c.args.index c.known.ensures c.requires

pub returns : goal.returns
returns c = text_front c.args.self.now c.range.result c.args.index c.known.ensures c.requires (simp sub-zero at c.range.ensures.value)
