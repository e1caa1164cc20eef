use Rattle.nom_traits.proofs.TextCuts.{place_boundary, text_rest}
use Rattle.nom_traits.proofs.text.RefStrInput.take_from.Goals as goal

pub range_from-requires : goal.range_from-requires
range_from-requires c _ = place_boundary c.args.self.now c.args.index c.known.ensures c.requires

pub returns : goal.returns
returns c = text_rest c.args.self.now c.range_from.result c.args.index c.known.ensures c.requires c.range_from.ensures.value
