use Rattle.nom_traits.proofs.TextCuts.{text_offset, rest_within}
use Rattle.nom_traits.proofs.text.RefStrOffset.offset.Goals as goal

pub overflow_sub-result : goal.overflow_sub-result
overflow_sub-result c = rest_within c.args.self.now c.args.second.now c.requires.0 c.known.ensures c.requires.1

pub returns : goal.returns
returns c = text_offset c.args.self.now c.args.second.now c.requires.0 c.known.ensures c.requires.1
