use Rattle.std.proofs.Common.{sym}
use Rattle.nom_traits.proofs.TextCuts.{text_length}
use Rattle.nom_traits.proofs.text.RefStrInput.input_len.Goals as goal

pub returns : goal.returns
returns c = sym (text_length c.args.self.now.now c.known.ensures.0)
