use Rattle.std.proofs.Common.{sym}
use Rattle.nom_internal.specs.Prelude.{items_len-ones}
use Rattle.example_parts.proofs.tokens.TokensInput.input_len.Goals as goal

pub returns : goal.returns
returns c = sym (items_len-ones c.args.self.now.tokens.now)
