use Rattle.std.proofs.Common.{sym, subst}
use Rattle.std.specs.Str.Parse.{ParsesUnsigned}
use Rattle.std.proofs.lemmas.Str.{encodes-chars}
use Rattle.example_grammars.proofs.hex.from_hex.Goals as goal

pub returns : goal.returns
returns c = subst (λ bs. ParsesUnsigned 8 16 bs c.from_str_radix.result) (sym (encodes-chars c.args.digits.now c.utf8.digits)) c.from_str_radix.ensures.value
