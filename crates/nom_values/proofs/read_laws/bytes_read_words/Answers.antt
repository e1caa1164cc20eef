use Rattle.std.specs.contracts.prelude.BoolFromStr.TheImpl as Bool
use Rattle.std.specs.contracts.prelude.CharFromStr.TheImpl as Char
use Rattle.nom_values.proofs.ReadBytes.{bytes_read_bool, bytes_read_char}
use Rattle.nom_values.proofs.read_laws.bytes_read_words.Goals as goal

pub returns-clause-bool : goal.returns-clause-bool
returns-clause-bool c = λ s o h. bytes_read_bool Bool.ghosts.from_str_gives s.now o h (λ _ r. r)

pub returns-clause-char : goal.returns-clause-char
returns-clause-char c = λ s o h. bytes_read_char Char.ghosts.from_str_gives s.now o h (λ _ r. r)
