use Rattle.std.proofs.Common.{sym, ◌∙◌, ap}
use Rattle.std.specs.Prelude.{chars}
use Rattle.nom_search.proofs.Tokens.{ascii_chars}
use Rattle.nom_search.proofs.token.ascii_bytes.Goals as goal

pub returns-then-are_ascii : goal.returns-then-are_ascii
returns-then-are_ascii c = ascii_chars c.as_bytes-bytes.result.now (sym c.are_ascii.ensures ∙ c.if-are_ascii.true) ∙ ap chars c.as_bytes-bytes.ensures.value
