use Rattle.std.proofs.Common.{sym, ◌∙◌}
use Rattle.std.specs.Prelude.{chars}
use Rattle.std.proofs.lemmas.Str.{Chars-gives, encodes-chars}
use Rattle.nom_traits.proofs.text.RefStrInput.iter_elements.Goals as goal

pub returns-clause-gives : goal.returns-clause-gives
returns-clause-gives c =
    Chars-gives (chars c.args.self.now.now) c.chars.result (encodes-chars c.args.self.now.now c.type_inv.self ∙ sym c.chars.ensures.rest)
