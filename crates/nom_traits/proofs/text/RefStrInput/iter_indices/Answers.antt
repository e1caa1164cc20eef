use Rattle.std.proofs.Common.{sym, ◌∙◌}
use Rattle.std.specs.Prelude.{chars}
use Rattle.std.proofs.lemmas.Str.{encodes-chars}
use Rattle.nom_traits.proofs.Walks.{text_placed}
use Rattle.nom_traits.proofs.text.RefStrInput.iter_indices.Goals as goal

pub returns-clause-gives : goal.returns-clause-gives
returns-clause-gives c =
    text_placed (chars c.args.self.now.now) 0 c.char_indices.result (encodes-chars c.args.self.now.now c.known.ensures.0 ∙
    sym c.char_indices.ensures.rest) (sym c.char_indices.ensures.offset)
