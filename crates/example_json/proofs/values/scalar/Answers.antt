use Rattle.std.proofs.Common.{sym, ◌∙◌}
use Rattle.example_json.specs.Json.{string_of}
use Rattle.example_json.specs.Scalars.{number_of, word_of}
use Rattle.nom.specs.Texts.{or_of}
use Rattle.example_json.proofs.Choices.{first_branch, next_branch}
use Rattle.example_json.proofs.values.scalar.Goals as goal

pub returns-then-not-is_refused : goal.returns-then-not-is_refused
returns-then-not-is_refused c =
    let stays = sym c.if-not-is_refused.true ∙ c.is_refused.ensures in
    first_branch (or_of word_of number_of) string_of _ _ (first_branch word_of number_of _ _ c.word-answer.ensures stays) stays

pub returns-then-not-is_refused-2 : goal.returns-then-not-is_refused-2
returns-then-not-is_refused-2 c =
    let stays = sym c.if-not-is_refused-2.true ∙ c.is_refused-2.ensures in
    first_branch (or_of word_of number_of) string_of _ _
    (next_branch word_of number_of _ _ _ c.word-answer.ensures (sym c.if-not-is_refused.false ∙ c.is_refused.ensures) c.number-answer.ensures) stays

pub returns : goal.returns
returns c =
    next_branch (or_of word_of number_of) string_of _ _ _
    (next_branch word_of number_of _ _ _ c.word-answer.ensures (sym c.if-not-is_refused.false ∙ c.is_refused.ensures) c.number-answer.ensures)
    (sym c.if-not-is_refused-2.false ∙ c.is_refused-2.ensures) c.string.ensures
