-- The grammars of the parts of JSON with no value in them: words, numbers, texts, and the white space between them. Those of numbers and of
-- characters are what `nom_json` reads by; nothing is cut here.
use Rattle.std.specs.Prelude.{ℕ, false, true, codes}
use Rattle.std.specs.Char.{IsScalar}
use Rattle.nom_internal.specs.Prelude.{ComparesText, text_model}
use Rattle.nom.specs.Texts.{Text, TextWord, alt_of, char_of, cut_of, fail_of, map_of, one_of_of, or_of, pair_of, peek_of, plain_errors}
use Rattle.nom.specs.Texts.{preceded_of, recognize_of, tag_of, terminated_of, tuple_of_three, tuple_of_two}
use Rattle.nom_json_run.specs.Tokens as Tokens
use Rattle.example_json.specs.declared.tree.Json.{Json}
use Rattle.example_json.specs.declared.tree.Json.TheVariants as Value

abbrev pub spaces_of : TextWord Text
spaces_of = Tokens.spaces_of text_model plain_errors

-- a character, and white space after it
abbrev pub token_of : ℕ → TextWord ℕ
token_of c = terminated_of (char_of c) spaces_of

abbrev pub literal_of : TextWord Json
literal_of = alt_of (or_of (or_of (map_of (λ _. Value.Null) (tag_of (codes "null"))) (map_of (λ _. Value.Bool true) (tag_of (codes "true"))))
    (map_of (λ _. Value.Bool false) (tag_of (codes "false"))))

abbrev pub word_of : TextWord Json
word_of = map_of (λ o. o.0) (tuple_of_two literal_of spaces_of)

-- a part that isn't cut: where it is refused, another may be tried
abbrev pub uncut : (O : Type 0) → TextWord O → TextWord O
uncut O g = g

abbrev pub digits_of : TextWord Text
digits_of = Tokens.number_of text_model plain_errors uncut ComparesText

abbrev pub number_of : TextWord Json
number_of = map_of (λ o. Value.Number o.0) (tuple_of_two digits_of spaces_of)

-- what stands between quotes
abbrev pub characters_of : TextWord Text
characters_of = recognize_of (pair_of (Tokens.plain_of text_model plain_errors IsScalar) (Tokens.escapes_of text_model plain_errors uncut IsScalar))

abbrev pub text_of : TextWord Text
text_of = map_of (λ o. o.1) (tuple_of_three (char_of 34) characters_of (char_of 34))

-- a failure where a bracket opens; all else is refused
abbrev pub deep_of : TextWord Json
deep_of = preceded_of (peek_of (one_of_of (codes "[{"))) (cut_of fail_of)
