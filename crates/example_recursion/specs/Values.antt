-- Values, by their rules.
use Rattle.std.specs.Prelude.{ℕ, codes, false, true}
use Rattle.nom.specs.Texts.{Text, TextWord, alt_of, char_of, delimited_of, digit1_of, is_not_of, map_of, or_of, plain_view, recursive_rule_of}
use Rattle.nom.specs.Texts.{separated_list0_of, separated_pair_of, tag_of}
use Rattle.example_recursion.specs.declared.values.Json.{Json}
use Rattle.example_recursion.specs.declared.values.Json.TheVariants as Variant
use Rattle.example_recursion.specs.declared.values.Kind.{Kind}
use Rattle.example_recursion.specs.declared.values.Kind.TheVariants.{Value, Array, Object}

-- a text, which has no escapes
abbrev pub text_of : TextWord Text
text_of = delimited_of (char_of 34) (is_not_of (codes "\"")) (char_of 34)

-- a rule, by the rules inside it
abbrev pub json_of : (Kind → TextWord Json) → Kind → TextWord Json
json_of rule Value = alt_of (or_of (or_of (or_of (or_of (or_of (or_of
    (map_of (λ _. Variant.Null) (tag_of (codes "null")))
    (map_of (λ _. Variant.Bool true) (tag_of (codes "true"))))
    (map_of (λ _. Variant.Bool false) (tag_of (codes "false"))))
    (map_of Variant.Number digit1_of))
    (map_of Variant.Text text_of))
    (rule Array))
    (rule Object))
json_of rule Array = map_of Variant.Array (delimited_of (char_of 91) (separated_list0_of (char_of 44) (rule Value)) (char_of 93))
json_of rule Object = map_of Variant.Object (delimited_of (char_of 123)
    (separated_list0_of (char_of 44) (separated_pair_of text_of (char_of 58) (rule Value))) (char_of 125))

-- a rule, of at most that many rules in each other
abbrev pub jsons_of : ℕ → Kind → TextWord Json
jsons_of = recursive_rule_of false plain_view json_of
