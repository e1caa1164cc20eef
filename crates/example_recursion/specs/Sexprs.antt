-- S-expressions, by their grammar.
use Rattle.std.specs.Prelude.{ℕ, false}
use Rattle.nom.specs.Texts.{TextWord, alphanumeric1_of, alt_of, char_of, delimited_of, map_of, or_of, plain_view, recursive_of, separated_list0_of}
use Rattle.example_recursion.specs.declared.sexprs.Sexpr.{Sexpr}
use Rattle.example_recursion.specs.declared.sexprs.Sexpr.TheVariants as Variant

-- an atom, or a list in brackets of what lies inside
abbrev pub sexpr_of : TextWord Sexpr → TextWord Sexpr
sexpr_of inner =
    alt_of (or_of (map_of Variant.Atom alphanumeric1_of) (map_of Variant.List (delimited_of (char_of 40) (separated_list0_of (char_of 32) inner) (char_of 41))))

-- an S-expression of at most that many layers
abbrev pub expression_of : ℕ → TextWord Sexpr
expression_of = recursive_of false plain_view sexpr_of
