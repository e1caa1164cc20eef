-- Numbers, as they are meant.
use Rattle.std.specs.Prelude.{ℤ}
use Rattle.nom_internal.specs.Prelude.{ComparesText, text_model}
use Rattle.nom.specs.Texts.{TextWord, all_consuming_of, char_of, i64_of, opt_of, pair_of, peek_of, plain_errors, preceded_of}
use Rattle.nom_json_run.specs.Tokens as Tokens

-- a number without a fraction and an exponent, as the integer that it is
abbrev pub integer_of : TextWord ℤ
integer_of = preceded_of (peek_of (all_consuming_of (pair_of (opt_of (char_of 45)) (Tokens.integer_of text_model plain_errors ComparesText)))) i64_of
