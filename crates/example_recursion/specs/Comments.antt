-- Texts in brackets, with any error type.
use Rattle.std.specs.Prelude.{ℕ, codes, false}
use Rattle.nom.specs.Texts.{Text}
use Rattle.nom.specs.Words.{Word, alt_of, char_of, delimited_of, is_not_of, or_of, recursive_of, text_view}

module _ {E : Type 0} where
  abbrev pub comment_of : Word Text Text E → Word Text Text E
  comment_of inner = alt_of (or_of (delimited_of (char_of 40) inner (char_of 41)) (is_not_of (codes "()")))

  abbrev pub comments_of : ℕ → Word Text Text E
  comments_of = recursive_of false text_view comment_of
