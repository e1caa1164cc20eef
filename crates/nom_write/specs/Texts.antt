-- The characters of a tag.
use Rattle.std.specs.Prelude.{ℕ, cond, nat_lt, List, [], ◌∷◌, ◌++◌, chars}
use Rattle.std.specs.List.{list_all}
use Rattle.std.specs.Str.{is_utf8}

-- A tag of ASCII is its own characters. A tag that isn't UTF-8, which no text is, has a character more that no text has.
abbrev pub text_items : List ℕ → List ℕ
text_items bs = cond (list_all (λ b. nat_lt b 128) bs) bs (cond (is_utf8 bs) (chars bs) (chars bs ++ 55296 ∷ []))
