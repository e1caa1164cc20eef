-- A name and its value.
use Rattle.std.specs.Prelude.{◌≡◌, ℕ, ◌<◌, ◌==◌, ◌||◌, ◌&&◌, not, Bool, true, false, List, ◌∷◌, ◌++◌, length, codes}
use Rattle.std.specs.Borrow.{Bor}
use Rattle.std.specs.Char.{is_ascii_alphanumeric}
use Rattle.std.specs.List.{All}
use Rattle.nom_internal.specs.Prelude.{Stops}
use Rattle.nom.specs.Words.{Word, char_of, context_of, separated_pair_of, take_while1_of}

-- a letter, a digit, or `_`
abbrev pub in_name : ℕ → Bool
in_name c = is_ascii_alphanumeric c || (c == 95)

-- no end of a line
abbrev pub in_value : ℕ → Bool
in_value c = not (c == 13) && not (c == 10)

-- The characters are a name, `=`, a value that ends with its line, and the rest; neither is empty.
pub record IsNamed (cs name value rest : List ℕ) : Type 0 where
  pub whole : cs ≡ name ++ (61 ∷ (value ++ rest))
  pub some_name : 0 < length name
  pub is_name : All (λ c. in_name c ≡ true) name
  pub some_value : 0 < length value
  pub is_value : All (λ c. in_value c ≡ true) value
  pub ends : Stops (λ c. in_value c ≡ false) rest

-- the grammar of the line
abbrev pub line_of : {E : Type 0} → Word (Bor (List ℕ)) (Bor (List ℕ) × Bor (List ℕ)) E
line_of = separated_pair_of (context_of (codes "a name") (take_while1_of in_name)) (char_of 61) (context_of (codes "a value") (take_while1_of in_value))
