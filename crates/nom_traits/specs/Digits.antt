-- Numbers that are written by digits.
use Rattle.std.specs.Prelude.{◌≡◌, ℕ, ◌+◌, ◌*◌, List, [], ◌∷◌, ◌++◌, refl}

-- the value of digits in a base, the highest first, after digits of a value
abbrev pub digits_after : ℕ → ℕ → List ℕ → ℕ
digits_after base value [] = value
digits_after base value (d ∷ ds) = digits_after base (base * value + d) ds

-- the value of digits in a base, the highest first
abbrev pub value_of : ℕ → List ℕ → ℕ
value_of base ds = digits_after base 0 ds

-- the value of digits and one more is base times theirs, and the last
pub value_more : (base value d : ℕ) (ds : List ℕ) → digits_after base value (ds ++ d ∷ []) ≡ base * digits_after base value ds + d
value_more base value d [] = refl
value_more base value d (x ∷ ds) = value_more base (base * value + x) d ds
