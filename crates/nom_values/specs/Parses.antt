-- The values that bytes and texts are read as.
use Rattle.std.specs.Prelude.{◌≡◌, ◌≢◌, ℕ, ◌<◌, ◌^◌, Bool, ℤ, List, Result, Ok, Err, Option, Some, None, SomeIff, MatchOption, FitsSigned, codes}
use Rattle.std.specs.Bool.{MatchBool}
use Rattle.std.specs.Char.{encode_utf8, IsScalar}
use Rattle.std.specs.Str.{IsUtf8}
use Rattle.std.specs.Str.Parse.{IsNumeral, digits_value, signed_digits_value, without_leading_plus, without_leading_sign}
use mir.Syntax.{Width}

-- the value that `from_str` may give for a text, or none where it may give an error
abbrev pub ParsesText : {R E : Type 0} → (List ℕ → Result R E → Type 0) → List ℕ → Option R → Type 0
ParsesText Gives bs (Some v) = Gives bs (Ok v)
ParsesText {R} {E} Gives bs None = (e : E) × Gives bs (Err e)

-- the same of bytes that are UTF-8, and none for others
abbrev pub ParsesBytes : {R E : Type 0} → (List ℕ → Result R E → Type 0) → List ℕ → Option R → Type 0
ParsesBytes Gives bs (Some v) = IsUtf8 bs × Gives bs (Ok v)
ParsesBytes {R} {E} Gives bs None = IsUtf8 bs → (e : E) × Gives bs (Err e)

-- the number, exactly where bs is an optional '+' and decimal digits, one at least, and the number has at most k bits
abbrev pub ReadsUnsigned : ℕ → List ℕ → Option ℕ → Type 0
ReadsUnsigned k bs o = let ds = without_leading_plus bs in SomeIff o (IsNumeral 10 ds × (digits_value 10 ds < 2 ^ k)) (digits_value 10 ds)

-- the number, exactly where bs is an optional '+' or '-' and decimal digits, one at least, and the number fits the width
abbrev pub ReadsSigned : Width → List ℕ → Option ℤ → Type 0
ReadsSigned w bs o = SomeIff o (IsNumeral 10 (without_leading_sign bs) × FitsSigned w (signed_digits_value 10 bs)) (signed_digits_value 10 bs)

-- the truth value that bs names, or none where it names neither
abbrev pub ReadsBool : List ℕ → Option Bool → Type 0
ReadsBool bs o = MatchOption o ((bs ≢ codes "true") × (bs ≢ codes "false")) (λ b. MatchBool b (bs ≡ codes "true") (bs ≡ codes "false"))

-- the character that bs is, or none where bs isn't one character
abbrev pub ReadsChar : List ℕ → Option ℕ → Type 0
ReadsChar bs o = MatchOption o ((c : ℕ) → IsScalar c → bs ≢ encode_utf8 c) (λ c. bs ≡ encode_utf8 c)
