-- JSON, by RFC 8259. A text is read as the bytes of its UTF-8 form: a character above 127 has no byte below 128 in it, so its bytes may be
-- read one by one. A relation of two lists says that something of its name stands at the beginning of the first, and that the second is
-- what follows it. White space is taken with what stands before it.
use Rattle.std.specs.Prelude.{◌≡◌, ℕ, zero, suc, Bool, true, false, not, ◌==◌, ◌&&◌, if◌then◌else◌, nat_le, List, [], ◌∷◌, Option, None, Some}
use Rattle.std.specs.Prelude.{codes, IsUtf8}
use Rattle.nom_traits.specs.Classes.{is_dec_digit_code, is_hex_digit_code, is_listed, is_multispace_code}
use Rattle.nom_json_run.specs.declared.bracket.Bracket.{Bracket}
use Rattle.nom_json_run.specs.declared.bracket.Bracket.TheVariants.{Array, Object}

-- whether the first byte passes a test
abbrev pub first_is : (ℕ → Bool) → List ℕ → Bool
first_is test [] = false
first_is test (b ∷ bs) = test b

-- whether the first byte is this one
abbrev pub begins : ℕ → List ℕ → Bool
begins c bs = first_is (λ b. b == c) bs

-- all but the first byte
abbrev pub rest : List ℕ → List ℕ
rest [] = []
rest (b ∷ bs) = bs

-- what follows the bytes that pass a test, as many as there are
abbrev pub after_all : (ℕ → Bool) → List ℕ → List ℕ
after_all test [] = []
after_all test (b ∷ bs) = if test b then after_all test bs else b ∷ bs

-- what follows one byte that passes a test, where there is one
abbrev pub after_one : (ℕ → Bool) → List ℕ → List ℕ
after_one test bs = if first_is test bs then rest bs else bs

-- what follows white space, of which there may be none
abbrev pub after_spaces : List ℕ → List ℕ
after_spaces = after_all is_multispace_code

-- what follows a word
abbrev pub after_word : (word bs : List ℕ) → Option (List ℕ)
after_word [] bs = Some bs
after_word (c ∷ word) bs = if begins c bs then after_word word (rest bs) else None

-- what follows digits, one at least
abbrev pub after_digits1 : List ℕ → Option (List ℕ)
after_digits1 bs = if first_is is_dec_digit_code bs then Some (after_all is_dec_digit_code (rest bs)) else None

-- integer = '0' | digit+, where the first isn't 0
abbrev pub after_integer : List ℕ → Option (List ℕ)
after_integer bs = if begins 48 bs then Some (rest bs) else after_digits1 bs

-- fraction = ('.' digit+)?
abbrev pub after_fraction : List ℕ → Option (List ℕ)
after_fraction bs = if begins 46 bs then after_digits1 (rest bs) else Some bs

-- exponent = (('e' | 'E') ('+' | '-')? digit+)?
abbrev pub after_exponent : List ℕ → Option (List ℕ)
after_exponent bs = if first_is (is_listed (codes "eE")) bs then after_digits1 (after_one (is_listed (codes "+-")) (rest bs)) else Some bs

abbrev pub and_then : Option (List ℕ) → (List ℕ → Option (List ℕ)) → Option (List ℕ)
and_then None next = None
and_then (Some bs) next = next bs

-- number = '-'? integer fraction exponent
abbrev pub after_unsigned : List ℕ → Option (List ℕ)
after_unsigned bs = and_then (after_integer bs) (λ cs. and_then (after_fraction cs) after_exponent)

abbrev pub after_number : List ℕ → Option (List ℕ)
after_number bs = after_unsigned (after_one (λ b. b == 45) bs)

-- what follows a byte that passes a test
abbrev pub after_byte : (ℕ → Bool) → List ℕ → Option (List ℕ)
after_byte test bs = if first_is test bs then Some (rest bs) else None

-- what follows that many digits in base 16
abbrev pub after_hex : ℕ → List ℕ → Option (List ℕ)
after_hex zero bs = Some bs
after_hex (suc n) bs = and_then (after_byte is_hex_digit_code bs) (after_hex n)

-- escape = letter | 'u' hex hex hex hex, after a backslash
abbrev pub after_escape : List ℕ → Option (List ℕ)
after_escape bs = if begins 117 bs then after_hex 4 (rest bs) else after_byte (is_listed (codes "\"\\/bfnrt")) bs

-- a character that represents itself: no quote, no backslash, and none below a space
abbrev pub is_plain_code : ℕ → Bool
is_plain_code b = nat_le 32 b && (not (b == 34) && not (b == 92))

-- the characters of a string, and the quote that closes it
pub data JsonCharacters : (i r : List ℕ) → Type 0 where
  close : {i r : List ℕ} → begins 34 i ≡ true → r ≡ rest i → JsonCharacters i r
  plain : {i r : List ℕ} → first_is is_plain_code i ≡ true → JsonCharacters (rest i) r → JsonCharacters i r
  escape : {i r : List ℕ} (j : List ℕ) → begins 92 i ≡ true → after_escape (rest i) ≡ Some j → JsonCharacters j r → JsonCharacters i r

-- what is left after a part
abbrev pub Leaves : (List ℕ → Option (List ℕ)) → (i r : List ℕ) → Type 0
Leaves after i r = after i ≡ Some r

-- a part, and white space after it
abbrev pub Spaced : (List ℕ → List ℕ → Type 0) → List ℕ → List ℕ → Type 0
Spaced Part i r = (j : List ℕ) × Part i j × (r ≡ after_spaces j)

-- string = '"' characters '"'
abbrev pub JsonString : (i r : List ℕ) → Type 0
JsonString i r = (begins 34 i ≡ true) × Spaced JsonCharacters (rest i) r

-- Arrays and objects are the two kinds of brackets, with items between them.
abbrev pub opening : Bracket → ℕ
opening Array = 91
opening Object = 123

abbrev pub closing : Bracket → ℕ
closing Array = 93
closing Object = 125

mutual
  -- value = "null" | "true" | "false" | number | string | '[' items? ']' | '{' items? '}'
  pub data JsonValue : (i r : List ℕ) → Type 0 where
    null : {i r : List ℕ} → Spaced (Leaves (after_word (codes "null"))) i r → JsonValue i r
    truth : {i r : List ℕ} → Spaced (Leaves (after_word (codes "true"))) i r → JsonValue i r
    untruth : {i r : List ℕ} → Spaced (Leaves (after_word (codes "false"))) i r → JsonValue i r
    number : {i r : List ℕ} → Spaced (Leaves after_number) i r → JsonValue i r
    text : {i r : List ℕ} → JsonString i r → JsonValue i r
    brackets : {i r : List ℕ} (o : Bracket) (j : List ℕ) → begins (opening o) i ≡ true → JsonInside o (after_spaces (rest i)) j → r ≡ after_spaces j →
        JsonValue i r

  -- what stands between brackets, and the closing one
  pub data JsonInside : (o : Bracket) (i r : List ℕ) → Type 0 where
    nothing : {o : Bracket} {i r : List ℕ} → begins (closing o) i ≡ true → r ≡ rest i → JsonInside o i r
    some : {o : Bracket} {i r : List ℕ} (j : List ℕ) → JsonItems o i j → begins (closing o) j ≡ true → r ≡ rest j → JsonInside o i r

  -- items = item (',' item)*
  pub data JsonItems : (o : Bracket) (i r : List ℕ) → Type 0 where
    last : {o : Bracket} {i r : List ℕ} → JsonItem o i r → JsonItems o i r
    more : {o : Bracket} {i r : List ℕ} (j : List ℕ) → JsonItem o i j → begins 44 j ≡ true → JsonItems o (after_spaces (rest j)) r → JsonItems o i r

  -- item = value in an array, and string ':' value in an object
  pub data JsonItem : (o : Bracket) (i r : List ℕ) → Type 0 where
    element : {o : Bracket} {i r : List ℕ} → o ≡ Array → JsonValue i r → JsonItem o i r
    member : {o : Bracket} {i r : List ℕ} (j : List ℕ) → o ≡ Object → JsonString i j → begins 58 j ≡ true → JsonValue (after_spaces (rest j)) r →
        JsonItem o i r

-- text = a value, with white space around it and nothing else
abbrev pub IsValue : List ℕ → Type 0
IsValue bs = JsonValue (after_spaces bs) []

-- the bytes are a JSON text in UTF-8
abbrev pub IsJson : List ℕ → Type 0
IsJson bs = IsUtf8 bs × IsValue bs
