-- Characters are counted by the bytes that begin them.
use Rattle.std.specs.Prelude.{◌≡◌, ℕ, ◌+◌, ◌/◌, ◌%◌, Bool, true, false, cond, ltb, List, [], ◌∷◌, ◌++◌, length, count_by, chars}
use Rattle.std.specs.Prelude.{encode_utf8_all, IsUtf8, refl}
use Rattle.std.specs.Char.{encode_utf8}
use Rattle.std.proofs.Common.{arith, sym, ◌∙◌, ap}
use Rattle.std.proofs.lemmas.List.Sums.{sum_by-append, sum_by-cons}
use Rattle.std.proofs.lemmas.Str.{encodes-chars}
use Rattle.nom_located.specs.Lines.{begins_character}

abbrev count : List ℕ → ℕ
count bs = count_by begins_character bs

goes_on : (n : ℕ) → begins_character (128 + n % 64) ≡ false
goes_on n = grind arith

begins_low : (n : ℕ) → ltb n 128 ≡ true → begins_character n ≡ true
begins_low n h = grind (arith, h)

begins_high : (n k : ℕ) → n ≡ 192 + k → begins_character n ≡ true
begins_high n k h = grind (arith, h)

more : (b : ℕ) (bs : List ℕ) (t : Bool) → begins_character b ≡ t → count (b ∷ bs) ≡ cond t 1 0 + count bs
more b bs t e = sum_by-cons (λ c. cond (begins_character c) 1 0) b bs ∙ ap (λ u. cond u 1 0 + count bs) e

last : (b : ℕ) → begins_character b ≡ true → count (b ∷ []) ≡ 1
last b e = more b [] true e

first : (b : ℕ) (bs : List ℕ) → begins_character b ≡ true → count bs ≡ 0 → count (b ∷ bs) ≡ 1
first b bs e h = omega (arith, more b bs true e, h)

passed : (n : ℕ) (bs : List ℕ) → count bs ≡ 0 → count ((128 + n % 64) ∷ bs) ≡ 0
passed n bs h = omega (arith, more (128 + n % 64) bs false (goes_on n), h)

-- the bytes that go on with a character
abbrev one_more : ℕ → List ℕ
one_more c = (128 + c % 64) ∷ []

abbrev two_more : ℕ → List ℕ
two_more c = (128 + (c / 64) % 64) ∷ one_more c

abbrev three_more : ℕ → List ℕ
three_more c = (128 + (c / 4096) % 64) ∷ two_more c

-- by how many bytes a character has
by_length : (c : ℕ) (one two three : Bool) → ltb c 128 ≡ one → count (cond one (c ∷ []) (cond two ((192 + c / 64) ∷ one_more c)
    (cond three ((224 + c / 4096) ∷ two_more c) ((240 + c / 262144) ∷ three_more c)))) ≡ 1
by_length c true two three e = last c (begins_low c e)
by_length c false true three e = first (192 + c / 64) (one_more c) (begins_high (192 + c / 64) (c / 64) refl) (passed c [] refl)
by_length c false false true e =
    first (224 + c / 4096) (two_more c) (begins_high (224 + c / 4096) (32 + c / 4096) (omega arith)) (passed (c / 64) (one_more c) (passed c [] refl))
by_length c false false false e =
    first (240 + c / 262144) (three_more c) (begins_high (240 + c / 262144) (48 + c / 262144) (omega arith))
    (passed (c / 4096) (two_more c) (passed (c / 64) (one_more c) (passed c [] refl)))

one_begins : (c : ℕ) → count (encode_utf8 c) ≡ 1
unfolding encode_utf8
one_begins c = by_length c (ltb c 128) (ltb c 2048) (ltb c 65536) refl

all_begin : (cs : List ℕ) → count (encode_utf8_all cs) ≡ length cs
all_begin [] = refl
all_begin (c ∷ cs) = sum_by-append (λ b. cond (begins_character b) 1 0) (encode_utf8 c) (encode_utf8_all cs) ∙ omega (arith, one_begins c, all_begin cs)

pub characters_begin : (bs : List ℕ) → IsUtf8 bs → count bs ≡ length (chars bs)
characters_begin bs h = ap count (sym (encodes-chars bs h)) ∙ all_begin (chars bs)
