-- Tokens in lists.
use Rattle.std.proofs.Common.{◌≡◌, ℕ, zero, suc, ◌<◌, ◌≤◌, ◌⊎◌, inl, inr, List, [], ◌∷◌}
use Rattle.std.proofs.Common.{length, Bool, true, false, ◌||◌, nat_eq, get_or, refl, sym, ◌∙◌, ap, subst, arith}
use Rattle.std.specs.Prelude.{Option, Some, None, is_some, slice_index, chars, encode_utf8, encode_utf8_all, IsUtf8, nat_lt}
use Rattle.std.specs.Char.{len_utf8}
use Rattle.std.specs.Str.{IsAscii}
use Rattle.std.specs.List.{Contains, list_all, list_any}
use Rattle.memchr.specs.Find.{IsFirstByte, is_byte}
use Rattle.std.proofs.lemmas.List.{get_or_default}
use Rattle.std.proofs.lemmas.Bool.{and_parts, ltb-true, eqb-true, eq-eqb, ne_eqb, cases_lt, le-ltb}
use Rattle.std.proofs.lemmas.Str.{encode_ascii, encodes-chars, length-encode, chars-IsAscii}
use Rattle.std.proofs.lemmas.List.Folds.{Any-from_list_any, list_any_at, list_any-append}
use Rattle.nom_search.specs.Reads.{char_alone}

pub contained : (xs : List ℕ) (t : ℕ) → list_any (λ c. nat_eq c t) xs ≡ true → Contains xs t
contained xs t h =
    let a = Any-from_list_any (λ c. nat_eq c t) xs h in
    let same = eqb-true a.1 t a.4 in
    (a.0, a.2, subst (λ y. get_or xs a.0 y ≡ y) same a.3)

pub containing : (xs : List ℕ) (t : ℕ) → Contains xs t → list_any (λ c. nat_eq c t) xs ≡ true
containing xs t h = list_any_at (λ c. nat_eq c t) xs h.0 t h.1 (eq-eqb _ t h.2)

-- the searcher finds a byte where the list has it
pub byte_contained : (bs : List ℕ) (t : ℕ) (r : Option ℕ) → IsFirstByte (is_byte t) bs r → is_some r ≡ true → Contains bs t
byte_contained bs t None f h = absurd (cc (h))
byte_contained bs t (Some k) f h =
    let inside : k < length bs = (f.0).high in
    (k, inside, get_or_default bs k t 0 inside ∙ eqb-true (get_or bs k 0) t f.1)

pub byte_containing : (bs : List ℕ) (t : ℕ) (r : Option ℕ) → IsFirstByte (is_byte t) bs r → Contains bs t → is_some r ≡ true
byte_containing bs t None f h = absurd (f h.0 (omega arith) h.1 (eq-eqb (get_or bs h.0 0) t (get_or_default bs h.0 0 t h.1 ∙ h.2)))
byte_containing bs t (Some k) f h = refl

all_ascii : (bs : List ℕ) → list_all (λ b. nat_lt b 128) bs ≡ true → IsAscii bs
all_ascii [] h i = omega arith
all_ascii (b ∷ bs) h zero = ltb-true b 128 (and_parts (nat_lt b 128) (list_all (λ x. nat_lt x 128) bs) h).0
all_ascii (b ∷ bs) h (suc i) = all_ascii bs (and_parts (nat_lt b 128) (list_all (λ x. nat_lt x 128) bs) h).1 i

long_code : (c : ℕ) → 128 ≤ c → 2 ≤ len_utf8 c
long_code c h = grind (arith, le-ltb c 128 h)

or_none : (b : Bool) → (b || false) ≡ b
or_none true = refl
or_none false = refl

-- a character of ASCII is in a text exactly where its byte is in the bytes
module _ (t : ℕ) (ascii : t < 128) where
  -- no byte of a longer character is one of ASCII
  in_long : (c : ℕ) → 128 ≤ c → (b : Bool) → list_any (λ x. nat_eq x t) (encode_utf8 c) ≡ b → b ≡ nat_eq c t
  in_long c long false h = sym (ne_eqb c t (λ e. omega (arith, e, ascii, long)))
  in_long c long true h =
      let there = contained (encode_utf8 c) t h in
      let byte : slice_index (encode_utf8 c) there.0 ≡ t = get_or_default (encode_utf8 c) there.0 0 t there.1 ∙ there.2 in
      let alone = char_alone c there.0 there.1 (omega (arith, byte, ascii)) in
      absurd (omega (arith, ap length alone, length-encode c, long_code c long))

  in_char : (c : ℕ) → (c < 128) ⊎ (128 ≤ c) → list_any (λ x. nat_eq x t) (encode_utf8 c) ≡ list_any (λ x. nat_eq x t) (c ∷ [])
  in_char c (inl short) = ap (list_any (λ x. nat_eq x t)) (encode_ascii c short)
  in_char c (inr long) = in_long c long (list_any (λ x. nat_eq x t) (encode_utf8 c)) refl ∙ sym (or_none (nat_eq c t))

  in_all : (cs : List ℕ) → list_any (λ x. nat_eq x t) (encode_utf8_all cs) ≡ list_any (λ x. nat_eq x t) cs
  in_all [] = refl
  in_all (c ∷ cs) =
      list_any-append (λ x. nat_eq x t) (encode_utf8 c) (encode_utf8_all cs) ∙ (
      ap (λ b. b || list_any (λ x. nat_eq x t) (encode_utf8_all cs)) (in_char c (cases_lt c 128)) ∙ (
      ap (λ b. list_any (λ x. nat_eq x t) (c ∷ []) || b) (in_all cs) ∙ sym (list_any-append (λ x. nat_eq x t) (c ∷ []) cs)
      )
      )

  pub ascii_in_text : (bs : List ℕ) → IsUtf8 bs → list_any (λ x. nat_eq x t) bs ≡ list_any (λ x. nat_eq x t) (chars bs)
  ascii_in_text bs u = ap (list_any (λ x. nat_eq x t)) (sym (encodes-chars bs u)) ∙ in_all (chars bs)

-- a text of ASCII is its characters
pub ascii_chars : (bs : List ℕ) → list_all (λ b. nat_lt b 128) bs ≡ true → bs ≡ chars bs
ascii_chars bs h = sym (chars-IsAscii bs (all_ascii bs h))
