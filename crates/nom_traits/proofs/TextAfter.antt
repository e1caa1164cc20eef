-- The place in a text after a number of characters.
use Rattle.std.proofs.Common.{◌≡◌, ℕ, ◌+◌, ◌-◌, ◌<◌, ◌≤◌, ◌++◌, List, [], ◌∷◌, Bor, length, sym, ◌∙◌, ap, subst, refl, arith, append_assoc, length-append}
use Rattle.std.specs.Prelude.{chars, encode_utf8_all, encode_utf8, IsUtf8}
use Rattle.std.specs.Char.{len_utf8}
use Rattle.std.proofs.lemmas.Str.{length-encode, encodes-chars, chars_past_char, IsUtf8-past_char, length-le-encodes}
use Rattle.nom_traits.specs.Input.{items_len}
use Rattle.nom_traits.specs.Rests.{items_len-append}
use Rattle.nom_traits.specs.Slices.{IsCount}
use Rattle.nom_traits.specs.Text.{text_model}

-- where the first characters, that many, are looked for: those passed, and what is left
pub record IsAfter (bs rest passed : List ℕ) (index left count : ℕ) : Type 0 where
  pub whole : chars bs ≡ passed ++ chars rest
  pub utf8 : IsUtf8 rest
  pub index_is : index ≡ items_len len_utf8 passed
  pub left_is : left + length passed ≡ count
  pub room : index + length rest ≡ length bs

pub after_start : (bs : List ℕ) (count : ℕ) → IsUtf8 bs → IsAfter bs bs [] 0 count count
after_start bs count u = record { whole = refl; utf8 = u; index_is = refl; left_is = omega arith; room = omega arith }

pub after_next : {bs from rest passed : List ℕ} (c : ℕ) {index left count k : ℕ} → IsAfter bs from passed index left count → from ≡ encode_utf8 c ++
    rest → k ≡ len_utf8 c → 0 < left → IsAfter bs rest (passed ++ (c ∷ [])) (index + k) (left - 1) count
after_next {from = from} {rest = rest} {passed = passed} c a e d h = record {
  whole = a.whole ∙ ap (λ z. passed ++ z) (chars_past_char from rest c a.utf8 e) ∙ sym (append_assoc passed (c ∷ []) (chars rest));
  utf8 = IsUtf8-past_char from rest c a.utf8 e;
  index_is = omega (arith, items_len-append len_utf8 passed (c ∷ []), a.index_is);
  left_is = omega (arith, length-append passed (c ∷ []), a.left_is);
  room = omega (arith, a.room, ap length e, length-append (encode_utf8 c) rest, length-encode c);
}

pub after_found : {i : Bor (List ℕ)} {rest passed : List ℕ} {index left count : ℕ} → IsAfter i.now rest passed index left count → left ≡ 0 →
    IsCount text_model i count index
after_found {rest = rest} {passed = passed} a h = record {
  place = record { front = passed; rest = chars rest; whole = a.whole; length_is = sym a.index_is };
  count_is = omega (arith, a.left_is);
}

-- the place, by the length of what is left
pub after_rest : {i : Bor (List ℕ)} {rest left_text passed : List ℕ} {index left count : ℕ} → IsAfter i.now rest passed index left count → left ≤ 0 →
    left_text ≡ rest → IsCount text_model i count (length i.now - length left_text)
after_rest {i = i} {rest = rest} {count = count} a h e =
    subst (IsCount text_model i count) (omega (arith, a.room, ap length e)) (after_found a (omega (arith, h)))

pub after_end : {bs rest passed : List ℕ} {index left count : ℕ} → IsAfter bs rest passed index left count → length rest ≡ 0 → 0 < left →
    length (chars bs) < count
after_end {rest = rest} {passed = passed} a e h =
    let l : length (chars rest) ≤ length (encode_utf8_all (chars rest)) = length-le-encodes (chars rest) in
    omega (arith, a.left_is, ap length a.whole, length-append passed (chars rest), ap length (encodes-chars rest a.utf8))
