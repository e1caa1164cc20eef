-- Where texts stand in texts.
use Rattle.std.proofs.Common.{◌≡◌, ℕ, ◌+◌, ◌≤◌, ◌++◌, List, [], ◌∷◌, length, take, drop, sym, ◌∙◌, ap, subst, refl, arith, length-append, Option}
use Rattle.std.specs.Prelude.{Some, None, chars, encode_utf8_all, IsUtf8, IsCharBoundary}
use Rattle.std.specs.Char.{len_utf8}
use Rattle.std.proofs.Math.Seq.{take-append_seam, drop-append_seam}
use Rattle.std.proofs.lemmas.Str.{IsUtf8-take, IsUtf8-nil, IsCharBoundary-start, IsCharBoundary-from_rest, chars-append, encodes-chars, encodes-append}
use Rattle.nom_traits.specs.Rests.{items_len-ones}
use Rattle.nom_traits.specs.Text.{items_len-text}
use Rattle.nom_search.specs.Substrings.{IsFoundAt, FindsFirst, FindsBytes}

-- a text begins where some character does
begins : (x : ℕ) (t ys : List ℕ) → IsCharBoundary (x ∷ t) 0 → IsCharBoundary ((x ∷ t) ++ ys) 0
begins x t ys h = (omega arith, λ _ k. h.1 (omega arith) k)

is_empty : (xs : List ℕ) → length xs ≡ 0 → xs ≡ []
is_empty [] h = refl
is_empty (x ∷ xs) h = absurd (omega (arith, h))

-- what stands before a text that begins with x
cut_utf8 : (bs before t rest : List ℕ) (x : ℕ) → IsUtf8 bs → IsUtf8 (x ∷ t) → bs ≡ before ++ ((x ∷ t) ++ rest) → IsUtf8 before
cut_utf8 bs before t rest x u v e =
    let i = length before in
    let dropped : (x ∷ t) ++ rest ≡ drop i bs = sym (ap (λ ys. drop i ys) e ∙ drop-append_seam before ((x ∷ t) ++ rest)) in
    let start : IsCharBoundary (drop i bs) 0 = subst (λ ys. IsCharBoundary ys 0) dropped (begins x t rest (IsCharBoundary-start (x ∷ t) v)) in
    let there : IsCharBoundary bs (i + 0) = IsCharBoundary-from_rest bs i 0 (omega (arith, ap length e, length-append before ((x ∷ t) ++ rest))) start in
    let at : i + 0 ≡ i = omega arith in
    let taken : take i bs ≡ before = ap (λ ys. take i ys) e ∙ take-append_seam before ((x ∷ t) ++ rest) in
    subst IsUtf8 taken (IsUtf8-take bs i u (subst (λ k. IsCharBoundary bs k) at there))

-- the bytes before the first place of a text are a text
before_utf8 : (bs t : List ℕ) → IsUtf8 bs → IsUtf8 t → (n : ℕ) (h : FindsBytes t bs (Some n)) → IsUtf8 (h.0).before
before_utf8 bs [] u v n h =
    let s = h.0 in
    let front : n ≤ 0 = h.1 0 (record { before = []; rest = bs; whole = refl; length_is = refl }) in
    subst IsUtf8 (sym (is_empty s.before (omega (arith, front, s.length_is, items_len-ones s.before)))) IsUtf8-nil
before_utf8 bs (x ∷ t) u v n h = let s = h.0 in cut_utf8 bs s.before t s.rest x u v s.whole

module _ (bs t : List ℕ) (u : IsUtf8 bs) (v : IsUtf8 t) where
  pub text_stands : (n : ℕ) → IsFoundAt len_utf8 (chars t) (chars bs) n → IsFoundAt (λ _. 1) t bs n
  text_stands n s = record {
    before = encode_utf8_all s.before;
    rest = encode_utf8_all s.rest;
    whole = sym (encodes-chars bs u) ∙
        (ap encode_utf8_all s.whole ∙ (encodes-append s.before (chars t ++ s.rest) ∙
        ap (λ ys. encode_utf8_all s.before ++ ys) (encodes-append (chars t) s.rest ∙ ap (λ ys. ys ++ encode_utf8_all s.rest) (encodes-chars t v))));
    length_is = items_len-ones (encode_utf8_all s.before) ∙ (sym (items_len-text s.before) ∙ s.length_is);
  }

  pub text_found : (r : Option ℕ) → FindsBytes t bs r → FindsFirst len_utf8 (chars t) (chars bs) r
  text_found None h = λ m s. h m (text_stands m s)
  text_found (Some n) h =
      let s = h.0 in
      let w = before_utf8 bs t u v n h in (
        record {
          before = chars s.before;
          rest = chars s.rest;
          whole = ap chars s.whole ∙ (chars-append s.before (t ++ s.rest) w ∙ ap (λ ys. chars s.before ++ ys) (chars-append t s.rest v));
          length_is = items_len-text (chars s.before) ∙ (ap length (encodes-chars s.before w) ∙ (sym (items_len-ones s.before) ∙ s.length_is));
        },
        λ m k. h.1 m (text_stands m k),
      )
