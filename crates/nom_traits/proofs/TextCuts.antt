-- The cuts of texts.
use Rattle.std.proofs.Common.{◌≡◌, ℕ, ◌+◌, ◌-◌, ◌<◌, ◌≤◌, ◌^◌, ◌++◌, List, [], ◌∷◌, Bor, true, length, take, drop, sym, ◌∙◌, ap, subst, refl, arith}
use Rattle.std.proofs.Common.{length-append}
use Rattle.std.specs.Prelude.{chars, encode_utf8_all, IsUtf8, IsCharBoundary}
use Rattle.std.specs.Char.{len_utf8}
use Rattle.std.specs.Str.{all_scalars}
use Rattle.std.proofs.Math.Utf8.{scalar}
use Rattle.std.proofs.Math.Seq.{take-append_seam, drop-append_seam}
use Rattle.std.proofs.lemmas.Str.{chars-encodes, encodes-append, encodes-chars, scalars-chars, IsCharBoundary-at_seam}
use Rattle.nom_traits.specs.Input.{items_len, IsBoundary, IsPrefixOf, IsSuffixOf}
use Rattle.nom_traits.specs.Text.{text_model, both, items_len-text}

scalars_parts : (xs ys : List ℕ) → all_scalars (xs ++ ys) ≡ true → (all_scalars xs ≡ true) × (all_scalars ys ≡ true)
scalars_parts [] ys h = (refl, h)
scalars_parts (x ∷ xs) ys h =
    let b = both (scalar x) (all_scalars (xs ++ ys)) h in
    let r = scalars_parts xs ys b.1 in
    (simp (b.0, r.0), r.1)

-- the length of a text in bytes is that of its characters
pub text_length : (bs : List ℕ) → IsUtf8 bs → items_len len_utf8 (chars bs) ≡ length bs
text_length bs u = items_len-text (chars bs) ∙ ap length (encodes-chars bs u)

-- what stands before and after a place, as bytes
pub record IsCut (bs : List ℕ) (n : ℕ) : Type 0 where
  pub front : List ℕ
  pub rest : List ℕ
  pub whole : chars bs ≡ front ++ rest
  pub length_is : n ≡ length (encode_utf8_all front)
  pub bytes_are : bs ≡ encode_utf8_all front ++ encode_utf8_all rest
  pub front_is : all_scalars front ≡ true
  pub rest_is : all_scalars rest ≡ true

pub is_cut : (i : Bor (List ℕ)) (n : ℕ) → IsUtf8 i.now → IsBoundary text_model i n → IsCut i.now n
is_cut i n u p =
    let s = scalars_parts p.front p.rest (sym (ap all_scalars p.whole) ∙ scalars-chars i.now u) in
    record {
      front = p.front;
      rest = p.rest;
      whole = p.whole;
      length_is = sym p.length_is ∙ items_len-text p.front;
      bytes_are = sym (encodes-chars i.now u) ∙ ap encode_utf8_all p.whole ∙ encodes-append p.front p.rest;
      front_is = s.0;
      rest_is = s.1;
    }

pub place_boundary : (i : Bor (List ℕ)) (n : ℕ) → text_model.IsKnown i → IsBoundary text_model i n → IsCharBoundary i.now n
place_boundary i n u p =
    let c = is_cut i n u.0 p in
    subst (λ k. IsCharBoundary i.now k) (sym c.length_is)
    (IsCharBoundary-at_seam i.now (encode_utf8_all c.front) (encode_utf8_all c.rest) c.bytes_are (c.rest, (c.rest_is, refl)))

taken : (xs ys zs : List ℕ) (n : ℕ) → xs ≡ ys ++ zs → n ≡ length ys → take n xs ≡ ys
taken xs ys zs n e f = rw (e, f) (take-append_seam ys zs)

dropped : (xs ys zs : List ℕ) (n : ℕ) → xs ≡ ys ++ zs → n ≡ length ys → drop n xs ≡ zs
dropped xs ys zs n e f = rw (e, f) (drop-append_seam ys zs)

-- a list of characters is a text, where its bytes are part of one
part_known : (j : Bor (List ℕ)) (cs : List ℕ) → all_scalars cs ≡ true → j.now ≡ encode_utf8_all cs → length j.now < 2 ^ 63 → text_model.IsKnown j
part_known j cs s e h =
    let text : IsUtf8 j.now = subst IsUtf8 (sym e) (cs, (s, refl)) in
    (text, h, encodes-chars j.now text)

pub text_front : (i j : Bor (List ℕ)) (n : ℕ) → text_model.IsKnown i → IsBoundary text_model i n → j.now ≡ take n i.now → IsPrefixOf text_model i n j
text_front i j n u p e =
    let c = is_cut i n u.0 p in
    let b : j.now ≡ encode_utf8_all c.front = e ∙ taken i.now (encode_utf8_all c.front) (encode_utf8_all c.rest) n c.bytes_are c.length_is in
    let f : chars j.now ≡ c.front = ap chars b ∙ chars-encodes c.front c.front_is in
    record {
      known = part_known j c.front c.front_is b
          (omega (arith, u.1, ap length b, ap length c.bytes_are, length-append (encode_utf8_all c.front) (encode_utf8_all c.rest)));
      rest = c.rest;
      whole = c.whole ∙ ap (λ l. l ++ c.rest) (sym f);
      length_is = ap (items_len len_utf8) f ∙ items_len-text c.front ∙ sym c.length_is;
      mark_is = refl;
    }

pub text_rest : (i j : Bor (List ℕ)) (n : ℕ) → text_model.IsKnown i → IsBoundary text_model i n → j.now ≡ drop n i.now → IsSuffixOf text_model i n j
text_rest i j n u p e =
    let c = is_cut i n u.0 p in
    let b : j.now ≡ encode_utf8_all c.rest = e ∙ dropped i.now (encode_utf8_all c.front) (encode_utf8_all c.rest) n c.bytes_are c.length_is in
    let f : chars j.now ≡ c.rest = ap chars b ∙ chars-encodes c.rest c.rest_is in
    record {
      known = part_known j c.rest c.rest_is b
          (omega (arith, u.1, ap length b, ap length c.bytes_are, length-append (encode_utf8_all c.front) (encode_utf8_all c.rest)));
      front = c.front;
      whole = c.whole ∙ ap (λ l. c.front ++ l) (sym f);
      length_is = items_len-text c.front ∙ sym c.length_is;
      mark_is = refl;
    }

-- what stands before a rest, in bytes
rest_bytes : (i j : Bor (List ℕ)) (n : ℕ) → text_model.IsKnown i → IsSuffixOf text_model i n j → length i.now ≡ n + length j.now
rest_bytes i j n u p =
    let bytes : i.now ≡ encode_utf8_all p.front ++ j.now = sym (encodes-chars i.now u.0) ∙
    (ap encode_utf8_all p.whole ∙ (encodes-append p.front (chars j.now) ∙ ap (λ l. encode_utf8_all p.front ++ l) (encodes-chars j.now p.known.0))) in
    omega (arith, ap length bytes, length-append (encode_utf8_all p.front) j.now, items_len-text p.front, p.length_is)

pub rest_within : (i j : Bor (List ℕ)) (n : ℕ) → text_model.IsKnown i → IsSuffixOf text_model i n j → length j.now ≤ length i.now
rest_within i j n u p = omega (arith, rest_bytes i j n u p)

-- where a rest begins: the difference of the lengths in bytes
pub text_offset : (i j : Bor (List ℕ)) (n : ℕ) → text_model.IsKnown i → IsSuffixOf text_model i n j → IsSuffixOf text_model i (length i.now - length j.now) j
text_offset i j n u p =
    let same : n ≡ length i.now - length j.now = omega (arith, rest_bytes i j n u p) in
    subst (λ m. IsSuffixOf text_model i m j) same p
