-- The cuts of bytes.
use Rattle.std.proofs.Common.{◌≡◌, ℕ, ◌-◌, ◌≤◌, ◌<◌, ◌++◌, List, [], ◌∷◌, Bor, length, take, drop, sym, ◌∙◌, ap, subst, refl, arith, length-append}
use Rattle.std.proofs.Math.Seq.{take-append_seam, drop-append_seam}
use Rattle.std.proofs.lemmas.List.{length-take-le, take-append-drop}
use Rattle.nom_traits.specs.Input.{AreValues, IsBoundary, IsPrefixOf, IsSuffixOf}
use Rattle.nom_traits.specs.Rests.{items_len-ones}
use Rattle.nom_traits.specs.Bytes.{bytes_model}
use Rattle.nom_traits.specs.Slices.{IsCount}

values_split : {A : Type 0} (IsValue : A → Type 0) (xs ys : List A) → AreValues IsValue (xs ++ ys) → AreValues IsValue xs × AreValues IsValue ys
values_split IsValue [] ys h = (tt, h)
values_split IsValue (x ∷ xs) ys h = let r = values_split IsValue xs ys h.1 in ((h.0, r.0), r.1)

length_front : (i : Bor (List ℕ)) (n : ℕ) (p : IsBoundary bytes_model i n) → length p.front ≡ n
length_front i n p = sym (items_len-ones p.front) ∙ p.length_is

pub place_within : (i : Bor (List ℕ)) (n : ℕ) → IsBoundary bytes_model i n → n ≤ length i.now
place_within i n p = omega (arith, length_front i n p, ap length p.whole, length-append p.front p.rest)

-- both sides of a cut are inputs
cut_known : (i f r : Bor (List ℕ)) → bytes_model.IsKnown i → i.now ≡ f.now ++ r.now → bytes_model.IsKnown f × bytes_model.IsKnown r
cut_known i f r h e =
    let v = values_split (λ b. b < 256) f.now r.now (subst (λ xs. AreValues (λ b. b < 256) xs) e h.0) in
    ((v.0, omega (arith, h.1, ap length e, length-append f.now r.now)), (v.1, omega (arith, h.1, ap length e, length-append f.now r.now)))

pub bytes_front : (i j : Bor (List ℕ)) (n : ℕ) → bytes_model.IsKnown i → IsBoundary bytes_model i n → j.now ≡ take n i.now → IsPrefixOf bytes_model i n j
bytes_front i j n h p e =
    let taken : take n i.now ≡ p.front =
    ap (λ xs. take n xs) p.whole ∙ (ap (λ k. take k (p.front ++ p.rest)) (sym (length_front i n p)) ∙ take-append_seam p.front p.rest) in
    let same : p.front ≡ j.now = sym taken ∙ sym e in
    let whole = p.whole ∙ ap (λ xs. xs ++ p.rest) same in
    record {
      known = (cut_known i j (record i { now = p.rest }) h whole).0;
      rest = p.rest;
      whole = whole;
      length_is = items_len-ones j.now ∙ (ap length (sym same) ∙ length_front i n p);
      mark_is = refl;
    }

pub bytes_rest : (i j : Bor (List ℕ)) (n : ℕ) → bytes_model.IsKnown i → IsBoundary bytes_model i n → j.now ≡ drop n i.now → IsSuffixOf bytes_model i n j
bytes_rest i j n h p e =
    let dropped : drop n i.now ≡ p.rest =
    ap (λ xs. drop n xs) p.whole ∙ (ap (λ k. drop k (p.front ++ p.rest)) (sym (length_front i n p)) ∙ drop-append_seam p.front p.rest) in
    let same : p.rest ≡ j.now = sym dropped ∙ sym e in
    let whole = p.whole ∙ ap (λ xs. p.front ++ xs) same in
    record {
      known = (cut_known i (record i { now = p.front }) j h whole).1;
      front = p.front;
      whole = whole;
      length_is = p.length_is;
      mark_is = refl;
    }

pub byte_place : (i : Bor (List ℕ)) (n : ℕ) → n ≤ length i.now → IsBoundary bytes_model i n
byte_place i n h = record {
  front = take n i.now;
  rest = drop n i.now;
  whole = sym (take-append-drop n i.now);
  length_is = items_len-ones (take n i.now) ∙ length-take-le n i.now h;
}

pub byte_count : (i : Bor (List ℕ)) (count : ℕ) → count ≤ length i.now → IsCount bytes_model i count count
unfolding byte_place
byte_count i count h = record { place = byte_place i count h; count_is = length-take-le count i.now h }

-- where a rest begins: the difference of the lengths
pub bytes_offset : (i j : Bor (List ℕ)) (n : ℕ) → IsSuffixOf bytes_model i n j → IsSuffixOf bytes_model i (length i.now - length j.now) j
bytes_offset i j n p =
    let same : n ≡ length i.now - length j.now = omega (arith, ap length p.whole, length-append p.front j.now, items_len-ones p.front, p.length_is) in
    subst (λ m. IsSuffixOf bytes_model i m j) same p
