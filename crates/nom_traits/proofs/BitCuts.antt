-- Rests of bits, by their lengths.
use Rattle.std.proofs.Common.{◌≡◌, ℕ, ◌+◌, ◌-◌, ◌*◌, ◌/◌, ◌%◌, ◌<◌, ◌≤◌, [], length, refl, take, drop, sym, ◌∙◌, ap, subst, arith}
use Rattle.std.proofs.lemmas.List.{length-drop, length-take-le, take-append-drop}
use Rattle.nom_traits.specs.Cuts.{CutsAs}
use Rattle.nom_traits.specs.Input.{Model, InputLaws, IsBoundary, IsSuffixOf, input_len}
use Rattle.nom_traits.specs.Rests.{items_len-ones}
use Rattle.nom_traits.specs.Slices.{IsCount}
use Rattle.nom_traits.specs.Bits.{all_bits, AreBytes, bits_model}
use Rattle.nom_traits.specs.BitLists.{length-all_bits}
use Rattle.nom_traits.specs.BitPlaces.{BeginsLater, passes_bits}

module _ {I : Type 0} (w : Model I ℕ) where
  pub bits_len : (i : I × ℕ) → input_len (bits_model w) i ≡ 8 * length (w.elements i.0) - i.1
  bits_len i = items_len-ones ((bits_model w).elements i) ∙ (length-drop i.1 (all_bits (w.elements i.0)) ∙
      ap (λ n. n - i.1) (length-all_bits (w.elements i.0)))

  -- so many bits are a front
  bits_front : (i : I × ℕ) (n : ℕ) → n ≤ input_len (bits_model w) i → IsBoundary (bits_model w) i n
  bits_front i n h =
      let bs = (bits_model w).elements i in
      let within : n ≤ length bs = omega (arith, items_len-ones bs, h) in
      record { front = take n bs; rest = drop n bs; whole = sym (take-append-drop n bs); length_is = items_len-ones (take n bs) ∙ length-take-le n bs within }

  -- all is as long as left
  pub bits_all : (i left : I × ℕ) → w.IsKnown i.0 → input_len (bits_model w) left ≡ input_len (bits_model w) i → (n : ℕ) ×
      CutsAs (bits_model w) i n left × IsSuffixOf (bits_model w) i n i
  bits_all i left h e = (
    0,
    record { length_is = omega (arith, e); place = record { front = []; rest = (bits_model w).elements i; whole = refl; length_is = refl } },
    record { known = h; front = []; whole = refl; length_is = refl; mark_is = refl },
  )

  -- the bits before what is left, from the start of the bytes, are within them
  pub bits_within : (i left : I × ℕ) → input_len (bits_model w) left ≤ input_len (bits_model w) i → input_len (bits_model w) left ≤ 8 * length (w.elements i.0)
  bits_within i left h = omega (arith, bits_len i, h)

  pub bits_rest : InputLaws w → ((x : I) → w.IsKnown x → AreBytes (w.elements x)) → (i left : I × ℕ) (j : I) (p k : ℕ) → w.IsKnown i.0 →
      input_len (bits_model w) left < input_len (bits_model w) i → p ≡ 8 * length (w.elements i.0) - input_len (bits_model w) left →
      IsCount w i.0 (p / 8) k → IsSuffixOf w i.0 k j → (n : ℕ) × CutsAs (bits_model w) i n left × IsSuffixOf (bits_model w) i n (j, p % 8)
  bits_rest l values i left j p k known less e count rest =
      let n = input_len (bits_model w) i - input_len (bits_model w) left in
      let there : n + i.1 ≡ p = omega (arith, bits_len i, less, e) in
      let place = bits_front i n (omega arith) in
      let counted = subst (λ m. IsCount w i.0 (m / 8) k) (sym there) count in
      let passed = passes_bits w l values i.0 j i.1 n k known place counted rest in
      (n, record { length_is = omega (arith, less); place = place }, subst (λ m. IsSuffixOf (bits_model w) i n (j, m % 8)) there passed)

  -- whole bytes on: the bits left begin in the first byte left
  pub bits_later : InputLaws w → ((x : I) → w.IsKnown x → AreBytes (w.elements x)) → (i left : I × ℕ) (j : I) (k have kept : ℕ) → w.IsKnown i.0 →
      have ≡ length (w.elements i.0) → kept ≡ length (w.elements left.0) → BeginsLater have i.1 kept left.1 → IsCount w i.0 (have - kept) k →
      IsSuffixOf w i.0 k j → (n : ℕ) × CutsAs (bits_model w) i n left × IsSuffixOf (bits_model w) i n (j, left.1)
  bits_later l values i left j k have kept known e f later count rest =
      let p = 8 * (have - kept) + left.1 in
      let less : input_len (bits_model w) left < input_len (bits_model w) i = omega (arith, bits_len i, bits_len left, e, f, later.fewer) in
      let place : p ≡ 8 * length (w.elements i.0) - input_len (bits_model w) left =
      omega (arith, bits_len left, e, f, later.some, later.within, later.left_in) in
      let byte : have - kept ≡ p / 8 = omega (arith, later.left_in) in
      let bit : p % 8 ≡ left.1 = omega (arith, later.left_in) in
      let found = bits_rest l values i left j p k known less place (subst (λ m. IsCount w i.0 m k) byte count) rest in
      (found.0, found.1, subst (λ m. IsSuffixOf (bits_model w) i found.0 (j, m)) bit found.2)
