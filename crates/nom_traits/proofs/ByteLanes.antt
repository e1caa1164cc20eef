-- Blocks of bytes, lane by lane.
use Rattle.std.proofs.Common.{◌≡◌, ℕ, ◌+◌, ◌%◌, ◌^◌, ◌<◌, ◌≤◌, leb, cond, Bool, true, not, List, [], ◌∷◌, length, map, take, get_or, replicate, Fits}
use Rattle.std.proofs.Common.{w8, refl, sym, ap, ap₂, ◌∙◌, subst, arith, inl, inr}
use Rattle.std.proofs.lemmas.Bool.{agree_below, agree_below_at, not-true, not-false, cases_lt}
use Rattle.std.proofs.lemmas.Simd.{zip2_splat_left, map-map, mask_l-mod, length-chunk, leading_from_mask_l, trailing_mask_l, run_in_chunk_le}
use Rattle.std.proofs.lemmas.Simd.{run_in_chunk_fails, run_in_chunk_stops}
use Rattle.std.proofs.lemmas.List.{length-map, length-take-le, get_or-take}
use Rattle.std.proofs.lemmas.List.Elements.{All-from_get_or, All-get_or}
use Rattle.std.specs.List.{All, prefix_len}
use lib.Count.{count_trailing_zeros}
use lib.Lanes.{chunk, zip2, mask_l, top, Each1}
use Rattle.nom_traits.specs.declared.character.AsciiClass.{AsciiClass}
use Rattle.nom_traits.specs.Classes.{has_code}
use Rattle.nom_traits.specs.Lanes.{above, lower_case, IsRunWithin}

abbrev pub at_most : ℕ → ℕ → ℕ
at_most x y = cond (leb x y) 255 0

-- `simd_ge`, whose sides are turned, of lanes that are computed from v
at_least : {n : ℕ} (v a : List ℕ) (f : ℕ → ℕ) (count : ℕ) → length v ≡ n → a ≡ map f v →
    zip2 at_most (replicate n count) a ≡ map (λ b. at_most count (f b)) v
at_least {n} v a f count long e =
    ap (zip2 at_most (replicate n count)) e
    ∙ zip2_splat_left at_most count n (map f v) (length-map v f ∙ long)
    ∙ map-map (at_most count) f v

pub not_digits : {n : ℕ} (v a : List ℕ) (count : ℕ) → length v ≡ n → a ≡ map (above 48) v →
    zip2 at_most (replicate n count) a ≡ map (λ b. at_most count (above 48 b)) v
not_digits v a count long e = at_least v a (above 48) count long e

pub not_letters : {n : ℕ} (v low a : List ℕ) (count : ℕ) → length v ≡ n → low ≡ map lower_case v → a ≡ map (above 97) low →
    zip2 at_most (replicate n count) a ≡ map (λ b. at_most count (above 97 (lower_case b))) v
not_letters v low a count long e h = at_least v a (λ b. above 97 (lower_case b)) count long (h ∙ ap (map (above 97)) e ∙ map-map (above 97) lower_case v)

module _ (class k : AsciiClass) (is : class ≡ k) (f : ℕ → ℕ) (all : agree_below (λ b. top 7 (f b)) (λ b. not (has_code k b)) 256 ≡ true) where
  each_lane : (v : List ℕ) → Each1 (Fits w8) v → map (top 7) (map f v) ≡ map (λ b. not (has_code k b)) v
  each_lane [] fits = refl
  each_lane (b ∷ v) fits = ap₂ (λ x xs. x ∷ xs) (agree_below_at (λ x. top 7 (f x)) (λ x. not (has_code k x)) 256 b all fits.0.fits) (each_lane v fits.1)

  -- the bits of a mask are those of the class, if the lanes are for each of the 256 bytes
  pub class_marks : {n : ℕ} (v z : List ℕ) → (n ≤ 64) → length v ≡ n → Each1 (Fits w8) v → z ≡ map f v →
      mask_l (map (top 7) z) % 2 ^ 64 ≡ mask_l (map (λ b. not (has_code class b)) v)
  class_marks {n} v z few long fits e =
      let fails = λ (b : ℕ). not (has_code k b) in
      ap (λ l. mask_l l % 2 ^ 64) (ap (map (top 7)) e ∙ each_lane v fits) ∙ mask_l-mod (map fails v) 64 (omega (arith, length-map v fails, long, few))
      ∙ ap (λ (j : AsciiClass). mask_l (map (λ b. not (has_code j b)) v)) (sym is)

module _ (test : ℕ → Bool) (bytes : List ℕ) (place n : ℕ) (room : place + n ≤ length bytes) where
  fails : ℕ → Bool
  fails b = not (test b)

  long : length (chunk place n bytes) ≡ n
  long = length-chunk place n bytes room

  run_within : (run : ℕ) → run ≡ prefix_len (λ b. not (not (test b))) (chunk place n bytes) → IsRunWithin test bytes place n run
  run_within run counted = record {
    within = run_in_chunk_le (λ b. not (test b)) bytes place n run 0 room counted;
    passes = λ k from to. not-false _ (run_in_chunk_fails (λ b. not (test b)) bytes place n run 0 room counted k from to);
    stops = λ short. not-true _ (run_in_chunk_stops (λ b. not (test b)) bytes place n run 0 room counted short);
  }

  -- a mask without a bit: all pass
  pub block_passes : (m : ℕ) → m ≡ mask_l (map (λ b. not (test b)) (chunk place n bytes)) → m ≡ 0 → IsRunWithin test bytes place n n
  block_passes m e none = run_within n (sym long ∙ sym (leading_from_mask_l (λ b. not (test b)) (chunk place n bytes) (sym e ∙ none)))

  -- a mask with a bit: the lowest is the first that fails
  pub block_stops : (m : ℕ) → n ≤ 64 → m ≡ mask_l (map (λ b. not (test b)) (chunk place n bytes)) → 0 < m →
      IsRunWithin test bytes place n (count_trailing_zeros 64 m)
  block_stops m few e some =
      run_within (count_trailing_zeros 64 m)
      (ap (count_trailing_zeros 64) e ∙ trailing_mask_l (λ b. not (test b)) 64 (chunk place n bytes) (omega (arith, long)) (omega (arith, some, e)))

-- what passes before a block, and in it
pub passed_more : (P : ℕ → Type 0) (bytes : List ℕ) (place run : ℕ) → place + run ≤ length bytes → All P (take place bytes) →
    ((k : ℕ) → place ≤ k → k < place + run → P (get_or bytes k 0)) → All P (take (place + run) bytes)
passed_more P bytes place run room before block =
    All-from_get_or P (take (place + run) bytes) 0 (λ i within.
    let i_in : i < place + run = omega (arith, length-take-le (place + run) bytes room) in
    subst P (sym (get_or-take (place + run) bytes i 0 i_in)) (elim (cases_lt i place) [
      | inl early ↦ subst P (get_or-take place bytes i 0 early)
          (All-get_or P (take place bytes) i 0 (omega (arith, length-take-le place bytes (omega arith))) before)
      | inr late ↦ block i late i_in
    ]))
