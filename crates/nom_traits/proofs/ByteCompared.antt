-- Lemmas on the comparison of bytes.
use Rattle.std.proofs.Common.{◌≡◌, ℕ, ◌≤◌, ◌<◌, ◌+◌, ◌++◌, ◌∷◌, List, length, get_or, take, drop, min, sym, ◌∙◌, ap, subst, arith, length-drop}
use Rattle.std.specs.Char.{to_ascii_lowercase}
use Rattle.std.specs.Str.{str_to_ascii_lowercase}
use Rattle.std.proofs.Math.Seq.{take-append_seam}
use Rattle.std.proofs.lemmas.List.{get_or-take, get_or-map, length-map, length-take-le, take_more_same, take-append-le, take-append-drop, take_all}
use Rattle.nom_traits.specs.declared.compare.CompareResult.TheVariants as Compared
use Rattle.nom_traits.specs.Compares.{ComparesAs}
use Rattle.nom_traits.specs.CompareTags.{IsForm, begun_with}

-- fronts of lists that differ at a place
pub fronts_differ : (xs t : List ℕ) (i n : ℕ) → i < n → (get_or xs i 0 ≡ get_or t i 0 → ⊥) → take n xs ≡ take n t → ⊥
fronts_differ xs t i n h k e = k (sym (get_or-take n xs i 0 h) ∙ (ap (λ ys. get_or ys i 0) e ∙ get_or-take n t i 0 h))

pub fronts_more : (xs t : List ℕ) (i n : ℕ) → n ≡ min (length xs) (length t) → i < n → take i xs ≡ take i t → get_or xs i 0 ≡ get_or t i 0 →
    take (i + 1) xs ≡ take (i + 1) t
fronts_more xs t i n m h e f = take_more_same xs t i 0 (omega (arith, m, h)) (omega (arith, m, h)) e f

pub fronts_are : (xs t : List ℕ) (i n : ℕ) → i ≤ n → n ≤ i → take i xs ≡ take i t → take n xs ≡ take n t
fronts_are xs t i n h k e =
    let same : i ≡ n = omega (arith, h, k) in
    subst (λ m. take m xs ≡ take m t) same e

module _ (form : List ℕ → List ℕ) (f : IsForm form) (xs t : List ℕ) where
  pub form_take : (n : ℕ) → n ≤ length xs → take n (form xs) ≡ form (take n xs)
  form_take n h =
      let parts : form xs ≡ form (take n xs) ++ form (drop n xs) = ap form (sym (take-append-drop n xs)) ∙ f.append (take n xs) (drop n xs) in
      let size : n ≡ length (form (take n xs)) = sym (f.size (take n xs) ∙ length-take-le n xs h) in
      ap (λ ys. take n ys) parts ∙ (ap (λ k. take k (form (take n xs) ++ form (drop n xs))) size ∙ take-append_seam (form (take n xs)) (form (drop n xs)))

  pub compared_ok : (n : ℕ) → n ≡ min (length xs) (length t) → take n (form xs) ≡ take n (form t) → length t ≤ length xs →
      ComparesAs (λ ys. ys) form t xs Compared.Ok
  compared_ok n h e k =
      let whole : take n (form t) ≡ form t = take_all n (form t) (omega (arith, h, f.size t)) in
      record { front = take n xs; rest = drop n xs; whole = sym (take-append-drop n xs); tag_is = sym (form_take n (omega (arith, h))) ∙ (e ∙ whole) }

  pub compared_incomplete : (n : ℕ) → n ≡ min (length xs) (length t) → take n (form xs) ≡ take n (form t) → length xs < length t →
      ComparesAs (λ ys. ys) form t xs Compared.Incomplete
  compared_incomplete n h e k =
      let whole : take n (form xs) ≡ form xs = take_all n (form xs) (omega (arith, h, f.size xs)) in
      begun_with (λ ys. ys) form t xs (drop n (form t)) (omega (arith, h, f.size t, length-drop n (form t)))
      (sym (take-append-drop n (form t)) ∙ ap (λ ys. ys ++ drop n (form t)) (sym e ∙ whole))

  pub compared_error : (n : ℕ) → n ≡ min (length xs) (length t) → (take n (form xs) ≡ take n (form t) → ⊥) → ComparesAs (λ ys. ys) form t xs Compared.Error
  compared_error n h differ = (
    λ k.
        let parts : form xs ≡ form k.front ++ form k.rest = ap form k.whole ∙ f.append k.front k.rest in
        let room : n ≤ length (form k.front) = omega (arith, h, ap length k.tag_is, f.size t) in
        differ (ap (λ ys. take n ys) parts ∙ (take-append-le n (form k.front) (form k.rest) room ∙ ap (λ ys. take n ys) k.tag_is)),
    λ k.
        let room : n ≤ length (form xs) = omega (arith, h, f.size xs) in
        differ (sym (ap (λ ys. take n ys) k.tag_is ∙ take-append-le n (form xs) (k.byte ∷ k.more) room)),
  )

-- ASCII letters folded
pub folded_at : (xs : List ℕ) (i : ℕ) → i < length xs → get_or (str_to_ascii_lowercase xs) i 0 ≡ to_ascii_lowercase (get_or xs i 0)
folded_at xs i h = get_or-map to_ascii_lowercase xs i 0 0 h

pub folded_min : (xs t : List ℕ) (n : ℕ) → n ≡ min (length xs) (length t) → n ≡ min (length (str_to_ascii_lowercase xs)) (length (str_to_ascii_lowercase t))
folded_min xs t n h = omega (arith, h, length-map xs to_ascii_lowercase, length-map t to_ascii_lowercase)

-- what is found at a place of both, with letters folded
pub folded_same : (xs t : List ℕ) (i n x y : ℕ) → n ≡ min (length xs) (length t) → i < n → x ≡ to_ascii_lowercase (get_or xs i 0) →
    y ≡ to_ascii_lowercase (get_or t i 0) → x ≡ y → get_or (str_to_ascii_lowercase xs) i 0 ≡ get_or (str_to_ascii_lowercase t) i 0
folded_same xs t i n x y m h e f g = folded_at xs i (omega (arith, m, h)) ∙ (sym e ∙ (g ∙ (f ∙ sym (folded_at t i (omega (arith, m, h))))))

pub folded_other : (xs t : List ℕ) (i n x y : ℕ) → n ≡ min (length xs) (length t) → i < n → x ≡ to_ascii_lowercase (get_or xs i 0) →
    y ≡ to_ascii_lowercase (get_or t i 0) → (x ≡ y → ⊥) → get_or (str_to_ascii_lowercase xs) i 0 ≡ get_or (str_to_ascii_lowercase t) i 0 → ⊥
folded_other xs t i n x y m h e f g k = g (e ∙ (sym (folded_at xs i (omega (arith, m, h))) ∙ (k ∙ (folded_at t i (omega (arith, m, h)) ∙ sym f))))
