-- Lanes of bytes that are in a list.
use Rattle.std.proofs.Common.{◌≡◌, ℕ, ◌+◌, ◌%◌, ◌^◌, ◌<◌, ◌≤◌, cond, min, Bool, true, false}
use Rattle.std.proofs.Common.{not, List, [], ◌∷◌, ◌++◌, length, map, take, get_or, Fits, w8, nat_eq}
use Rattle.std.proofs.Common.{refl, sym, ap, ap₂, ◌∙◌, arith, inl, inr, add-one, ltb, ◌||◌, suc, replicate, Bor}
use Rattle.std.proofs.Math.Seq.{take-suc}
use Rattle.std.proofs.lemmas.Bool.{cases_Bool, cases_eq, cases_lt, ltb-true, ltb-false, eqb-true, eqb-false, eq-eqb, ne_eqb}
use Rattle.std.proofs.lemmas.List.{length-map}
use Rattle.std.proofs.lemmas.Simd.{tops_compared, bitmask_splat}
use lib.Lanes.{zip2, sel_l, mask_l, top, Each1}
use Rattle.nom_traits.specs.declared.character.CodeSet.{CodeSet}
use Rattle.nom_traits.specs.declared.character.CodeSet.TheVariants as Set
use Rattle.nom_traits.specs.Classes.{in_set, is_listed}
use Rattle.nom_traits.specs.Lanes.{above, nearest}

map_as : (f g : ℕ → ℕ) → ((b : ℕ) → f b ≡ g b) → (v : List ℕ) → map f v ≡ map g v
map_as f g same [] = refl
map_as f g same (b ∷ v) = ap₂ (λ x xs. x ∷ xs) (same b) (map_as f g same v)

-- `simd_min` takes the lesser of two lanes
lesser : (x y : ℕ) → cond (ltb x y) x y ≡ min x y
lesser x y =
    elim (cases_Bool (ltb x y)) [
      | inl less ↦ let h : x ≡ min x y = omega (arith, ltb-true x y less) in ap (λ t. cond t x y) less ∙ h
      | inr more ↦ let h : y ≡ min x y = omega (arith, ltb-false x y more) in ap (λ t. cond t x y) more ∙ h
    ]

lesser_lanes : (f g : ℕ → ℕ) (v : List ℕ) → sel_l (zip2 ltb (map f v) (map g v)) (map f v) (map g v) ≡ map (λ b. min (f b) (g b)) v
lesser_lanes f g [] = refl
lesser_lanes f g (b ∷ v) = ap₂ (λ x xs. x ∷ xs) (lesser (f b) (g b)) (lesser_lanes f g v)

nearest_one_more : (list : List ℕ) (c b : ℕ) → nearest (list ++ (c ∷ [])) b ≡ min (nearest list b) (above c b)
nearest_one_more [] c b = omega arith
nearest_one_more (x ∷ list) c b = omega (arith, nearest_one_more list c b)

-- one byte more of the list
pub nearer : (list v xs ys : List ℕ) (k : ℕ) → k < length list → xs ≡ map (nearest (take k list)) v → ys ≡ map (above (get_or list k 0)) v →
    sel_l (map (top 7) (zip2 (λ a b. cond (ltb a b) 255 0) xs ys)) xs ys ≡ map (nearest (take (k + 1) list)) v
nearer list v xs ys k inside e h =
    let f = nearest (take k list) in
    let g = above (get_or list k 0) in
    let longer : take (k + 1) list ≡ take k list ++ (get_or list k 0 ∷ []) = ap (λ n. take n list) (add-one k) ∙ take-suc list k 0 inside in
    ap₂ (λ x y. sel_l (map (top 7) (zip2 (λ a b. cond (ltb a b) 255 0) x y)) x y) e h ∙
    (ap (λ ms. sel_l ms (map f v) (map g v)) (tops_compared w8 ltb (map f v) (map g v)) ∙
    (lesser_lanes f g v ∙ map_as (λ b. min (f b) (g b)) (nearest (take (k + 1) list))
    (λ b. sym (ap (λ l. nearest l b) longer ∙ nearest_one_more (take k list) (get_or list k 0) b)) v))

least_zero : (x y : ℕ) → min x y ≡ 0 → (x ≡ 0 → ⊥) → (y ≡ 0 → ⊥) → ⊥
least_zero x y z f g = elim (cases_lt x y) [ inl h ↦ f (omega (arith, z, h)) | inr h ↦ g (omega (arith, z, h)) ]

not_twice : (b : Bool) → not (not b) ≡ b
not_twice true = refl
not_twice false = refl

min_zero_by : (x y : ℕ) (a b : Bool) → nat_eq x 0 ≡ a → nat_eq y 0 ≡ b → nat_eq (min x y) 0 ≡ (a || b)
min_zero_by x y true b g h = let z : min x y ≡ 0 = omega (arith, eqb-true x 0 g) in eq-eqb (min x y) 0 z
min_zero_by x y false true g h = let z : min x y ≡ 0 = omega (arith, eqb-true y 0 h) in eq-eqb (min x y) 0 z
min_zero_by x y false false g h = ne_eqb (min x y) 0 (λ z. least_zero x y z (eqb-false x 0 g) (eqb-false y 0 h))

min_zero : (x y : ℕ) → nat_eq (min x y) 0 ≡ (nat_eq x 0 || nat_eq y 0)
min_zero x y = min_zero_by x y (nat_eq x 0) (nat_eq y 0) refl refl

-- a byte lies nowhere after itself alone
above_zero : (c b : ℕ) → c < 256 → b < 256 → nat_eq (above c b) 0 ≡ nat_eq c b
above_zero c b small fits =
    elim (cases_eq c b) [
      | inl same ↦ let z : above c b ≡ 0 = omega (arith, same, small) in eq-eqb (above c b) 0 z ∙ sym (eq-eqb c b same)
      | inr other ↦ ne_eqb (above c b) 0 (λ z. other (omega (arith, z, small, fits))) ∙ sym (ne_eqb c b other)
    ]

-- the nearest byte of a list is 0 away from its own bytes alone
nearest_zero : (list : List ℕ) (b : ℕ) → ((i : ℕ) → get_or list i 0 < 256) → b < 256 → nat_eq (nearest list b) 0 ≡ is_listed list b
nearest_zero [] b small fits = refl
nearest_zero (c ∷ list) b small fits =
    min_zero (above c b) (nearest list b) ∙
    ap₂ (λ x y. x || y) (above_zero c b (small 0) fits) (nearest_zero list b (λ i. small (suc i)) fits)

module _ (list : Bor (List ℕ)) (small : (i : ℕ) → get_or list.now i 0 < 256) where
  tests_as : (f g : ℕ → Bool) → ((b : ℕ) → b < 256 → f (nearest list.now b) ≡ g b) → (v : List ℕ) → Each1 (Fits w8) v →
      map f (map (nearest list.now) v) ≡ map g v
  tests_as f g same [] fits = refl
  tests_as f g same (b ∷ v) fits = ap₂ (λ x xs. x ∷ xs) (same b fits.0.fits) (tests_as f g same v fits.1)

  module _ (n : ℕ) (v z : List ℕ) (few : n ≤ 64) (long : length v ≡ n) (fits : Each1 (Fits w8) v) (made : z ≡ map (nearest list.now) v) (set : CodeSet) where
    made_long : length z ≡ n
    made_long = ap length made ∙ (length-map v (nearest list.now) ∙ long)

    abbrev fails : CodeSet → ℕ
    fails s = mask_l (map (λ b. not (in_set s b)) v)

    -- the bytes that aren't in the list
    pub unlisted_marks : set ≡ Set.OneOf list → mask_l (map (top 7) (zip2 (λ a b. cond (not (nat_eq a b)) 255 0) z (replicate n 0))) % 2 ^ 64 ≡ fails set
    unlisted_marks is =
        bitmask_splat w8 (λ a b. not (nat_eq a b)) z n 0 made_long few
        ∙ (ap mask_l (ap (map (λ x. not (nat_eq x 0))) made ∙ tests_as _ _ (λ b h. ap not (nearest_zero list.now b small h)) v fits) ∙ ap fails (sym is))

    -- the bytes that are in the list
    pub listed_marks : set ≡ Set.NoneOf list → mask_l (map (top 7) (zip2 (λ a b. cond (nat_eq a b) 255 0) z (replicate n 0))) % 2 ^ 64 ≡ fails set
    listed_marks is =
        bitmask_splat w8 nat_eq z n 0 made_long few
        ∙ (ap mask_l (ap (map (λ x. nat_eq x 0)) made
        ∙ tests_as _ _ (λ b h. nearest_zero list.now b small h ∙ sym (not_twice (is_listed list.now b))) v fits) ∙ ap fails (sym is))
