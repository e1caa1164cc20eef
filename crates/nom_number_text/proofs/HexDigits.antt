-- Digits in base 16, one by one.
use Rattle.std.proofs.Common.{◌≡◌, ℕ, ◌+◌, ◌-◌, ◌*◌, ◌<◌, ◌≤◌, suc, zero, Option, Some, None, List, [], ◌∷◌, ◌++◌, map, length, refl, sym, ◌∙◌, ap}
use Rattle.std.proofs.Common.{arith, append_assoc, append-nil, length-append}
use Rattle.std.specs.Iterator.{AlwaysYields}
use Rattle.std.proofs.lemmas.Bool.Decides.{nat_tests}
use Rattle.std.proofs.lemmas.List.{map-append}
use Rattle.nom_internal.specs.Prelude.{digits_after, value_of, value_more}
use Rattle.nom_character_first.proofs.Firsts.{some_given, none_given}
use Rattle.nom_number_text.specs.Hex.{hex_value, hex_number}

-- how many numbers that many digits write
abbrev room : ℕ → ℕ
room zero = 1
room (suc k) = 16 * room k

some_room : (k : ℕ) → 0 < room k
some_room zero = let e : room 0 ≡ 1 = refl in omega (arith, e)
some_room (suc k) = let e : room (suc k) ≡ 16 * room k = refl in omega (arith, e, some_room k)

hex_below : (c : ℕ) → hex_value c < 16
hex_below c = grind (arith, nat_tests)

step : (v d e p m : ℕ) → d + e ≡ 15 → m < (16 * v + d + 1) * p → m < (v + 1) * (16 * p)
step v d e p m h k = omega (arith, k, ap (λ z. z * p) h)

more_room : (v k : ℕ) → v < (v + 1) * room k
more_room v k = by (room k) (some_room k)
  where
    by : (r : ℕ) → 0 < r → v < (v + 1) * r
    by zero h = absurd (omega (arith, h))
    by (suc r) h = omega arith

module _ {A : Type 0} (code : A → ℕ) where
  within : (v k : ℕ) (xs : List A) → length xs ≤ k → digits_after 16 v (map (λ x. hex_value (code x)) xs) < (v + 1) * room k
  within v k [] h = more_room v k
  within v zero (x ∷ xs) h = absurd (omega (arith, h))
  within v (suc k) (x ∷ xs) h =
      let d = hex_value (code x) in
      let rest : d + (15 - d) ≡ 15 = omega (arith, hex_below (code x)) in
      step v d (15 - d) (room k) _ rest (within (16 * v + d) k xs (omega (arith, h)))

  -- at most eight digits write a number below 2^32
  pub eight_fit : (xs : List A) → length xs ≤ 8 → hex_number code xs < 4294967296
  eight_fit xs h = let e : room 8 ≡ 4294967296 = refl in omega (arith, e, within 0 8 xs h)

  module _ {S : Type 0} (steps : S → Option A → S → Type 0) where
    -- the digits that were passed, with their number; s gives the others
    pub record IsHexRead (xs : List A) (number : ℕ) (s : S) : Type 0 where
      pub passed : List A
      pub rest : List A
      pub whole : xs ≡ passed ++ rest
      pub gives : AlwaysYields steps (λ x. x) s rest
      pub number_is : number ≡ hex_number code passed

    pub hex_begins : (xs : List A) (s : S) → AlwaysYields steps (λ x. x) s xs → IsHexRead xs 0 s
    hex_begins xs s h = record { passed = []; rest = xs; whole = refl; gives = h; number_is = refl }

    module _ (xs : List A) (number : ℕ) (s t : S) (r : IsHexRead xs number s) where
      pub hex_ends : steps s None t → number ≡ hex_number code xs
      hex_ends k =
          let none = none_given steps s t r.rest r.gives k in
          r.number_is ∙ ap (hex_number code) (sym (r.whole ∙ (ap (λ ys. r.passed ++ ys) none ∙ append-nil r.passed)))

      module _ (x : A) (k : steps s (Some x) t) where
        next : (ys : List A) × (r.rest ≡ x ∷ ys) × AlwaysYields steps (λ p. p) t ys
        next = some_given steps s t x r.rest r.gives k

        whole_next : xs ≡ (r.passed ++ x ∷ []) ++ next.0
        whole_next = r.whole ∙ (ap (λ ys. r.passed ++ ys) next.1 ∙ sym (append_assoc r.passed (x ∷ []) next.0))

        number_next : 16 * number + hex_value (code x) ≡ hex_number code (r.passed ++ x ∷ [])
        number_next = ap (λ n. 16 * n + hex_value (code x)) r.number_is ∙
            sym (ap (value_of 16) (map-append (λ y. hex_value (code y)) r.passed (x ∷ [])) ∙
            value_more 16 0 (hex_value (code x)) (map (λ y. hex_value (code y)) r.passed))

        pub hex_fits : length xs ≤ 8 → 16 * number + hex_value (code x) < 4294967296
        hex_fits h = omega (
          arith,
          number_next,
          eight_fit (r.passed ++ x ∷ []) (omega (arith, h, ap length whole_next, length-append (r.passed ++ x ∷ []) next.0)),
        )

        pub hex_goes_on : IsHexRead xs (16 * number + hex_value (code x)) t
        hex_goes_on = record { passed = r.passed ++ x ∷ []; rest = next.0; whole = whole_next; gives = next.2; number_is = number_next }
