-- How many items there are, and whether more are wanted.
use Rattle.std.proofs.Common.{◌≡◌, ℕ, ◌+◌, ◌<◌, ◌≤◌, List, [], ◌∷◌, ◌++◌, length, arith, refl}

pub is_below : {count n k : ℕ} → count < n → count ≡ k → k < n
is_below h e = omega (arith, h, e)

pub is_over : {count n k : ℕ} → n ≤ count → count ≡ k → k < n → ⊥
is_over h e z = omega (arith, h, z, e)

pub one_longer : {V : Type 0} (vs : List V) (v : V) {count : ℕ} → count ≡ length vs → count + 1 ≡ length (vs ++ v ∷ [])
one_longer {V} vs v e = omega (arith, e, more vs)
  where
    more : (us : List V) → length (us ++ v ∷ []) ≡ length us + 1
    more [] = refl
    more (u ∷ us) = omega (arith, more us)
