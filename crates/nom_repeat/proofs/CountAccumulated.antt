-- The number of items.
use Rattle.std.proofs.Common.{◌≡◌, ℕ, ◌+◌, ◌%◌, ◌^◌, ◌<◌, ◌∷◌, [], List, Option, Some, None, Bool, true, false, length, refl, sym, arith, ◌∙◌}
use Rattle.std.specs.List.{AllZip}
use Rattle.nom_internal.specs.Prelude.{Built}
use Rattle.nom_repeat.specs.Accumulated.{Adds, Accumulated}

abbrev pub CountPushes : {T : Type 0} → ℕ → T → ℕ → Type 0
CountPushes old x new = new ≡ (old + 1) % 2 ^ 64

zip_length : {V T : Type 0} (P : V → T → Type 0) (vs : List V) (xs : List T) → AllZip P vs xs → length xs ≡ length vs
zip_length P [] [] h = refl
zip_length P [] (x ∷ xs) h = absurd h
zip_length P (v ∷ vs) [] h = absurd h
zip_length P (v ∷ vs) (x ∷ xs) h = omega (arith, zip_length P vs xs h.1)

count_adds : {T : Type 0} (n : ℕ) (xs : List T) (new : ℕ) → n < 2 ^ 64 → Adds CountPushes n xs new → new ≡ (n + length xs) % 2 ^ 64
count_adds n [] new small a = omega (arith, a, small)
count_adds n (x ∷ xs) new small a =
    let pushed : a.0 ≡ (n + 1) % 2 ^ 64 = a.1 in
    let more = count_adds a.0 xs new (omega (arith, pushed)) a.2 in
    omega (arith, pushed, more)

module _ {V T : Type 0} (P : V → T → Type 0) where
  -- of none at first, the number of the trees, as a count of 64 bits has it
  pub count_of_none : (builds : Bool) {before : Option ℕ} → Built builds (λ (n : ℕ). n ≡ 0) before → (vs : List V) (k : ℕ) →
      Accumulated CountPushes (λ _. Unit {0}) P before vs k → k ≡ length vs % 2 ^ 64
  count_of_none builds {before} b vs k h =
      let none : h.first ≡ 0 = first_none builds b in
      let zip : length h.outputs ≡ length vs = zip_length P vs h.outputs h.are_outputs in
      let sum = count_adds h.first h.outputs k (omega (arith, none)) h.added in
      omega (arith, none, zip, sum)
    where
      none_some : (x : ℕ) → None ≡ Some x → ⊥
      none_some x e = absurd (cc (e))

      first_none : (builds : Bool) → Built builds (λ (n : ℕ). n ≡ 0) before → h.first ≡ 0
      first_none true q = let same : h.first ≡ q.0 = cc (h.first_is, q.1) in same ∙ q.2
      first_none false q = absurd (none_some h.first (sym q ∙ h.first_is))
