-- The turns of a loop over an iterator that counts from 0 to m. The loop began at s, and a turn begins at i.
use Rattle.std.specs.Prelude.{◌≡◌, ℕ, ◌<◌, ◌≤◌, List, length, Option, Some, None}
use Rattle.std.specs.Iterator.{Yields}
use Rattle.std.proofs.Common.{subst, sym}
use Rattle.nom_values.specs.Ranges.{CountsTo}

module _ {S : Type 0} (steps : S → Option ℕ → S → Type 0) (m : ℕ) {made s : S} (counts : CountsTo steps (λ k. k) (Some m) made) (same : s ≡ made) where
  count_turns : CountsTo steps (λ k. k) (Some m) s
  count_turns = let P : S → Type 0 = CountsTo steps (λ k. k) (Some m) in subst P (sym same) counts

  -- an item is the number of the items before it, and is below m
  pub count_comes : {i t : S} {k : ℕ} (xs : List ℕ) → Yields steps s xs i → steps i (Some k) t → (length xs < m) × (k ≡ length xs)
  count_comes {i} {t} {k} xs before turn = count_turns xs (Some k) t (i, before, turn)

  -- and the end comes after m items
  pub count_ends : {i t : S} (xs : List ℕ) → Yields steps s xs i → steps i None t → m ≤ length xs
  count_ends {i} {t} xs before turn = count_turns xs None t (i, before, turn)
