-- Iterators that count from 0.
use Rattle.std.specs.Prelude.{◌≡◌, ℕ, ◌+◌, ◌-◌, ◌^◌, ◌<◌, ◌≤◌, min, List, [], ◌∷◌, length, Option, Some, None, MatchOption}
use Rattle.std.specs.Option.{option_map}
use Rattle.std.specs.Iterator.{YieldsThen}
use Rattle.std.specs.Range.{range_steps}
use Rattle.std.specs.declared.ops.Range.{Range}
use Rattle.std.proofs.Common.{arith, refl, sym, ◌∙◌, ap, zero-add, suc}
use Rattle.nom_values.specs.Ranges.{Counts}
use Rattle.nom_values.specs.declared.saturating.SaturatingIterator.{SaturatingIterator}

abbrev Steps : Range ℕ → Option ℕ → Range ℕ → Type 0
Steps = range_steps (λ x y. y - x) (λ x y. y ≡ x + 1)

-- what a range from a to b answers after n items
abbrev CountsFrom : ℕ → ℕ → ℕ → Option ℕ → Type 0
CountsFrom a b n r = MatchOption r (b ≤ a + n) (λ k. (a + n < b) × (k ≡ a + n))

one_turn : (a b : ℕ) (s : Range ℕ) (r : Option ℕ) (t : Range ℕ) → s.start ≡ a → s.end ≡ b → Steps s r t → CountsFrom a b 0 r
one_turn a b s None t e f h = let left = h.1.0 in omega arith
one_turn a b s (Some k) t e f h = (let left = h.1.0 in omega arith, let is = h.1.1 in omega arith)

moved : (a b n : ℕ) (r : Option ℕ) → CountsFrom (a + 1) b n r → CountsFrom a b (suc n) r
moved a b n None h = omega arith
moved a b n (Some k) h = (let below = h.0 in omega arith, let is = h.1 in omega arith)

range_from : (a b : ℕ) (s : Range ℕ) (xs : List ℕ) (r : Option ℕ) (u : Range ℕ) → s.start ≡ a → s.end ≡ b → YieldsThen Steps s xs r u →
    CountsFrom a b (length xs) r
range_from a b s [] r u e f (t, same, last) = one_turn a b t r u (ap (λ q. q.start) (sym same) ∙ e) (ap (λ q. q.end) (sym same) ∙ f) last
range_from a b s (x ∷ xs) r u e f (t, (j, step, more), last) =
    moved a b (length xs) r (range_from (a + 1) b j xs r u (step.1.2 ∙ ap (λ n. n + 1) e) (step.0 ∙ f) (t, more, last))

from_zero : (m n : ℕ) (r : Option ℕ) → CountsFrom 0 m n r → Counts (Some m) n (option_map (λ k. k) r)
from_zero m n None h = omega arith
from_zero m n (Some k) h = (let below = h.0 in omega arith, let is = h.1 in omega arith)

pub range_counts : (m : ℕ) (xs : List ℕ) (r : Option ℕ) (u : Range ℕ) → YieldsThen Steps (record { start = 0; end = m }) xs r u →
    Counts (Some m) (length xs) (option_map (λ k. k) r)
range_counts m xs r u h = from_zero m (length xs) r (range_from 0 m (record { start = 0; end = m }) xs r u refl refl h)

abbrev EndlessSteps : SaturatingIterator → Option ℕ → SaturatingIterator → Type 0
EndlessSteps s r t = (r ≡ Some s.count) × (t.count ≡ min (s.count + 1) (2 ^ 64 - 1))

capped_on : (k n c : ℕ) → c ≡ min (k + 1) (2 ^ 64 - 1) → min (c + n) (2 ^ 64 - 1) ≡ min (k + suc n) (2 ^ 64 - 1)
capped_on k n c e = omega arith

-- the count is at most the last `usize`, except that of the first state, which is given
endless_from : (k : ℕ) (s : SaturatingIterator) (xs : List ℕ) (r : Option ℕ) (u : SaturatingIterator) → s.count ≡ k → k ≤ 2 ^ 64 - 1 →
    YieldsThen EndlessSteps s xs r u → r ≡ Some (min (k + length xs) (2 ^ 64 - 1))
endless_from k s [] r u e fits (t, same, last) = last.0 ∙ ap Some (ap (λ q. q.count) (sym same) ∙ e ∙ (omega arith))
endless_from k s (x ∷ xs) r u e fits (t, (j, step, more), last) =
    let moved : j.count ≡ min (k + 1) (2 ^ 64 - 1) = step.1 ∙ ap (λ n. min (n + 1) (2 ^ 64 - 1)) e in
    endless_from j.count j xs r u refl (omega arith) (t, more, last) ∙ ap Some (capped_on k (length xs) j.count moved)

pub endless_counts : (xs : List ℕ) (r : Option ℕ) (u : SaturatingIterator) → YieldsThen EndlessSteps (record { count = 0 }) xs r u →
    Counts None (length xs) (option_map (λ k. k) r)
endless_counts xs r u h =
    let is : r ≡ Some (min (0 + length xs) (2 ^ 64 - 1)) = endless_from 0 (record { count = 0 }) xs r u refl (omega arith) h in
    ap (option_map (λ k. k)) is ∙ ap Some (ap (λ n. min n (2 ^ 64 - 1)) (zero-add (length xs)))
