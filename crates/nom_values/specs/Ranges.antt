-- Ranges of counts: what lies within, how many items they allow, and iterators that count them.
use Rattle.std.specs.Prelude.{◌≡◌, ℕ, ◌+◌, ◌-◌, ◌^◌, ◌<◌, ◌≤◌, min, List, length, Option, Some, None, MatchOption}
use Rattle.std.specs.Option.{option_map}
use Rattle.std.specs.Iterator.{YieldsThen}
use Rattle.std.specs.declared.ops.Bound.{Bound}
use Rattle.std.specs.declared.ops.Bound.TheVariants.{Included, Excluded, Unbounded}

-- c isn't before the first end
abbrev pub IsFrom : Bound ℕ → ℕ → Type 0
IsFrom (Included a) c = a ≤ c
IsFrom (Excluded a) c = a < c
IsFrom Unbounded c = Unit {0}

-- c isn't past the second end
abbrev pub IsUpTo : Bound ℕ → ℕ → Type 0
IsUpTo (Included b) c = c ≤ b
IsUpTo (Excluded b) c = c < b
IsUpTo Unbounded c = Unit {0}

abbrev pub IsWithin : Bound ℕ → Bound ℕ → ℕ → Type 0
IsWithin lower upper c = IsFrom lower c × IsUpTo upper c

-- there are two ends, and nothing between them
abbrev pub IsInverted : Bound ℕ → Bound ℕ → Type 0
IsInverted (Included a) (Included b) = b < a
IsInverted (Included a) (Excluded b) = b ≤ a
IsInverted (Excluded a) (Included b) = b ≤ a
IsInverted (Excluded a) (Excluded b) = b ≤ a + 1
IsInverted Unbounded upper = ⊥
IsInverted lower Unbounded = ⊥

-- the fewest items that a range with this first end allows
abbrev pub fewest : Bound ℕ → ℕ
fewest (Included a) = a
fewest (Excluded a) = a + 1
fewest Unbounded = 0

-- the most items for a range with this second end, where there is a bound
abbrev pub most_items : Bound ℕ → Option ℕ
most_items (Included b) = Some b
most_items (Excluded b) = Some (b - 1)
most_items Unbounded = None

-- as many as a `usize` can count, where there is no bound
abbrev pub limit : Option ℕ → ℕ
limit (Some m) = m
limit None = 2 ^ 64 - 1

-- c is at most the bound, or below it, where there is one
abbrev pub IsAtMost : ℕ → Option ℕ → Type 0
IsAtMost c (Some m) = c ≤ m
IsAtMost c None = Unit {0}

abbrev pub IsBelowMost : ℕ → Option ℕ → Type 0
IsBelowMost c (Some m) = c < m
IsBelowMost c None = Unit {0}

-- what an iterator that counts from 0 answers after n items: up to the bound, or on at the last `usize` where there is none
abbrev pub Counts : Option ℕ → ℕ → Option ℕ → Type 0
Counts (Some m) n r = MatchOption r (m ≤ n) (λ k. (n < m) × (k ≡ n))
Counts None n r = r ≡ Some (min n (2 ^ 64 - 1))

-- an iterator in state s counts, where `size` is what number an item is
abbrev pub CountsTo : {S A : Type 0} → (S → Option A → S → Type 0) → (A → ℕ) → Option ℕ → S → Type 0
CountsTo {S} {A} steps size m s = (xs : List A) (r : Option A) (t : S) → YieldsThen steps s xs r t → Counts m (length xs) (option_map size r)
