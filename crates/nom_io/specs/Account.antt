-- The account of a source or a sink: its bytes, and the counts of its calls.
use Rattle.std.specs.Prelude.{◌≡◌, ℕ, ◌+◌, ◌-◌, ◌^◌, ◌<◌, min, ◌⊎◌, List, Option, Result, MatchResult}

-- Its bytes where they are known, which are those that it has left or that it holds. How many calls were made, how many of them
-- gave an error, and how many took none of some bytes. A count stays at the greatest `u64`.
pub record Account : Type 0 where
  pub bytes : Option (List ℕ)
  pub calls : ℕ
  pub failures : ℕ
  pub stalls : ℕ

-- one more, up to the greatest `u64`, where a count stays
abbrev pub one_more : ℕ → ℕ
one_more n = min (n + 1) (2 ^ 64 - 1)

module _ (a b : Account) where
  -- one call was made, and this is its result
  abbrev pub CountsCall : {T E : Type 0} → Result T E → Type 0
  CountsCall r = (b.calls ≡ one_more a.calls) × MatchResult r (λ _. b.failures ≡ a.failures) (λ _. b.failures ≡ one_more a.failures)

  -- the count of stalls rises by one where none of some bytes was taken, and stays otherwise
  abbrev pub CountsStall : {E : Type 0} → (some : ℕ) → Result ℕ E → Type 0
  CountsStall some r = MatchResult r (λ n. (0 < n → b.stalls ≡ a.stalls) × (some ≡ 0 → b.stalls ≡ a.stalls) × (n ≡ 0 → 0 < some →
      b.stalls ≡ one_more a.stalls)) (λ _. b.stalls ≡ a.stalls)

  -- no call failed
  abbrev pub NoneFailed : Type 0
  NoneFailed = (b.failures ≡ a.failures) × (b.stalls ≡ a.stalls)

  -- one call failed: it gave an error, or it took none of some bytes
  abbrev pub OneFailed : Type 0
  OneFailed = (b.failures ≡ one_more a.failures) ⊎ ((b.failures ≡ a.failures) × (b.stalls ≡ one_more a.stalls))
