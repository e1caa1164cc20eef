-- The outcomes of the functions of the tests.
use Rattle.std.specs.Prelude.{ℕ, cond, nat_lt, List, [], ◌∷◌, None}
use Rattle.nom_internal.specs.Prelude.{Outcome, Accept, Refuse, Stop, Fails, Needs, Outright}

-- the first byte; more is needed where there is none, and it isn't known how much
abbrev pub first_outcome : List ℕ → Outcome ℕ
first_outcome [] = Stop (Needs None)
first_outcome (x ∷ xs) = Accept 1 x

-- the first byte, below 128, and else a failure; a refusal where there is none
abbrev pub small_outcome : List ℕ → Outcome ℕ
small_outcome [] = Refuse
small_outcome (x ∷ xs) = cond (nat_lt x 128) (Accept 1 x) (Stop (Fails Outright))
