-- Each member of a permutation is applied once.
use Rattle.std.specs.Prelude.{ℕ, Bool, List, length}
use Rattle.nom_internal.specs.Prelude.{Model, Accept, Meaning}
use Rattle.nom_branch.specs.Members.{Member}
use Rattle.nom_branch.specs.Order.{AllApplied, InOrder}

-- What a permutation accepts, its members accept in turn, each of them one that isn't applied yet; and at the end all are applied.
abbrev pub AppliesEachOnce : {I A T E : Type 0} → Model I A → List (Member I T E) → T → Meaning I T E → Type 0
AppliesEachOnce {I} {T = T} w ms none whole =
    (s : Bool) (i : I) (n : ℕ) (u : T) → w.IsKnown i → whole.answers s i (Accept n u) → InOrder w s ms u (length ms) none i n × AllApplied ms u

-- and what they so accept, it accepts
abbrev pub AcceptsEachOrder : {I A T E : Type 0} → Model I A → List (Member I T E) → T → Meaning I T E → Type 0
AcceptsEachOrder {I} {T = T} w ms none whole =
    (s : Bool) (i : I) (n : ℕ) (u : T) → w.IsKnown i → InOrder w s ms u (length ms) none i n → whole.answers s i (Accept n u)
