-- Lemmas on the steps of loops.
use Rattle.std.specs.Prelude.{◌≡◌, ◌<◌, List, [], length, reverse, Option, Some, None}
use Rattle.std.proofs.Common.{arith, subst, ap}
use Rattle.nom_operators.specs.Steps.{HasOutermost, Joined, waiting}
use Rattle.nom_operators.specs.Steps.Joined.{OneJoined}

-- the innermost was joined, and the next one is the innermost
pub joined_more : {X C : Type 0} (Gives : X → C → X → X → Type 0) (Fact : C → Type 0) (s : List (X × C)) (x : X) (innermost next : Option (X × C))
    (outer rest : List (X × C)) (l : X × C) (y z : X) → innermost ≡ Some l → Joined Gives Fact s x (waiting innermost outer) y → Fact l.1 →
    Gives l.0 l.1 y z → reverse outer ≡ waiting next rest → Joined Gives Fact s x (waiting next rest) z
joined_more Gives Fact s x innermost next outer rest l y z e j f g h = subst (λ r. Joined Gives Fact s x r z) h
    (OneJoined (reverse outer) l.0 y z l.1 (subst (λ i. Joined Gives Fact s x (waiting i outer) y) e j) f g)

-- the innermost is known
pub joined_at : {X C : Type 0} (Gives : X → C → X → X → Type 0) (Fact : C → Type 0) (s : List (X × C)) (x : X) (innermost other : Option (X × C))
    (outer : List (X × C)) (y : X) → innermost ≡ other → Joined Gives Fact s x (waiting innermost outer) y → Joined Gives Fact s x (waiting other outer) y
joined_at Gives Fact s x innermost other outer y e j = subst (λ i. Joined Gives Fact s x (waiting i outer) y) e j

-- with no innermost nothing waits
pub none_waits : {E : Type 0} (innermost : Option E) (outer : List E) → innermost ≡ None → HasOutermost innermost outer → waiting innermost outer ≡ []
none_waits (Some e) outer i n = absurd (cc (i))
none_waits None outer i n = ap reverse n

-- it was the last one, and nothing waits
pub joined_end : {X C : Type 0} (Gives : X → C → X → X → Type 0) (Fact : C → Type 0) (s : List (X × C)) (x : X) (innermost : Option (X × C))
    (outer : List (X × C)) (y : X) → innermost ≡ None → HasOutermost innermost outer → Joined Gives Fact s x (waiting innermost outer) y →
    Joined Gives Fact s x [] y
joined_end Gives Fact s x innermost outer y e n j = subst (λ r. Joined Gives Fact s x r y) (none_waits innermost outer e n) j

-- fewer wait
pub fewer_wait : {E : Type 0} (innermost next : Option E) (outer rest : List E) (l : E) → innermost ≡ Some l → reverse outer ≡ waiting next rest →
    length (waiting next rest) < length (waiting innermost outer)
fewer_wait (Some e) next outer rest l i h = let same : length (reverse outer) ≡ length (waiting next rest) = ap length h in omega (arith, same)
fewer_wait None next outer rest l i h = absurd (cc (i))
