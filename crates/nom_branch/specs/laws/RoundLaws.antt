-- Places of a permutation, none of which waits.
use Rattle.std.specs.Prelude.{◌≡◌, ℕ, ◌+◌, Bool, Option, Some, None}
use Rattle.std.proofs.Common.{arith, ap}
use Rattle.nom_choose.specs.declared.slots.Slot.{Slot}
use Rattle.nom_internal.specs.Prelude.{Meaning}
use Rattle.nom_branch.specs.Members.{Choice, IsOver, or_waiting}
use Rattle.nom_branch.specs.Members.Choice.{NoChoice}
use Rattle.nom_branch.specs.Rounds.{SlotHolds, waits}

-- one more place, after others of which n wait
pub step_over : {I T V O E : Type 0} (Joins : E → E → E → Type 0) (Grows : Type 0) (m : Meaning I V E) (put : V → T) (outputs : Bool)
    (IsOutput : V → O → Type 0) (n : ℕ) (o : Choice I T E) (x : Option V) (slot : Slot O) → (n ≡ 0 → IsOver o) → SlotHolds outputs IsOutput x slot →
    n + waits slot ≡ 0 → IsOver (or_waiting Joins Grows o m put x)
step_over Joins Grows m put outputs IsOutput n o (Some v) slot f h z = f (omega (arith, z))
step_over Joins Grows m put outputs IsOutput n o None slot f h z = absurd (omega (arith, z, ap waits h))

-- a first place
pub first_over : {I T V O E : Type 0} (Joins : E → E → E → Type 0) (Grows : Type 0) (m : Meaning I V E) (put : V → T) (outputs : Bool)
    (IsOutput : V → O → Type 0) (x : Option V) (slot : Slot O) → SlotHolds outputs IsOutput x slot → waits slot ≡ 0 →
    IsOver (or_waiting Joins Grows NoChoice m put x)
first_over Joins Grows m put outputs IsOutput (Some v) slot h z = tt
first_over Joins Grows m put outputs IsOutput None slot h z = absurd (omega (arith, z, ap waits h))
