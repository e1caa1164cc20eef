-- A round of a permutation, and what it shows of the members.
use Rattle.std.specs.Prelude.{◌≡◌, ℕ, Bool, true, Result, Ok, Err, Option, Some, None}
use Rattle.nom_internal.specs.Prelude.{PResult, Needed, Incomplete, Error, Failure, OutOfMemory, Model, Built, Modes, with_outputs, ShowsAnswer, Meaning}
use Rattle.nom_error.specs.declared.answer.Err as Answer
use Rattle.nom_choose.specs.declared.slots.Slot.{Slot}
use Rattle.nom_choose.specs.declared.slots.Slot.TheVariants.{Waiting, Applied}
use Rattle.nom_branch.specs.Members.{Choice}
use Rattle.nom_branch.specs.Members.Choice.{NoChoice, Among}

-- a place for a member's tree, if it is applied: it holds its output where outputs are built
abbrev pub SlotHolds : {V O : Type 0} → Bool → (V → O → Type 0) → Option V → Slot O → Type 0
SlotHolds outputs IsOutput None slot = slot ≡ Waiting
SlotHolds {O = O} outputs IsOutput (Some v) slot = (b : Option O) × (slot ≡ Applied b) × Built outputs (IsOutput v) b

-- the output of a member that is applied
abbrev pub IsApplied : {V O : Type 0} → (V → O → Type 0) → Option V → O → Type 0
IsApplied IsOutput None o = ⊥
IsApplied IsOutput (Some v) o = IsOutput v o

-- how many members a place lets wait
abbrev pub waits : {O : Type 0} → Slot O → ℕ
waits Waiting = 1
waits (Applied b) = 0

-- how many members a round applies
abbrev pub applies : {I E : Type 0} → Option (Result I (Answer.Err E (Option E) Needed)) → ℕ
applies None = 0
applies (Some (Ok j)) = 1
applies (Some (Err f)) = 0

-- what a round answers, as an answer with nothing built
abbrev pub as_answer : {I E : Type 0} → Result I (Answer.Err E (Option E) Needed) → PResult I (Unit {0}) E
as_answer (Ok j) = Ok (j, Some tt)
as_answer (Err f) = Err f

-- the fact, where a round refuses
abbrev pub WhereRefused : {I E : Type 0} → Type 0 → Result I (Answer.Err E (Option E) Needed) → Type 0
WhereRefused Fact (Ok j) = Unit {0}
WhereRefused Fact (Err (Incomplete k)) = Unit {0}
WhereRefused Fact (Err (Error x)) = Fact
WhereRefused Fact (Err (Failure e)) = Unit {0}
WhereRefused Fact (Err OutOfMemory) = Unit {0}

module _ {I A T E : Type 0} (w : Model I A) (mode : Modes) (i : I) (AreHeld : T → Type 0) where
  -- what a round shows of a choice among members, with places that hold the outputs of the trees
  abbrev pub ShowsRound : Meaning I T E → Result I (Answer.Err E (Option E) Needed) → Type 0
  ShowsRound m r = ShowsAnswer w (λ t _. AreHeld t) (with_outputs true mode) i (m.answers mode.streaming i) (m.blames mode.streaming i)
      (m.may_run_out mode i) (as_answer r)

  -- what a round answers after the trees t, so far: nothing, as it tried none, or what the choice shows
  abbrev pub HasTried : T → Choice I T E → Option (Result I (Answer.Err E (Option E) Needed)) → Type 0
  HasTried t NoChoice round = (round ≡ None) × AreHeld t
  HasTried t (Among m) round = (r : Result I (Answer.Err E (Option E) Needed)) × (round ≡ Some r) × ShowsRound m r × WhereRefused (AreHeld t) r

-- the outputs of nested members, made flat
abbrev pub FlatOutput : {V T U : Type 0} → (V → T → Type 0) → (U → T) → V → U → Type 0
FlatOutput AreOutputs pairs t o = AreOutputs t (pairs o)
