-- How a member of a permutation is tried, and how its answer fills its place.
use Rattle.std.specs.Prelude.{◌≡◌, Result, Ok, Err, Option, Some, None}
use Rattle.nom_internal.specs.Prelude.{PResult, Needed, Incomplete, Error, Failure, OutOfMemory, Model, Modes, Meaning, ShowsMeaning, ShowsNext}
use Rattle.nom_error.specs.declared.answer.Err as Answer
use Rattle.nom_choose.specs.declared.slots.Slot.{Slot}
use Rattle.nom_choose.specs.declared.slots.Slot.TheVariants.{Waiting, Applied}

-- a member's answer fills its place: an acceptance with its output; else the place stays
abbrev pub Fills : {I O E : Type 0} → Slot O → PResult I O E → Slot O →
    Result I (Answer.Err E (Option E) Needed) → Type 0
Fills before (Ok a) slot r = (slot ≡ Applied a.1) × (r ≡ Ok a.0)
Fills before (Err f) slot r = (slot ≡ before) × (r ≡ Err f)

-- a first try of a round
abbrev pub TriesFirst : {I A V O E : Type 0} → Model I A → (V → O → Type 0) → Meaning I V E → Modes → I → Slot O → Slot O →
    Result I (Answer.Err E (Option E) Needed) → Type 0
TriesFirst {I} {A} {V} {O} {E} w IsOutput m mode i before slot r =
    (q : PResult I O E) × ShowsMeaning w IsOutput m mode i q × Fills before q slot r

module _ {I A V O E : Type 0} (w : Model I A) (IsOutput : V → O → Type 0) (Joins : E → E → E → Type 0) (Grows : Type 0) (m : Meaning I V E)
    (mode : Modes) (i : I) where
  -- a try after refusals with the error x
  abbrev pub TriesNext : Option E → Slot O → Slot O → Result I (Answer.Err E (Option E) Needed) → Type 0
  TriesNext x before slot r = (q : PResult I O E) × ShowsNext w IsOutput Joins Grows m mode i x q ×
      Fills before q slot r

  -- a waiting member's try, after what the round answered so far: only a refusal is gone on from
  abbrev pub TriesAfter : Result I (Answer.Err E (Option E) Needed) → Slot O → Slot O → Result I (Answer.Err E (Option E) Needed) → Type 0
  TriesAfter (Ok j) before slot r = (slot ≡ before) × (r ≡ Ok j)
  TriesAfter (Err (Incomplete k)) before slot r = (slot ≡ before) × (r ≡ Err (Incomplete k))
  TriesAfter (Err (Error x)) before slot r = TriesNext x before slot r
  TriesAfter (Err (Failure e)) before slot r = (slot ≡ before) × (r ≡ Err (Failure e))
  TriesAfter (Err OutOfMemory) before slot r = (slot ≡ before) × (r ≡ Err OutOfMemory)

  -- one member's part in a round: an applied one's is nothing
  abbrev pub Tries : Slot O → Option (Result I (Answer.Err E (Option E) Needed)) → Slot O → Option (Result I (Answer.Err E (Option E) Needed)) → Type 0
  Tries (Applied b) round slot r = (slot ≡ Applied b) × (r ≡ round)
  Tries Waiting None slot r = (t : Result I (Answer.Err E (Option E) Needed)) × TriesFirst w IsOutput m mode i Waiting slot t × (r ≡ Some t)
  Tries Waiting (Some before) slot r = (t : Result I (Answer.Err E (Option E) Needed)) × TriesAfter before Waiting slot t × (r ≡ Some t)
