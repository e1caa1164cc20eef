-- Two grammars in turn: the answer of the first if it accepts or lacks memory, and else the answer of the second.
use Rattle.std.specs.Prelude.{◌≡◌, Bool, Ok, Err, Option, Some, None}
use Rattle.nom_internal.specs.Prelude.{IResult, Model, Grammar, Parses, Incomplete, Error, Failure, OutOfMemory}

-- an acceptance is the result, and so is want of memory; of a result after another answer the fact holds
abbrev pub TakesAccepted : {I O E F : Type 0} → IResult I O E → IResult I O F → Type 0 → Type 0
TakesAccepted (Ok accepted) r Other = r ≡ Ok accepted
TakesAccepted (Err (Incomplete k)) r Other = Other
TakesAccepted (Err (Error e)) r Other = Other
TakesAccepted (Err (Failure e)) r Other = Other
TakesAccepted (Err OutOfMemory) r Other = r ≡ Err OutOfMemory

-- the result, or none after another answer
abbrev pub IsTaken : {I O E F : Type 0} → IResult I O E → Option (IResult I O F) → Type 0
IsTaken (Ok accepted) o = o ≡ Some (Ok accepted)
IsTaken (Err (Incomplete k)) o = o ≡ None
IsTaken (Err (Error e)) o = o ≡ None
IsTaken (Err (Failure e)) o = o ≡ None
IsTaken (Err OutOfMemory) o = o ≡ Some (Err OutOfMemory)

-- what is returned at i for two grammars of the same outputs, streaming (true) or complete (false)
pub record ParsesInTurn {I A V W O E F : Type 0} (w : Model I A) (first : Grammar I V O E) (second : Grammar I W O F) (s : Bool) (i : I)
    (r : IResult I O F) : Type 0 where
  pub answer : IResult I O E
  pub answered : Parses w first s i answer
  pub taken : TakesAccepted answer r (Parses w second s i r)
