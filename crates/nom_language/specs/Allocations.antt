-- The error of a fold that may take memory, and what it says.
use Rattle.std.specs.Prelude.{◌≡◌, Bool, Option, Some, Result, Ok, Err}
use Rattle.nom_error.specs.declared.answer.Err as Answer
use Rattle.nom_internal.specs.Prelude.{Needed, Refuses}
use Rattle.nom_language.specs.declared.allocating.FoldError.{FoldError}
use Rattle.nom_language.specs.declared.allocating.FoldError.TheVariants.{Refused, OutOfMemory}

-- where a fold gives no value, it refuses, or memory ran out
abbrev pub StopsFold : {X E : Type 0} → (X → E → Type 0) → (Grows : Type 0) → (builds : Bool) → FoldError X →
    Answer.Err E (Option E) Needed → Type 0
StopsFold Makes Grows builds (Refused x) r = Refuses (Makes x) Grows builds r
StopsFold Makes Grows builds OutOfMemory r = r ≡ Answer.Err.OutOfMemory

-- what a fold says of an expression that didn't lack memory: its value, or the refusal
abbrev pub returned : {O X : Type 0} → Result O X → Result O (FoldError X)
returned (Ok v) = Ok v
returned (Err x) = Err (Refused x)

-- what an error of a fold says: this refusal, or that memory ran out
abbrev pub IsReturned : {O Y X : Type 0} → (Result O Y → Result O X → Type 0) → Option Y → Y → FoldError X → Type 0
IsReturned Returns no_memory y (Refused x) = Returns (Err y) (Err x)
IsReturned Returns no_memory y OutOfMemory = no_memory ≡ Some y
