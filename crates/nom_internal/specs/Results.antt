-- The results of `process` and of `parse`, side by side.
use Rattle.std.specs.Prelude.{◌≡◌, ℕ, Result, Ok, Err, Option, Some, None}
use Rattle.nom_error.specs.Answers.{PResult, IResult}
use Rattle.nom_error.specs.declared.answer.Needed.{Needed}
use Rattle.nom_error.specs.declared.answer.Err as Answer
use Rattle.nom_error.specs.declared.answer.Err.TheVariants.{Incomplete, Error, Failure, OutOfMemory}

-- an acceptance has its output, and a refusal its error
abbrev pub IsFull : {I O E : Type 0} → PResult I O E → Type 0
IsFull (Ok (j, Some v)) = Unit {0}
IsFull (Ok (j, None)) = ⊥
IsFull (Err (Incomplete k)) = Unit {0}
IsFull (Err (Error (Some e))) = Unit {0}
IsFull (Err (Error None)) = ⊥
IsFull (Err (Failure e)) = Unit {0}
IsFull (Err OutOfMemory) = Unit {0}

-- the second holds what the first does
abbrev pub HoldsSame : {I O E : Type 0} → PResult I O E → IResult I O E → Type 0
HoldsSame (Ok (j, Some v)) r = r ≡ Ok (j, v)
HoldsSame (Ok (j, None)) r = ⊥
HoldsSame (Err (Incomplete k)) r = r ≡ Err (Incomplete k)
HoldsSame (Err (Error (Some e))) r = r ≡ Err (Error e)
HoldsSame (Err (Error None)) r = ⊥
HoldsSame (Err (Failure e)) r = r ≡ Err (Failure e)
HoldsSame (Err OutOfMemory) r = r ≡ Err OutOfMemory

-- a result without an option as one whose output is built
abbrev pub with_output : {I O E : Type 0} → Result (I × O) E → Result (I × Option O) E
with_output (Ok (j, v)) = Ok (j, Some v)
with_output (Err e) = Err e

-- the rest that is accepted
abbrev pub rest_of : {I O E : Type 0} → Result (I × O) E → Option I
rest_of (Ok (j, v)) = Some j
rest_of (Err e) = None

-- of the rest, where one is accepted
abbrev pub OfRest : {I : Type 0} → (I → Type 0) → Option I → Type 0
OfRest Fact (Some j) = Fact j
OfRest Fact None = Unit {0}

-- What a call owes that may drop what its part accepts: what the part owes, by the whole's rest, or by a rest that is dropped.
pub data JudgedSideCondition {I : Type 0} (Part : Option I → Type 0) (rest : Option I) : Type 0 where
  Kept : Part rest → JudgedSideCondition Part rest
  Dropped : (j : I) → Part (Some j) → rest ≡ None → JudgedSideCondition Part rest

-- What two calls owe, one after the other: where the first accepts, the second begins at its rest.
pub data ThenSideCondition {I : Type 0} (First : Option I → Type 0) (Second : I → Option I → Type 0) (rest : Option I) : Type 0 where
  Stopped : First None → rest ≡ None → ThenSideCondition First Second rest
  Both : (j : I) → First (Some j) → Second j rest → ThenSideCondition First Second rest

-- What one of two calls at one input owes: the first, or, where it accepts nothing, the second, by the whole's rest.
pub data OrSideCondition {I : Type 0} (First Second : Option I → Type 0) (rest : Option I) : Type 0 where
  Taken : First rest → OrSideCondition First Second rest
  Other : First None → Second rest → OrSideCondition First Second rest

-- What a call of a parser that was made owes: it was made for an output that was given, and stands as before and after
-- the call.
pub data MadeSideCondition {O H I : Type 0} (Gives : O → Type 0) (Makes : O → H → Type 0) (Owes : H → H → I → Option I → Type 0) (i : I)
    (rest : Option I) : Type 0 where
  Made : (o : O) (old new : H) → Gives o → Makes o old → Owes old new i rest → MadeSideCondition Gives Makes Owes i rest

-- a rest, where another one is accepted
abbrev pub where_some : {I J : Type 0} → I → Option J → Option I
where_some j (Some k) = Some j
where_some j None = None

-- What two calls owe, the second on the first's output: where the second accepts, the first's rest is left.
pub data BoundSideCondition {I J : Type 0} (First : Option I → Type 0) (Gives : J → Type 0) (Second : J → Option J → Type 0) (rest : Option I) : Type 0 where
  Unbound : First None → rest ≡ None → BoundSideCondition First Gives Second rest
  Bound : (j : I) (o : J) (k : Option J) → First (Some j) → Gives o → Second o k → rest ≡ where_some j k → BoundSideCondition First Gives Second rest

-- the answer asks for more input
abbrev pub AsksForMore : {T E : Type 0} → Result T (Answer.Err E E Needed) → Type 0
AsksForMore r = (k : Needed) × (r ≡ Err (Incomplete k))

-- each rest that is accepted has the fact
abbrev pub HasRests : {I O E : Type 0} → (I → Type 0) → IResult I O E → Type 0
HasRests {I} {O} {E} Fact r = (j : I) (v : O) → r ≡ Ok (j, v) → Fact j

-- an acceptance is answered with another rest, of which the fact holds for each length of what was consumed, and else the same
pub record WithRest {I O E : Type 0} (Before After : ℕ → I → Type 0) (answer result : IResult I O E) : Type 0 where
  pub accepts : (j : I) (v : O) (n : ℕ) → answer ≡ Ok (j, v) → Before n j → (k : I) × After n k × (result ≡ Ok (k, v))
  pub else_same : (e : Answer.Err E E Needed) → answer ≡ Err e → result ≡ Err e
