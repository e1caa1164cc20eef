-- Lemmas on two grammars in turn: what is returned after the first answer.
use Rattle.std.proofs.Common.{◌≡◌, Ok, Err, Option, Some, None}
use Rattle.nom_internal.specs.Prelude.{IResult, Incomplete, Error, Failure, OutOfMemory}
use Rattle.nom_report.specs.InTurn.{IsTaken, TakesAccepted}

pub taken_at_once : {I O E F : Type 0} (Other : Type 0) (answer : IResult I O E) (r : IResult I O F) → IsTaken answer (Some r) → TakesAccepted answer r Other
taken_at_once Other (Ok accepted) r h = cc (h)
taken_at_once Other (Err (Incomplete k)) r h = absurd (cc (h))
taken_at_once Other (Err (Error e)) r h = absurd (cc (h))
taken_at_once Other (Err (Failure e)) r h = absurd (cc (h))
taken_at_once Other (Err OutOfMemory) r h = cc (h)

pub taken_later : {I O E F : Type 0} (Other : Type 0) (answer : IResult I O E) (r : IResult I O F) → IsTaken {F = F} answer None → Other →
    TakesAccepted answer r Other
taken_later Other (Ok accepted) r h o = absurd (cc (h))
taken_later Other (Err (Incomplete k)) r h o = o
taken_later Other (Err (Error e)) r h o = o
taken_later Other (Err (Failure e)) r h o = o
taken_later Other (Err OutOfMemory) r h o = absurd (cc (h))
