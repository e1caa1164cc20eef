-- Where something ends that begins at a place of some bytes, and where it fails.
use Rattle.std.specs.Prelude.{◌≡◌, ℕ, ◌+◌, ◌≤◌, ◌↔◌, List, None, Result, Ok, Err, length, take, drop}
use Rattle.nom_error.specs.Answers.{IResult}
use Rattle.nom_error.specs.declared.answer.Err.TheVariants as Answer
use Rattle.nom_error.specs.declared.value.Error.{Error}
use Rattle.nom_json_run.specs.Grammars.{Bytes}
use Rattle.nom_json_run.specs.declared.bracket.Fault.{Fault}
use Rattle.nom_json_run.specs.declared.bracket.Missing as Part
use Rattle.nom_json_run.specs.declared.bracket.Missing.TheVariants as Missing
use Rattle.nom_json_run.specs.Json.{after_word}
use Rattle.nom_json_run.specs.Parts.{IsPart, missing_of}

-- the list, and no other, is one that the relation holds of
abbrev pub EndsOnly : (List ℕ → Type 0) → List ℕ → Type 0
EndsOnly Ends j = (r : List ℕ) → Ends r ↔ (r ≡ j)

-- no list is
abbrev pub EndsNowhere : (List ℕ → Type 0) → Type 0
EndsNowhere Ends = (r : List ℕ) → Ends r → ⊥

-- bytes that begin as others do, up to a place, and with the byte there
abbrev pub BeginsAs : (bytes : List ℕ) (at : ℕ) (bs : List ℕ) → Type 0
BeginsAs bytes at bs = take (at + 1) bs ≡ take (at + 1) bytes

-- A part that begins at `start` ends at `stop`, and nowhere else. So it is in all bytes that begin so.
pub record EndsAt (bytes : List ℕ) (Ends : List ℕ → List ℕ → Type 0) (start stop : ℕ) : Type 0 where
  pub begins : start ≤ stop
  pub within : stop ≤ length bytes
  pub ends : (bs : List ℕ) → BeginsAs bytes stop bs → EndsOnly (Ends (drop start bs)) (drop stop bs)

-- two relations hold of the same lists
abbrev pub SameEnds : (Ends Others : List ℕ → Type 0) → Type 0
SameEnds Ends Others = (r : List ℕ) → Ends r ↔ Others r

-- No part stands at `start`, whatever follows the byte at the place of a fault, where what is missing isn't.
pub record FailsAt (bytes : List ℕ) (Fails : List ℕ → Type 0) (start : ℕ) (fault : Fault) : Type 0 where
  pub begins : start ≤ fault.at
  pub within : fault.at ≤ length bytes
  pub part : IsPart fault.missing (drop fault.at bytes)
  pub fails : (bs : List ℕ) → BeginsAs bytes fault.at bs → Fails (drop start bs)

-- what is missing isn't there: of a word its first letter may be
abbrev pub IsMissing : Part.Missing → List ℕ → Type 0
IsMissing (Missing.Word word) i = after_word word.now i ≡ None
IsMissing missing i = Unit {0}

-- No part stands at `start`, whatever follows the byte at the place of a fault, as long as what is missing is missing there.
pub record FailsFor (bytes : List ℕ) (Fails : List ℕ → Type 0) (start : ℕ) (fault : Fault) : Type 0 where
  pub begins : start ≤ fault.at
  pub within : fault.at ≤ length bytes
  pub part : IsPart fault.missing (drop fault.at bytes)
  pub here : Fails (drop start bytes)
  pub fails : (bs : List ℕ) → BeginsAs bytes fault.at bs → IsMissing fault.missing (drop fault.at bs) → Fails (drop start bs)

-- where a part ends that begins at `start`, or why none does
abbrev pub Scans : (bytes : List ℕ) (Ends : List ℕ → List ℕ → Type 0) (start : ℕ) → Result ℕ Fault → Type 0
Scans bytes Ends start (Ok stop) = EndsAt bytes Ends start stop
Scans bytes Ends start (Err fault) = FailsAt bytes (λ i. EndsNowhere (Ends i)) start fault

-- the same, as long as what is missing is missing there
abbrev pub ScansFor : (bytes : List ℕ) (Ends : List ℕ → List ℕ → Type 0) (start : ℕ) → Result ℕ Fault → Type 0
ScansFor bytes Ends start (Ok stop) = EndsAt bytes Ends start stop
ScansFor bytes Ends start (Err fault) = FailsFor bytes (λ i. EndsNowhere (Ends i)) start fault

-- an answer, its rest or its error at a place of the bytes
abbrev pub IsPlaced : (bytes : List ℕ) → IResult Bytes Bytes (Error Bytes) → Type 0
IsPlaced bytes (Ok x) = length x.0.now ≤ length bytes
IsPlaced bytes (Err (Answer.Error e)) = length e.input.now ≤ length bytes
IsPlaced bytes (Err (Answer.Failure e)) = length e.input.now ≤ length bytes
IsPlaced bytes (Err (Answer.Incomplete n)) = ⊥
IsPlaced bytes (Err Answer.OutOfMemory) = ⊥

-- and that place, with what is missing there
abbrev pub IsStop : (bytes : List ℕ) → IResult Bytes Bytes (Error Bytes) → Result ℕ Fault → Type 0
IsStop bytes (Ok x) stop = (n : ℕ) × (stop ≡ Ok n) × (n + length x.0.now ≡ length bytes)
IsStop bytes (Err (Answer.Error e)) stop = (fault : Fault) × (stop ≡ Err fault) × (fault.at + length e.input.now ≡ length bytes) ×
    (fault.missing ≡ missing_of e.code)
IsStop bytes (Err (Answer.Failure e)) stop = (fault : Fault) × (stop ≡ Err fault) × (fault.at + length e.input.now ≡ length bytes) ×
    (fault.missing ≡ missing_of e.code)
IsStop bytes (Err (Answer.Incomplete n)) stop = ⊥
IsStop bytes (Err Answer.OutOfMemory) stop = ⊥
