-- The report on the bytes of a file that comes in pieces.
use Rattle.std.specs.Prelude.{◌≡◌, ℕ, ◌-◌, ◌<◌, ◌≤◌, true, List, ◌++◌, length, slice_index, Result, Ok, Err, Option, String, string_bytes}
use Rattle.std.specs.Borrow.{Bor}
use Rattle.nom_error.specs.declared.value.Error.{Error}
use Rattle.nom_internal.specs.Prelude.{Needed, IResult, size_of, bytes_model, Outcome, Accept, Refuse, Stop, Fails, Needs, Meaning}
use Rattle.nom_error.specs.declared.answer.Err as Answer
use Rattle.nom_error.specs.declared.answer.Err.TheVariants as Stop
use Rattle.nom_calls.specs.Growing.{IsBeginning, Waits}
use Rattle.nom_run.specs.Texts.{decided_text, rest_text, error_text, failure_text, need_text}

abbrev Bytes : Type 0
Bytes = Bor (List ℕ)

-- the text and the status that were built
abbrev pub IsBuilt : {A E : Type 0} → Result (String A × ℕ) E → List ℕ → ℕ → Type 0
IsBuilt (Ok r) text status = (text ≡ string_bytes r.0) × (status ≡ r.1)
IsBuilt (Err e) text status = ⊥

-- The text and the status for an outcome on a beginning of the whole: `index` is that of the cut where it begins, and
-- offsets count from the beginning's first byte. Of an acceptance stand the lines of its tree. It is of a grammar that never
-- fails, so there is nothing to be said of a failure.
abbrev pub Says : {V : Type 0} → (V → List ℕ) → (Error Bytes → Type 0) → ℕ → (whole beginning : List ℕ) → Outcome V → List ℕ → ℕ → Type 0
Says lines Blames index whole beginning (Accept n v) text status = (text ≡ decided_text index ++ lines v ++ rest_text (length whole - n)) × (status ≡ 0)
Says lines Blames index whole beginning Refuse text status =
    (e : Error Bytes) × Blames e × (text ≡ error_text e.code (length beginning - length e.input.now)) × (status ≡ 1)
Says lines Blames index whole beginning (Stop (Fails cause)) text status = ⊥
Says lines Blames index whole beginning (Stop (Needs k)) text status = (text ≡ need_text k) × (status ≡ 2)

-- The report by a grammar: the streaming outcome on the first of the beginnings at the cuts, and then of the whole, that
-- does not wait for more, is told by the text and the status.
pub record IsReportBy {V : Type 0} (m : Meaning Bytes V (Error Bytes)) (lines : V → List ℕ) (bytes cuts text : List ℕ) (status : ℕ) : Type 0 where
  pub whole : Bytes
  pub whole_is : whole.now ≡ bytes
  pub index : ℕ
  pub in_range : index ≤ length cuts
  pub waited : (k : ℕ) → k < index → Waits bytes_model m whole (slice_index cuts k)
  pub beginning : Bytes
  pub begins : IsBeginning bytes_model whole cuts index beginning
  pub outcome : Outcome V
  pub answered : m.answers true beginning outcome
  pub decided : index < length cuts → (k : Option ℕ) → outcome ≡ Stop (Needs k) → ⊥
  pub says : Says lines (m.blames true beginning) index whole.now beginning.now outcome text status

-- the text and the status where a beginning of a length isn't accepted
abbrev pub IsStopReport : (beginning : ℕ) → Answer.Err (Error Bytes) (Error Bytes) Needed → List ℕ → ℕ → Type 0
IsStopReport beginning (Stop.Incomplete k) text status = (text ≡ need_text (size_of k)) × (status ≡ 2)
IsStopReport beginning (Stop.Error e) text status = (text ≡ error_text e.code (beginning - length e.input.now)) × (status ≡ 1)
IsStopReport beginning (Stop.Failure e) text status = (text ≡ failure_text e.code (beginning - length e.input.now)) × (status ≡ 1)
IsStopReport beginning Stop.OutOfMemory text status = ⊥

-- the text and the status for an answer on a beginning of a length, by the lines of an output
abbrev pub IsAnswerReport : {O : Type 0} → (O → List ℕ) → (index beginning : ℕ) → IResult Bytes O (Error Bytes) → List ℕ →
    ℕ → Type 0
IsAnswerReport lines index beginning (Ok (rest, o)) text status = (text ≡ decided_text index ++ lines o ++ rest_text (length rest.now)) × (status ≡ 0)
IsAnswerReport lines index beginning (Err e) text status = IsStopReport beginning e text status
