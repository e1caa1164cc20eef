-- One item from what is held.
use Rattle.std.specs.Prelude.{◌≡◌, ℕ, ◌+◌, ◌≤◌, Bool, List, length, take, Result, Ok, Err}
use Rattle.std.specs.Borrow.{Bor}
use Rattle.nom_internal.specs.Prelude.{IResult, Needed, bytes_model, IsLawful, IsSteady, Grammar, Parses}
use Rattle.nom_error.specs.declared.answer.Err as Answer
use Rattle.nom_error.specs.declared.answer.Err.TheVariants as Stopped
use Rattle.nom_error.specs.declared.kind.ErrorKind.{ErrorKind}
use Rattle.nom_error.specs.declared.value.Error.{Error}
use Rattle.nom_stream.specs.declared.held.Held.{Held}
use Rattle.nom_stream.specs.Held.{last_of}

abbrev pub Bytes : Type 0
Bytes = Bor (List ℕ)

-- an answer of a parser over bytes
abbrev pub Answered : Type 0 → Type 0
Answered O = IResult Bytes O (Error Bytes)

-- What is answered at an input, by whether more may come, is what the grammar means there; and where it is sound, the laws of its
-- meaning: one outcome for each input, and what is decided stays on every longer one.
pub record ParsesItem {V O : Type 0} (grammar : Grammar Bytes V O (Error Bytes)) (more : Bool) (x : Bytes) (r : Answered O) : Type 0 where
  pub shown : Parses bytes_model grammar more x r
  pub lawful : grammar.meaning.IsSound → IsLawful bytes_model grammar.meaning
  pub steady : grammar.meaning.IsSound → IsSteady bytes_model grammar.meaning

-- why nothing is accepted: of an error its kind, and the length of the input that it holds
abbrev pub Stops : Type 0
Stops = Answer.Err (ErrorKind × ℕ) (ErrorKind × ℕ) Needed

abbrev pub without_input : Answer.Err (Error Bytes) (Error Bytes) Needed → Stops
without_input (Stopped.Incomplete k) = Stopped.Incomplete k
without_input (Stopped.Error e) = Stopped.Error (e.code, length e.input.now)
without_input (Stopped.Failure e) = Stopped.Failure (e.code, length e.input.now)
without_input Stopped.OutOfMemory = Stopped.OutOfMemory

-- what is taken: an item with its length, or why there is none
abbrev pub Taken : Type 0 → Type 0
Taken O = Result (ℕ × O) Stops

abbrev pub undecided : {O : Type 0} → Needed → Taken O
undecided k = Err (Stopped.Incomplete k)

-- what is taken for an answer at the input x, and what is held then
abbrev pub Took : {O : Type 0} → Bytes → List ℕ → Answered O → Taken O → Type 0
Took x new (Ok (j, o)) r = (n : ℕ) × (n + length j.now ≡ length x.now) × (new ≡ j.now) × (r ≡ Ok (n, o))
Took x new (Err e) r = (new ≡ x.now) × (r ≡ Err (without_input e))

-- What is held is parsed once, by whether more may come: an accepted item is taken off its front, and else it stays.
pub record Takes {V O : Type 0} (grammar : Grammar Bytes V O (Error Bytes)) (more : Bool) (old new : List ℕ) (r : Taken O) : Type 0 where
  pub input : Bytes
  pub known : bytes_model.IsKnown input
  pub is_held : input.now ≡ old
  pub answer : Answered O
  pub parses : ParsesItem grammar more input answer
  pub took : Took input new answer r

-- an item's bytes, of those that were held, are the last that were used
abbrev pub HoldsLast : {A O : Type 0} → List ℕ → Held A → Taken O → Type 0
HoldsLast old h (Ok (n, o)) = (n ≤ h.start) × (last_of n h ≡ take n old)
HoldsLast old h (Err e) = Unit {0}

-- unless an item was taken, all is held as it was
abbrev pub Stays : {A O : Type 0} → Held A → Held A → Taken O → Type 0
Stays old new (Ok (n, o)) = Unit {0}
Stays old new (Err e) = new ≡ old

-- the bytes don't decide
abbrev pub IsUndecided : {O : Type 0} → Taken O → Type 0
IsUndecided (Ok (n, o)) = ⊥
IsUndecided (Err (Stopped.Incomplete k)) = Unit {0}
IsUndecided (Err (Stopped.Error e)) = ⊥
IsUndecided (Err (Stopped.Failure e)) = ⊥
IsUndecided (Err Stopped.OutOfMemory) = ⊥
