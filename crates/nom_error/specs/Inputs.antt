-- Errors whose inputs are mapped, or owned instead of lent.
use Rattle.std.specs.Prelude.{◌≡◌, ℕ, ◌<◌, List, Result, MatchResult, length}
use Rattle.std.specs.Borrow.{Bor}
use Rattle.nom_error.specs.declared.answer.Needed.{Needed}
use Rattle.nom_error.specs.declared.answer.Err as Answer
use Rattle.nom_error.specs.declared.answer.OutOfMemory.{OutOfMemory}
use Rattle.nom_error.specs.declared.kind.ErrorKind.{ErrorKind}
use Rattle.nom_error.specs.declared.value.Error as Value
use Rattle.nom_error.specs.Answers.{HoldsError, IsMapped}

-- the input of an error is mapped, and its kind stays
abbrev pub IsInputMapped : {T U : Type 0} → (T → U → Type 0) → Value.Error T → Value.Error U → Type 0
IsInputMapped Gives d e = Gives d.input e.input × (e.code ≡ d.code)

-- the same of an input beside a kind
abbrev pub IsFirstMapped : {T U : Type 0} → (T → U → Type 0) → T × ErrorKind → U × ErrorKind → Type 0
IsFirstMapped Gives d e = Gives d.0 e.0 × (e.1 ≡ d.1)

module _ {T : Type 0} (bytes : T → List ℕ) where
  -- the owned input has the bytes of the lent one, and the kind stays
  abbrev pub Owns : Value.Error (Bor (List ℕ)) → Value.Error T → Type 0
  Owns = IsInputMapped (λ s v. bytes v ≡ s.now)

  -- the same of an input beside a kind
  abbrev pub OwnsPair : Bor (List ℕ) × ErrorKind → T × ErrorKind → Type 0
  OwnsPair = IsFirstMapped (λ s v. bytes v ≡ s.now)

-- the owned error, or that memory ran out, which comes only where the input isn't empty
abbrev pub IsCloned : {T : Type 0} → (T → List ℕ) → Value.Error (Bor (List ℕ)) → Result (Value.Error T) OutOfMemory → Type 0
IsCloned bytes d r = MatchResult r (Owns bytes d) (λ _. 0 < length d.input.now)

-- the answer with an owned error, or that memory ran out, which comes only where an input is held that isn't empty
abbrev pub IsOwned : {T : Type 0} → (T → List ℕ) → Answer.Err (Value.Error (Bor (List ℕ))) (Value.Error (Bor (List ℕ))) Needed →
    Result (Answer.Err (Value.Error T) (Value.Error T) Needed) OutOfMemory → Type 0
IsOwned bytes d r = MatchResult r (IsMapped (Owns bytes) d) (λ _. HoldsError (λ e. 0 < length e.input.now) d)

-- the same of an input beside a kind
abbrev pub IsOwnedPair : {T : Type 0} → (T → List ℕ) → Answer.Err (Bor (List ℕ) × ErrorKind) (Bor (List ℕ) × ErrorKind) Needed →
    Result (Answer.Err (T × ErrorKind) (T × ErrorKind) Needed) OutOfMemory → Type 0
IsOwnedPair bytes d r = MatchResult r (IsMapped (OwnsPair bytes) d) (λ _. HoldsError (λ e. 0 < length e.0.now) d)
