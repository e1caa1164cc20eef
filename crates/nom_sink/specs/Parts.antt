-- Forms of parts in sequence.
use Rattle.std.specs.Prelude.{◌≡◌, ℕ, List, ◌++◌, ◌⊎◌, length}
use Rattle.nom_sink.specs.declared.error.WriteError.{WriteError}
use Rattle.nom_sink.specs.Written.{Space, space_after, moved_back}

-- a form of the first part, and then one of the second
pub record Both {A : Type 0} (First Second : List A → Type 0) (xs : List A) : Type 0 where
  pub front : List A
  pub back : List A
  pub whole : xs ≡ front ++ back
  pub first : First front
  pub second : Second back

-- the first part fails, or after a form of it the second
abbrev pub BothFail : {A : Type 0} → (List A → Type 0) → (Space → WriteError → Type 0) → (Space → WriteError → Type 0) → Space → WriteError → Type 0
BothFail {A} First FirstFails SecondFails s e = FirstFails s e ⊎ ((xs : List A) × First xs × SecondFails (space_after s xs) e)

-- what the second part writes, with all that may follow it, may follow the first
abbrev pub Meets : {A : Type 0} → (First Second Next : List A → Type 0) → Type 0
Meets {A} First Second Next = (ys rest : List A) → Second ys → Next rest → First (ys ++ rest)

-- where the second part writes a form of a value
abbrev pub MeetsForms : {O A : Type 0} → (List A → Type 0) → (O → List A → Type 0) → (List A → Type 0) → Type 0
MeetsForms {O} First Form Next = Meets First (λ ys. (v : O) × Form v ys) Next

-- a form of a length, and then a form of a part that is so long
pub record AfterLength {A : Type 0} (Size : ℕ → List A → Type 0) (Part : List A → Type 0) (xs : List A) : Type 0 where
  pub front : List A
  pub back : List A
  pub whole : xs ≡ front ++ back
  pub size : Size (length back) front
  pub part : Part back

-- The part fails, where the length would begin. Or the length of a form of it fails; its place is counted without the form.
abbrev pub AfterLengthFails : {A : Type 0} → (SizeFails : ℕ → Space → WriteError → Type 0) → (List A → Type 0) →
    (Space → WriteError → Type 0) → Space → WriteError → Type 0
AfterLengthFails {A} SizeFails Part PartFails s e = PartFails s e ⊎
    ((xs : List A) × Part xs × (f : WriteError) × SizeFails (length xs) (space_after s xs) f × (e ≡ moved_back (length xs) f))
