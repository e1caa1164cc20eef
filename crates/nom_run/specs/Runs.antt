-- The effect of a whole run on its source and its sink.
use Rattle.std.specs.Prelude.{◌≡◌, ℕ, ◌+◌, ◌<◌, ◌≤◌, ◌⊎◌, List, length, Result, Ok, Err, slice_index}
use Rattle.std.specs.Io.KnownBytes.{Consumes, IsAtEnd}
use Rattle.nom_io.specs.Account.{Account, NoneFailed}
use Rattle.nom_io.specs.Written.{Wrote, WroteFront}
use Rattle.nom_run.specs.declared.error.RunError.{RunError}
use Rattle.nom_run.specs.declared.error.RunError.TheVariants as Error

-- no number of the list is below the one before
abbrev pub NeverFalls : List ℕ → Type 0
NeverFalls cuts = (k : ℕ) → k + 1 < length cuts → slice_index cuts k ≤ slice_index cuts (k + 1)

-- a number of the list is below the one before
abbrev pub Falls : List ℕ → Type 0
Falls cuts = (k : ℕ) × (k + 1 < length cuts) × (slice_index cuts (k + 1) < slice_index cuts k)

-- no number of the list is above n
abbrev pub NoneAbove : List ℕ → ℕ → Type 0
NoneAbove cuts n = (k : ℕ) → k < length cuts → slice_index cuts k ≤ n

-- a number of the list is above n
abbrev pub SomeAbove : List ℕ → ℕ → Type 0
SomeAbove cuts n = (k : ℕ) × (k < length cuts) × (n < slice_index cuts k)

-- the source had `bytes` left, and has come to its end; no read failed
pub record ReadWhole (s t : Account) (bytes : List ℕ) : Type 0 where
  pub read : Consumes s.bytes t.bytes bytes
  pub ended : IsAtEnd t.bytes
  pub none : NoneFailed s t

-- What is answered of a text that is written, by which texts go with an answer: such a text was written; or a beginning of one, until a
-- write failed; or memory ran out.
pub data WritesText {T : Type 0} (IsText : (text : List ℕ) → T → Type 0) (a b : Account) (Lacks : Type 0) (r : Result T RunError) : Type 0 where
  Whole : (text : List ℕ) (x : T) → r ≡ Ok x → IsText text x → Wrote a b text → WritesText IsText a b Lacks r
  Cut : (text : List ℕ) (x : T) → r ≡ Err Error.Write → IsText text x → WroteFront a b text → WritesText IsText a b Lacks r
  NoMemory : r ≡ Err Error.OutOfMemory → Lacks → WritesText IsText a b Lacks r

-- By what a report is: whether a text and a status are that on bytes, given in the parts that cuts make of them.
module _ (IsReport : (bytes cuts text : List ℕ) → (status : ℕ) → Type 0) (s t a b : Account) (cuts : List ℕ) where
  -- the source was read to its end, and the report on what was read was written, with this status
  pub record Reported (status : ℕ) : Type 0 where
    pub bytes : List ℕ
    pub text : List ℕ
    pub whole : ReadWhole s t bytes
    pub within : NoneAbove cuts (length bytes)
    pub report : IsReport bytes cuts text status
    pub wrote : Wrote a b text

  -- the source was read to its end, and of the report on what was read a beginning was written, until a write failed
  pub record Stopped : Type 0 where
    pub bytes : List ℕ
    pub text : List ℕ
    pub status : ℕ
    pub whole : ReadWhole s t bytes
    pub within : NoneAbove cuts (length bytes)
    pub report : IsReport bytes cuts text status
    pub wrote : WroteFront a b text

-- the source was read to its end, and a cut lies above what was read
pub record CutAbove (s t : Account) (cuts : List ℕ) : Type 0 where
  pub bytes : List ℕ
  pub whole : ReadWhole s t bytes
  pub above : SomeAbove cuts (length bytes)

-- the source gave some bytes; no read failed
pub record ReadSome (s t : Account) : Type 0 where
  pub bytes : List ℕ
  pub read : Consumes s.bytes t.bytes bytes
  pub some : 0 < length bytes
  pub none : NoneFailed s t

-- Where memory can run out: some bytes were read, or the source was read to its end and no cut lies above what was read, so
-- that there is a report to build.
abbrev pub CanGrow : (s t : Account) → (cuts : List ℕ) → Type 0
CanGrow s t cuts = ReadSome s t ⊎ ((bytes : List ℕ) × ReadWhole s t bytes × NoneAbove cuts (length bytes))

-- one fact for each error
abbrev pub MatchRunError : RunError → (read write memory usage : Type 0) → Type 0
MatchRunError Error.Read r w m u = r
MatchRunError Error.Write r w m u = w
MatchRunError Error.OutOfMemory r w m u = m
MatchRunError Error.Usage r w m u = u
