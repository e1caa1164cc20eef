-- The answers of parsers beside an acceptance.
use Rattle.std.specs.Prelude.{◌≡◌, ℕ, Bool, true, false, ◌⊎◌, List, ◌++◌, Result, Ok, Option, Some, None, codes}
use Rattle.std.specs.Prelude as Std
use Rattle.std.specs.Fmt.{decimal, ◌++?◌}
use Rattle.std.specs.Int.NonZero.{non_zero_usize_get}
use Rattle.std.specs.declared.num.NonZeroUsize.{NonZeroUsize}
use Rattle.nom_error.specs.declared.answer.Needed.{Needed}
use Rattle.nom_error.specs.declared.answer.Needed.TheVariants.{Unknown, Size}
use Rattle.nom_error.specs.declared.answer.Err as Answer
use Rattle.nom_error.specs.declared.answer.Err.TheVariants.{Incomplete, Error, Failure, OutOfMemory}
use Rattle.nom_error.specs.declared.finish.FinishError.{FinishError}
use Rattle.nom_error.specs.declared.finish.FinishError.TheVariants as Finish
use Rattle.nom_error.specs.Modes.{Built}

-- what `process` returns: the rest, and what is built of the output; or what is built of the error
abbrev pub PResult : Type 0 → Type 0 → Type 0 → Type 0
PResult I O E = Result (I × Option O) (Answer.Err E (Option E) Needed)

-- what `parse` and `parse_complete` return, and nom's plain functions: the rest and the output, or the error
abbrev pub IResult : Type 0 → Type 0 → Type 0 → Type 0
IResult I O E = Result (I × O) (Answer.Err E E Needed)

-- the size that is needed, or none where it is unknown
abbrev pub size_of : Needed → Option ℕ
size_of Unknown = None
size_of (Size n) = Some (non_zero_usize_get n)

-- a size is mapped, one that becomes 0 is unknown, and an unknown one stays
abbrev pub IsNeededBy : (NonZeroUsize → ℕ → Type 0) → Needed → Needed → Type 0
IsNeededBy Gives Unknown r = r ≡ Unknown
IsNeededBy Gives (Size n) r = (m : ℕ) × Gives n m × (((m ≡ 0) × (r ≡ Unknown)) ⊎ (size_of r ≡ Some m))

abbrev pub IsIncomplete : {F E : Type 0} → Answer.Err F E Needed → Type 0
IsIncomplete (Incomplete k) = Unit {0}
IsIncomplete (Error e) = ⊥
IsIncomplete (Failure e) = ⊥
IsIncomplete OutOfMemory = ⊥

-- the error that a refusal or a failure holds is mapped, and all else stays
abbrev pub IsMapped : {D E : Type 0} → (D → E → Type 0) → Answer.Err D D Needed → Answer.Err E E Needed → Type 0
IsMapped Gives (Incomplete k) r = r ≡ Incomplete k
IsMapped {D} {E} Gives (Error d) r = (e : E) × Gives d e × (r ≡ Error e)
IsMapped {D} {E} Gives (Failure d) r = (e : E) × Gives d e × (r ≡ Failure e)
IsMapped Gives OutOfMemory r = r ≡ OutOfMemory

-- the answer holds an error, of which the fact holds
abbrev pub HoldsError : {D : Type 0} → (D → Type 0) → Answer.Err D D Needed → Type 0
HoldsError P (Incomplete k) = ⊥
HoldsError P (Error d) = P d
HoldsError P (Failure d) = P d
HoldsError P OutOfMemory = ⊥

-- the text that is displayed: that of a refusal or a failure ends in its error, as `{:?}` writes it, where that is promised
abbrev pub text_of : {E : Type 0} → (E → Option (List ℕ)) → Answer.Err E E Needed → Option (List ℕ)
text_of shown (Incomplete Unknown) = Some (codes "Parsing requires more data")
text_of shown (Incomplete (Size n)) = Some (codes "Parsing requires " ++ decimal (non_zero_usize_get n) ++ codes " bytes/chars")
text_of shown (Error e) = Some (codes "Parsing Error: ") ++? shown e
text_of shown (Failure e) = Some (codes "Parsing Failure: ") ++? shown e
text_of shown OutOfMemory = Some (codes "Parsing ran out of memory")

-- an answer that asks for more input
abbrev pub WantsMore : {T E : Type 0} → Result T (Answer.Err E E Needed) → Type 0
WantsMore (Ok v) = ⊥
WantsMore (Std.Err e) = IsIncomplete e

-- a finished answer: an acceptance as it is, and else the error that a refusal or a failure holds, or that memory ran out
abbrev pub IsFinished : {T E : Type 0} → Result T (Answer.Err E E Needed) → Result T (FinishError E) → Type 0
IsFinished (Ok v) r = r ≡ Ok v
IsFinished (Std.Err (Incomplete k)) r = ⊥
IsFinished (Std.Err (Error e)) r = r ≡ Std.Err (Finish.Parse e)
IsFinished (Std.Err (Failure e)) r = r ≡ Std.Err (Finish.Parse e)
IsFinished (Std.Err OutOfMemory) r = r ≡ Std.Err Finish.OutOfMemory

-- what is answered for a refusal: its error, where errors are built, or that memory ran out
abbrev pub Refuses : {E : Type 0} → (E → Type 0) → Type 0 → Bool → Answer.Err E (Option E) Needed → Type 0
Refuses {E} Gives Grows errors r = ((r ≡ OutOfMemory) × (errors ≡ true) × Grows) ⊎ ((b : Option E) × Built errors Gives b × (r ≡ Error b))

-- where an input ends too early: more is needed where more may come, else a refusal with an error of which the fact holds
abbrev pub IsLack : {E : Type 0} → Bool → (E → Type 0) → Needed → Answer.Err E E Needed → Type 0
IsLack true Gives needed r = r ≡ Incomplete needed
IsLack {E} false Gives needed r = (e : E) × Gives e × (r ≡ Error e)
