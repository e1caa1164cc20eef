-- Choice: the first outcome that isn't a refusal. Where all branches refuse, their errors are joined by `or` from left to
-- right; or the first's is dropped. A closed choice passes that error to `append` at the start.
use Rattle.std.specs.Prelude.{◌≡◌, Bool, true, false, Result, Ok, Err, Option, Some, None, ◌⊎◌}
use Rattle.std.proofs.Common.{inl, inr}
use Rattle.nom_error.specs.declared.answer.Needed.{Needed}
use Rattle.nom_error.specs.declared.answer.Err as Answer
use Rattle.nom_error.specs.declared.answer.Err.TheVariants.{Incomplete, Error, Failure, OutOfMemory}
use Rattle.nom_error.specs.Answers.{PResult, Refuses}
use Rattle.nom_error.specs.Modes.{Built, Modes, with_errors}
use Rattle.nom_traits.specs.Input.{Model}
use Rattle.nom_internal.specs.Outcome.{Outcome, ShowsAnswer, IsFailure, IsFault, OnOutcome}
use Rattle.nom_internal.specs.Outcome.Outcome.{Accept, Refuse, Stop}
use Rattle.nom_internal.specs.Meaning.{Meaning}
use Rattle.nom_internal.specs.Grammar.{Grammar}
use Rattle.nom_internal.specs.Cases.{labelled_meaning}

-- how a first outcome goes on: a refusal by what follows it, and else as it is
abbrev pub GoesOnRefused : {V : Type 0} → (Outcome V → Type 0) → Outcome V → Outcome V → Type 0
GoesOnRefused Next (Accept n v) o = o ≡ Accept n v
GoesOnRefused Next Refuse o = Next o
GoesOnRefused Next (Stop why) o = o ≡ Stop why

-- a first part, and where it refuses the next one, on the same input
pub record OnRefusal {I V : Type 0} (First Next : I → Outcome V → Type 0) (i : I) (o : Outcome V) : Type 0 where
  pub first : Outcome V
  pub answered : First i first
  pub goes_on : GoesOnRefused (Next i) first o

-- two errors, joined, the first before the second
pub record Joined {E : Type 0} (Joins : E → E → E → Type 0) (First Second : E → Type 0) (e : E) : Type 0 where
  pub first : E
  pub second : E
  pub first_is : First first
  pub second_is : Second second
  pub joined : Joins first second e

-- the error of a part after a refusal, of whose error First holds: its own failure's, or, where it refuses too, both joined
pub data NextBlames {I V E : Type 0} (Joins : E → E → E → Type 0) (m : Meaning I V E) (s : Bool) (i : I) (First : E → Type 0) (e : E) : Type 0 where
  NextFails : OnOutcome IsFailure (m.answers s) (m.blames s i e) i → NextBlames Joins m s i First e
  NextRefuses : m.answers s i Refuse → Joined Joins First (m.blames s i) e → NextBlames Joins m s i First e

-- the error of one of two parts: the first one's failure's, or where it refuses what comes of the second
pub data OrBlames {I V E : Type 0} (Joins : E → E → E → Type 0) (a b : Meaning I V E) (s : Bool) (i : I) (e : E) : Type 0 where
  FirstFails : OnOutcome IsFailure (a.answers s) (a.blames s i e) i → OrBlames Joins a b s i e
  FirstRefuses : a.answers s i Refuse → NextBlames Joins b s i (a.blames s i) e → OrBlames Joins a b s i e

-- where a part may run out of memory after a refusal: in itself, or in the joining of errors
abbrev pub NextRunsOut : {I V E : Type 0} → Type 0 → Meaning I V E → Modes → I → Type 0
NextRunsOut Grows m mode i = m.may_run_out mode i ⊎ (m.answers mode.streaming i Refuse × (mode.errors ≡ true) × Grows)

-- One of two parsers: the second where the first refuses; if both refuse, their errors joined. It is frugal where both are
-- and, where errors are built, making one takes no memory.
abbrev pub or_meaning : {I V E : Type 0} → (E → E → E → Type 0) → Type 0 → Meaning I V E → Meaning I V E → Meaning I V E
or_meaning Joins Grows a b = record {
  Runs = a.Runs × b.Runs;
  IsSound = a.IsSound × b.IsSound;
  answers = λ s. OnRefusal (a.answers s) (b.answers s);
  blames = OrBlames Joins a b;
  may_run_out = λ mode i. a.may_run_out mode i ⊎ (a.answers mode.streaming i Refuse × NextRunsOut Grows b mode i);
  IsFrugal = λ mode. a.IsFrugal mode × b.IsFrugal mode × (mode.errors ≡ true → Grows → ⊥);
  Settles = a.Settles × b.Settles;
  NeverFails = λ cause. a.NeverFails cause × b.NeverFails cause;
}

-- one of two parsers, with a tree that says which
abbrev pub either_meaning : {I P Q E : Type 0} → (E → E → E → Type 0) → Type 0 → Meaning I P E → Meaning I Q E → Meaning I (P ⊎ Q) E
either_meaning Joins Grows a b = or_meaning Joins Grows (labelled_meaning inl a) (labelled_meaning inr b)

-- the error of a parser that stands in for a first one: the first one's failure's, or where that refuses its own
pub data OtherwiseBlames {I V E : Type 0} (a b : Meaning I V E) (s : Bool) (i : I) (e : E) : Type 0 where
  FirstFaults : OnOutcome IsFailure (a.answers s) (a.blames s i e) i → OtherwiseBlames a b s i e
  NextFaults : a.answers s i Refuse → OnOutcome IsFault (b.answers s) (b.blames s i e) i → OtherwiseBlames a b s i e

-- The first parser, and where it refuses, its error dropped, the second. The dropped error isn't built.
abbrev pub otherwise_meaning : {I V E : Type 0} → Meaning I V E → Meaning I V E → Meaning I V E
otherwise_meaning a b = record {
  Runs = a.Runs × b.Runs;
  IsSound = a.IsSound × b.IsSound;
  answers = λ s. OnRefusal (a.answers s) (b.answers s);
  blames = OtherwiseBlames a b;
  may_run_out = λ mode i. a.may_run_out (with_errors false mode) i ⊎ (a.answers mode.streaming i Refuse × b.may_run_out mode i);
  IsFrugal = λ mode. a.IsFrugal (with_errors false mode) × b.IsFrugal mode;
  Settles = a.Settles × b.Settles;
  NeverFails = λ cause. a.NeverFails cause × b.NeverFails cause;
}

-- which output a tree of one of two parsers stands for: one of the branch that it names
abbrev pub EitherOutput : {P Q O : Type 0} → (P → O → Type 0) → (Q → O → Type 0) → P ⊎ Q → O → Type 0
EitherOutput First Second (inl t) o = First t o
EitherOutput First Second (inr t) o = Second t o

-- what becomes of a result: of a refusal what is said of its error, and else itself
abbrev pub OnError : {T E : Type 0} → (Option E → Result T (Answer.Err E (Option E) Needed) → Type 0) → Result T (Answer.Err E (Option E) Needed) →
    Result T (Answer.Err E (Option E) Needed) → Type 0
OnError Then (Ok x) r = r ≡ Ok x
OnError Then (Err (Incomplete k)) r = r ≡ Err (Incomplete k)
OnError Then (Err (Error x)) r = Then x r
OnError Then (Err (Failure e)) r = r ≡ Err (Failure e)
OnError Then (Err OutOfMemory) r = r ≡ Err OutOfMemory

-- two errors joined, where they are built, or memory ran out
abbrev pub JoinsErrors : {E : Type 0} → (E → E → E → Type 0) → Type 0 → Option E → Option E → Answer.Err E (Option E) Needed → Type 0
JoinsErrors Joins Grows (Some a) (Some b) f = Refuses (Joins a b) Grows true f
JoinsErrors Joins Grows (Some a) None f = f ≡ Error None
JoinsErrors Joins Grows None b f = f ≡ Error None

-- an error closed, where it is built, or memory ran out
abbrev pub ClosesError : {E : Type 0} → (E → E → Type 0) → Type 0 → Option E → Answer.Err E (Option E) Needed → Type 0
ClosesError Closes Grows (Some a) f = Refuses (Closes a) Grows true f
ClosesError Closes Grows None f = f ≡ Error None

-- a result, where a refusal's error is joined to one before it
abbrev pub JoinsResult : {T E : Type 0} → (E → E → E → Type 0) → Type 0 → Option E → Result T (Answer.Err E (Option E) Needed) →
    Result T (Answer.Err E (Option E) Needed) → Type 0
JoinsResult {E = E} Joins Grows x = OnError (λ y r. (f : Answer.Err E (Option E) Needed) × JoinsErrors Joins Grows x y f × (r ≡ Err f))

-- a result, where a refusal's error is closed
abbrev pub ClosesResult : {T E : Type 0} → (E → E → Type 0) → Type 0 → Result T (Answer.Err E (Option E) Needed) →
    Result T (Answer.Err E (Option E) Needed) → Type 0
ClosesResult {E = E} Closes Grows = OnError (λ x r. (f : Answer.Err E (Option E) Needed) × ClosesError Closes Grows x f × (r ≡ Err f))

-- what a part shows after a refusal with an error, where errors are built
abbrev pub ShowsNext : {I A V O E : Type 0} → Model I A → (V → O → Type 0) → (E → E → E → Type 0) → Type 0 → Meaning I V E → Modes → I → Option E →
    PResult I O E → Type 0
ShowsNext w IsOutput Joins Grows m mode i x r = Built mode.errors (λ _. Unit {0}) x →
    ShowsAnswer w IsOutput mode i (m.answers mode.streaming i) (NextBlames Joins m mode.streaming i (λ a. x ≡ Some a)) (NextRunsOut Grows m mode i) r

-- the first grammar, and where it refuses, the second
abbrev pub either_of : {I P Q O E : Type 0} → (E → E → E → Type 0) → Type 0 → Grammar I P O E → Grammar I Q O E → Grammar I (P ⊎ Q) O E
either_of Joins Grows g h = record {
  meaning = either_meaning Joins Grows g.meaning h.meaning;
  IsOutput = EitherOutput g.IsOutput h.IsOutput;
}
