-- Cases over one part's outcome: what it becomes, with which error, where memory is asked for, what is built, in which mode.
use Rattle.std.specs.Prelude.{◌≡◌, ℕ, Bool, true}
use Rattle.nom_error.specs.Modes.{Modes, with_outputs, with_streaming}
use Rattle.nom_internal.specs.Outcome.{Outcome, mapped, Cause}
use Rattle.nom_internal.specs.Outcome.Outcome.{Accept, Refuse, Stop}
use Rattle.nom_internal.specs.Outcome.Reason.{Fails, Needs}
use Rattle.nom_internal.specs.Meaning.{Meaning}
use Rattle.nom_internal.specs.Grammar.{Grammar}

-- the mode of a part: the one that is asked for, or always streaming (true) or complete (false)
pub data PartMode : Type 0 where
  AsAsked : PartMode
  Always : Bool → PartMode

abbrev pub mode_of : PartMode → Bool → Bool
mode_of AsAsked s = s
mode_of (Always b) s = b

-- in one mode alone it settles of itself
abbrev pub SettlesIn : PartMode → Type 0 → Type 0
SettlesIn AsAsked Settles = Settles
SettlesIn (Always b) Settles = Unit {0}

-- Of a parser over I, with trees T and errors F: the cases of a part over J, with trees P and errors E.
pub record Case (I J P T E F : Type 0) : Type 1 where
  -- the input at which the part runs
  pub At : I → J → Type 0
  pub mode : PartMode
  -- what its outcome becomes
  pub Becomes : I → Outcome P → Outcome T → Type 0
  -- the error, by the part's outcome and by its errors
  pub Blames : I → Outcome P → (E → Type 0) → F → Type 0
  -- what the part builds, and in which mode, by what the whole does
  pub part : Modes → Modes
  -- may memory be asked for beside the part, by what is built and by the part's outcome
  pub Asks : Modes → I → Outcome P → Type 0
  -- by what holds of the part
  pub Runs : Type 0 → Type 0
  pub IsSound : Type 0 → Type 0
  pub IsFrugal : (Modes → Type 0) → Modes → Type 0
  pub NeverFails : (Cause → Type 0) → Cause → Type 0

-- the part runs at an input of its own, and of that and its outcome the fact holds
pub record OnPart {I J P : Type 0} (At : I → J → Type 0) (Part : J → Outcome P → Type 0) (Fact : J → Outcome P → Type 0) (i : I) : Type 0 where
  pub at : J
  pub at_is : At i at
  pub outcome : Outcome P
  pub answered : Part at outcome
  pub fact : Fact at outcome

-- memory runs out in the part, at its input, or beside it
pub data CaseRunsOut {I J P : Type 0} (At : I → J → Type 0) (Part : J → Outcome P → Type 0) (PartRunsOut : J → Type 0) (Asks : I → Outcome P → Type 0)
    (i : I) : Type 0 where
  RunsOutInPart : (j : J) → At i j → PartRunsOut j → CaseRunsOut At Part PartRunsOut Asks i
  RunsOutBeside : OnPart At Part (λ _ a. Asks i a) i → CaseRunsOut At Part PartRunsOut Asks i

abbrev pub case_meaning : {I J P T E F : Type 0} → Case I J P T E F → Meaning J P E → Meaning I T F
case_meaning c m = record {
  Runs = c.Runs m.Runs;
  IsSound = c.IsSound m.IsSound;
  answers = λ s i o. OnPart c.At (m.answers (mode_of c.mode s)) (λ _ a. c.Becomes i a o) i;
  blames = λ s i e. OnPart c.At (m.answers (mode_of c.mode s)) (λ j a. c.Blames i a (m.blames (mode_of c.mode s) j) e) i;
  may_run_out = λ mode. CaseRunsOut c.At (m.answers (mode_of c.mode mode.streaming)) (m.may_run_out (c.part mode)) (c.Asks mode);
  IsFrugal = c.IsFrugal m.IsFrugal;
  Settles = SettlesIn c.mode m.Settles;
  NeverFails = c.NeverFails m.NeverFails;
}

-- the outcomes other than an acceptance pass
abbrev pub Passes : {P T : Type 0} → (ℕ → P → Outcome T → Type 0) → Outcome P → Outcome T → Type 0
Passes OnAccept (Accept n u) o = OnAccept n u o
Passes OnAccept Refuse o = o ≡ Refuse
Passes OnAccept (Stop why) o = o ≡ Stop why

-- Of a part at the same input, in the mode that is asked for, whose errors stand for themselves: what its outcome becomes,
-- and whether its outputs are built.
abbrev pub plain_case : {I P T E : Type 0} → (Bool → Bool) → (I → Outcome P → Outcome T → Type 0) → Case I I P T E E
plain_case outputs Becomes = record {
  At = λ i j. i ≡ j;
  mode = AsAsked;
  Becomes = Becomes;
  Blames = λ i a P. P;
  part = λ mode. with_outputs (outputs mode.outputs) mode;
  Asks = λ _ i a. ⊥;
  Runs = λ Part. Part;
  IsSound = λ Part. Part;
  IsFrugal = λ Part mode. Part (with_outputs (outputs mode.outputs) mode);
  NeverFails = λ Part. Part;
}

-- an outcome with its tree labelled
abbrev pub labelled : {P T : Type 0} → (P → T) → Outcome P → Outcome T
labelled = mapped (λ n. n)

-- a part with its trees labelled: as a branch, by which it is
abbrev pub labelled_meaning : {I P T E : Type 0} → (P → T) → Meaning I P E → Meaning I T E
labelled_meaning label = case_meaning (plain_case (λ b. b) (λ i a o. o ≡ labelled label a))

-- a part in one mode, whatever mode is asked for
abbrev pub fixed_case : {I P E : Type 0} → Bool → Case I I P P E E
fixed_case mode = record {
  At = λ i j. i ≡ j;
  mode = Always mode;
  Becomes = λ i a o. o ≡ a;
  Blames = λ i a P. P;
  part = with_streaming mode;
  Asks = λ _ i a. ⊥;
  Runs = λ Part. Part;
  IsSound = λ Part. Part;
  IsFrugal = λ Part asked. Part (with_streaming mode asked);
  NeverFails = λ Part. Part;
}

abbrev pub fixed_meaning : {I P E : Type 0} → Bool → Meaning I P E → Meaning I P E
fixed_meaning mode = case_meaning (fixed_case mode)

-- the error of a refusal, closed at the start; a failure's stays
abbrev pub Closed : {P E : Type 0} → (E → E → Type 0) → Outcome P → (E → Type 0) → E → Type 0
Closed Closes (Accept n v) P e = ⊥
Closed {E = E} Closes Refuse P e = (x : E) × P x × Closes x e
Closed Closes (Stop (Fails cause)) P e = P e
Closed Closes (Stop (Needs k)) P e = ⊥

-- of a refusal alone
abbrev pub OnRefused : {P : Type 0} → Type 0 → Outcome P → Type 0
OnRefused Fact (Accept n v) = ⊥
OnRefused Fact Refuse = Fact
OnRefused Fact (Stop why) = ⊥

-- a part whose refusals' errors are closed at the start, which may take memory where errors are built
abbrev pub closed_case : {I P E : Type 0} → (I → E → E → Type 0) → Type 0 → Case I I P P E E
closed_case Closes Grows = record {
  At = λ i j. i ≡ j;
  mode = AsAsked;
  Becomes = λ i a o. o ≡ a;
  Blames = λ i. Closed (Closes i);
  part = λ mode. mode;
  Asks = λ mode i. OnRefused ((mode.errors ≡ true) × Grows);
  Runs = λ Part. Part;
  IsSound = λ Part. Part;
  IsFrugal = λ Part mode. Part mode × (mode.errors ≡ true → Grows → ⊥);
  NeverFails = λ Part. Part;
}

abbrev pub closed_meaning : {I P E : Type 0} → (I → E → E → Type 0) → Type 0 → Meaning I P E → Meaning I P E
closed_meaning Closes Grows = case_meaning (closed_case Closes Grows)

-- a grammar in one mode
abbrev pub fixed_of : {I P O E : Type 0} → Bool → Grammar I P O E → Grammar I P O E
fixed_of mode g = record { meaning = fixed_meaning mode g.meaning; IsOutput = g.IsOutput }
