-- A function as a parser.
use Rattle.std.specs.Prelude.{◌≡◌, ℕ, ◌⊎◌, Bool, true, false, List, Ok, Err, Option}
use Rattle.std.proofs.Common.{sym, ◌∙◌}
use Rattle.nom_error.specs.declared.answer.Err as Answer
use Rattle.nom_error.specs.declared.kind.ErrorKind.TheVariants as Kind
use Rattle.nom_internal.specs.Prelude.{Incomplete, Error, Failure, OutOfMemory, Needed, IResult, PResult, Errors, Built, size_of, Model, IsSuffixOf, IsSame}
use Rattle.nom_internal.specs.Prelude.{Related, View, Outcome, Accept, Grammar}
use Rattle.nom_internal.specs.Prelude.{Refuse, Stop, Fails, Needs, Outright, Meaning, Keeps, ParsesMeaning, IsPinned, Cause, TooLarge}
use Rattle.nom_traits.specs.Cuts.{CutsAs, CutsNowhere}

-- an output stands for its view
abbrev pub IsViewed : {O : Type 0} (view : View O) → view.Value → O → Type 0
IsViewed view t o = view.value o ≡ t

pub viewed_pinned : {O : Type 0} {view : View O} → IsPinned view (IsViewed view)
viewed_pinned = record { one_view = λ t a b p q. p ∙ sym q }

-- the failure of a function that left what is as long as no rest of i, or no memory for its error
abbrev pub IsNoRestAt : {I E : Type 0} → Errors I E → I → Answer.Err E (Option E) Needed → Type 0
IsNoRestAt {E = E} errs i r = ((e : E) × errs.of_kind i Kind.Fail e × (r ≡ Failure e)) ⊎ (errs.grows × (r ≡ OutOfMemory))

-- What is answered at i for an acceptance of v that left an input: the rest that is as long, or the failure where none is.
pub data AcceptsCut {I A O E : Type 0} (w : Model I A) (errs : Errors I E) (outputs : Bool) (i left : I) (v : O) (r : PResult I O E) : Type 0 where
  AtRest : (n : ℕ) (j : I) (b : Option O) → CutsAs w i n left → IsSuffixOf w i n j → Built outputs (λ u. u ≡ v) b → r ≡ Ok (j, b) →
      AcceptsCut w errs outputs i left v r
  AtNone : (f : Answer.Err E (Option E) Needed) → CutsNowhere w i left → IsNoRestAt errs i f → r ≡ Err f → AcceptsCut w errs outputs i left v r

-- What a parser answers where its function answers so at i: a rest is cut, an output and the error of a refusal are there if they are built.
abbrev pub PassesOn : {I A O E : Type 0} → Model I A → Errors I E → (outputs errors : Bool) → I → IResult I O E → PResult I O E → Type 0
PassesOn w errs outputs errors i (Ok (left, v)) r = AcceptsCut w errs outputs i left v r
PassesOn {E = E} w errs outputs errors i (Err (Error e)) r = (b : Option E) × Built errors (λ x. x ≡ e) b × (r ≡ Err (Error b))
PassesOn w errs outputs errors i (Err (Incomplete k)) r = r ≡ Err (Incomplete k)
PassesOn w errs outputs errors i (Err (Failure e)) r = r ≡ Err (Failure e)
PassesOn w errs outputs errors i (Err OutOfMemory) r = r ≡ Err OutOfMemory

module _ {I A O E : Type 0} (w : Model I A) (errs : Errors I E) (Gives : I → IResult I O E → Type 0) (i : I) where
  -- the error that the function's refusal or failure holds, or that is made where what it left is as long as no rest
  pub data FuncBlames (e : E) : Type 0 where
    OfRefusal : Gives i (Err (Error e)) → FuncBlames e
    OfFailure : Gives i (Err (Failure e)) → FuncBlames e
    OfNoRest : (j : I) (v : O) → Gives i (Ok (j, v)) → CutsNowhere w i j → errs.of_kind i Kind.Fail e → FuncBlames e

  -- memory runs out in the function, or for that error
  pub data FuncRunsOut : Type 0 where
    RunsOutInside : Gives i (Err OutOfMemory) → FuncRunsOut
    RunsOutNoRest : (j : I) (v : O) → Gives i (Ok (j, v)) → CutsNowhere w i j → errs.grows → FuncRunsOut

module _ {I A O E : Type 0} (w : Model I A) (Gives : I → IResult I O E → Type 0) where
  -- the function never answers a failure, and what it leaves is as long as a rest
  pub record NeverFailsItself : Type 0 where
    pub no_failure : (i : I) (e : E) → w.IsKnown i → Gives i (Err (Failure e)) → ⊥
    pub rests : (i j : I) (v : O) → w.IsKnown i → Gives i (Ok (j, v)) → CutsNowhere w i j → ⊥

  -- It never fails outright. That what it lacks is too large, its answers never tell.
  abbrev pub FuncNeverFails : Cause → Type 0
  FuncNeverFails Outright = NeverFailsItself
  FuncNeverFails TooLarge = Unit {0}

-- two inputs, the second longer than the first (true), or equal as models (false)
pub record AreRelated {I A : Type 0} (w : Model I A) (longer : Bool) (i j : I) : Type 0 where
  pub from_known : w.IsKnown i
  pub to_known : w.IsKnown j
  pub related : Related w longer i j

module _ {I A O E : Type 0} (w : Model I A) (view : View O) where
  -- The outcome that an answer at i tells: its tree is the view of the output, and a failure is one of the function's own. Want
  -- of memory tells none, and nor does an acceptance that leaves no rest.
  abbrev pub HasOutcome : I → IResult I O E → Outcome view.Value → Type 0
  HasOutcome i (Ok (j, v)) o = (n : ℕ) × IsSuffixOf w i n j × (o ≡ Accept n (view.value v))
  HasOutcome i (Err (Incomplete k)) o = o ≡ Stop (Needs (size_of k))
  HasOutcome i (Err (Error e)) o = o ≡ Refuse
  HasOutcome i (Err (Failure e)) o = o ≡ Stop (Fails Outright)
  HasOutcome i (Err OutOfMemory) o = ⊥

  -- it tells the outcome that the input's items have
  abbrev pub TellsItems : (List A → Outcome view.Value) → I → IResult I O E → Type 0
  TellsItems outcome i r = HasOutcome i r (outcome (w.elements i))

  -- The outcome that an answer at i is taken as: of an acceptance the rest is the one that is as long as what it left, and where
  -- none is, it is a failure. An answer is taken as the outcome that it tells.
  abbrev pub TakenAs : I → IResult I O E → Outcome view.Value → Type 0
  TakenAs i (Ok (j, v)) o = ((n : ℕ) × CutsAs w i n j × (o ≡ Accept n (view.value v))) ⊎ (CutsNowhere w i j × (o ≡ Stop (Fails Outright)))
  TakenAs i (Err (Incomplete k)) o = o ≡ Stop (Needs (size_of k))
  TakenAs i (Err (Error e)) o = o ≡ Refuse
  TakenAs i (Err (Failure e)) o = o ≡ Stop (Fails Outright)
  TakenAs i (Err OutOfMemory) o = ⊥

  -- the answers r at i and q at j are taken as one outcome, where r's is kept: always (false), or on a longer input (true)
  unfoldable pub TellOne : (longer : Bool) (i j : I) (r q : IResult I O E) → Type 0
  TellOne longer i j r q = (o p : Outcome view.Value) → TakenAs i r o → Keeps longer o → TakenAs j q p → o ≡ p

  module _ (Gives : I → IResult I O E → Type 0) where
    -- What makes a function a sound parser: at inputs of equal models its answers are taken as one outcome.
    pub record IsParser : Type 0 where
      pub consistent : (i j : I) (r q : IResult I O E) → AreRelated w false i j → Gives i r → Gives j q → TellOne false i j r q

    -- and a stream parser: an acceptance, a refusal or a failure stays on every longer input
    pub record IsStreamParser : Type 0 where
      pub parser : IsParser
      pub stays : (i j : I) (r q : IResult I O E) → AreRelated w true i j → Gives i r → Gives j q → TellOne true i j r q

    -- the function's outcome at i: what an answer of it is taken as
    pub record FuncOutcome (i : I) (o : Outcome view.Value) : Type 0 where
      pub answer : IResult I O E
      pub given : Gives i answer
      pub told : TakenAs i answer o

    -- the function's outcome at an input whose model is i's
    pub record FuncAnswers (i : I) (o : Outcome view.Value) : Type 0 where
      pub at : I
      pub known : w.IsKnown at
      pub consistent : IsSame w at i
      pub outcome : FuncOutcome at o

    -- What a function means, with its premises: alike in both modes.
    abbrev pub func_meaning : Errors I E → (Runs IsSound : Type 0) → Meaning I view.Value E
    func_meaning errs Runs IsSound = record {
      Runs = Runs;
      IsSound = IsSound;
      answers = λ s. FuncAnswers;
      blames = λ s. FuncBlames w errs Gives;
      may_run_out = λ mode i. FuncRunsOut w errs Gives i;
      IsFrugal = λ mode. (i : I) → w.IsKnown i → FuncRunsOut w errs Gives i → ⊥;
      Settles = Unit {0};
      NeverFails = FuncNeverFails w Gives;
    }

-- the answer r at i is what a meaning says in one mode
unfoldable pub Answers : {I A V O E : Type 0} (w : Model I A) (IsOutput : V → O → Type 0) (m : Meaning I V E) (s : Bool) (i : I)
    (r : IResult I O E) → Type 0
Answers w IsOutput m s i r = ParsesMeaning w IsOutput m s i r

-- What a plain function ensures of its answer r at i: what a meaning says in one mode. The meaning is lawful, so it pins the
-- function's answers everywhere; `alike` says so in the words of `IsParser`, by which `func` is sound with the function.
module _ {I A V O E : Type 0} (w : Model I A) (view : View O) (IsOutput : V → O → Type 0) (m : Meaning I V E) (s : Bool) (i : I)
    (r : IResult I O E) where
  pub record AnswersBy : Type 0 where
    pub shown : Answers w IsOutput m s i r
    -- each answer by the meaning at an input whose model is i's
    pub consistent : (j : I) (q : IResult I O E) → AreRelated w false i j → Answers w IsOutput m s j q → TellOne w view false i j r q

  -- and of a function of `streaming`, by which `stream_func` is sound with it: on each longer input what is decided stays
  pub record StreamsBy : Type 0 where
    pub answer : AnswersBy
    pub stays : (j : I) (q : IResult I O E) → AreRelated w true i j → Answers w IsOutput m s j q → TellOne w view true i j r q

-- it takes every input
abbrev pub TakesAll : {I A : Type 0} → Model I A → (I → Type 0) → Type 0
TakesAll {I} w Takes = (i : I) → w.IsKnown i → Takes i

-- A function, as a grammar: which inputs it takes, and what it answers, is in its contract. It runs where it takes every input.
abbrev pub func_of : {I A O E : Type 0} → Model I A → (view : View O) → Errors I E → (I → IResult I O E → Type 0) → (I → Type 0) → Type 0 →
    Grammar I view.Value O E
func_of w view errs Gives Takes IsSound = record { meaning = func_meaning w view Gives errs (TakesAll w Takes) IsSound; IsOutput = IsViewed view }
