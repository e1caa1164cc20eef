-- A part whose outputs, or whose errors too, become others.
use Rattle.std.specs.Prelude.{◌≡◌, Bool, true, Option, Some, None, Ok, Err}
use Rattle.nom_error.specs.Answers.{PResult}
use Rattle.nom_error.specs.declared.answer.Err.TheVariants.{Incomplete, Error, Failure, OutOfMemory}
use Rattle.nom_internal.specs.Outcome.{Outcome, IsFault}
use Rattle.nom_internal.specs.Outcome.Outcome.{Accept, Refuse, Stop}
use Rattle.nom_internal.specs.Outcome.Reason.{Fails, Needs}
use Rattle.nom_internal.specs.Meaning.{Meaning}
use Rattle.nom_internal.specs.Grammar.{Grammar}
use Rattle.nom_internal.specs.Cases.{Case, case_meaning}
use Rattle.nom_internal.specs.Cases.PartMode.{AsAsked}
use Rattle.nom_internal.specs.Closures.{GivesFor, IsCallable}

-- The outcome is the part's, with its tree: only what the tree stands for is mapped, by a closure that takes each output of
-- the part.
abbrev pub map_case : {I V P E : Type 0} → (V → P → Type 0) → (P → Type 0) → Case I I V V E E
map_case IsOutput Takes = record {
  At = λ i j. i ≡ j;
  mode = AsAsked;
  Becomes = λ i a o. o ≡ a;
  Blames = λ i a Part. Part;
  part = λ mode. mode;
  Asks = λ mode i a. ⊥;
  Runs = λ Part. Part × IsCallable IsOutput Takes;
  IsSound = λ Part. Part;
  IsFrugal = λ Part. Part;
  NeverFails = λ Part. Part;
}

abbrev pub map_meaning : {I V P E : Type 0} → (V → P → Type 0) → (P → Type 0) → Meaning I V E → Meaning I V E
map_meaning IsOutput Takes = case_meaning (map_case IsOutput Takes)

-- the outcome holds an error that is built
abbrev pub BuildsError : {P : Type 0} → Bool → Outcome P → Type 0
BuildsError errors (Accept n v) = ⊥
BuildsError errors Refuse = errors ≡ true
BuildsError errors (Stop (Fails cause)) = Unit {0}
BuildsError errors (Stop (Needs k)) = ⊥

-- The outcome is the part's, with its tree: each error is made of the part's, which may take memory where the error is built.
abbrev pub renamed_case : {I V E F : Type 0} → (I → E → F → Type 0) → Type 0 → Case I I V V E F
renamed_case {E = E} Makes Grows = record {
  At = λ i j. i ≡ j;
  mode = AsAsked;
  Becomes = λ i a o. o ≡ a;
  Blames = λ i a Part f. (e : E) × IsFault a × Part e × Makes i e f;
  part = λ mode. mode;
  Asks = λ mode i a. BuildsError mode.errors a × Grows;
  Runs = λ Part. Part;
  IsSound = λ Part. Part;
  IsFrugal = λ Part mode. Part mode × (Grows → ⊥);
  NeverFails = λ Part. Part;
}

abbrev pub renamed_meaning : {I V E F : Type 0} → (I → E → F → Type 0) → Type 0 → Meaning I V E → Meaning I V F
renamed_meaning Makes Grows = case_meaning (renamed_case Makes Grows)

-- a part whose errors are converted, which takes no memory
abbrev pub into_meaning : {I V E F : Type 0} → (E → F → Type 0) → Meaning I V E → Meaning I V F
into_meaning Converts = renamed_meaning (λ i. Converts) ⊥

-- a value that is there is converted
abbrev pub ConvertsSome : {T U : Type 0} → (T → U → Type 0) → Option T → Option U → Type 0
ConvertsSome {U = U} Converts (Some x) y = (z : U) × Converts x z × (y ≡ Some z)
ConvertsSome Converts None y = y ≡ None

-- the output and the error that an answer holds are converted, and all else stays
abbrev pub ConvertsResult : {I T U E F : Type 0} → (T → U → Type 0) → (E → F → Type 0) → PResult I T E →
    PResult I U F → Type 0
ConvertsResult {U = U} Gives Converts (Ok (j, x)) r = (y : Option U) × ConvertsSome Gives x y × (r ≡ Ok (j, y))
ConvertsResult Gives Converts (Err (Incomplete k)) r = r ≡ Err (Incomplete k)
ConvertsResult {F = F} Gives Converts (Err (Error x)) r = (y : Option F) × ConvertsSome Converts x y × (r ≡ Err (Error y))
ConvertsResult {F = F} Gives Converts (Err (Failure e)) r = (f : F) × Converts e f × (r ≡ Err (Failure f))
ConvertsResult Gives Converts (Err OutOfMemory) r = r ≡ Err OutOfMemory

-- a grammar whose outputs a closure maps
abbrev pub map_by : {I V O P E : Type 0} → (O → Type 0) → (O → P → Type 0) → Grammar I V O E → Grammar I V P E
map_by Takes Gives g = record { meaning = map_meaning g.IsOutput Takes g.meaning; IsOutput = GivesFor g.IsOutput Gives }

-- a grammar whose outputs and errors are converted
abbrev pub into_by : {I V O P E F : Type 0} → (O → P → Type 0) → (E → F → Type 0) → Grammar I V O E → Grammar I V P F
into_by Gives Converts g = record { meaning = into_meaning Converts g.meaning; IsOutput = GivesFor g.IsOutput Gives }
