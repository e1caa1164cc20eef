-- A part whose outputs a closure maps, which may take memory.
use Rattle.std.specs.Prelude.{◌≡◌, true, Result, Err, Ok}
use Rattle.nom_error.specs.declared.answer.OutOfMemory.{OutOfMemory}
use Rattle.nom_internal.specs.Prelude.{Outcome, Accept, Refuse, Stop, Meaning, Case, case_meaning, AsAsked, IsCallable, Grammar, GivesFor}

-- the part accepts, and the closure finds no memory for an output
abbrev pub LacksMemory : {V P R : Type 0} → (V → P → Type 0) → (P → Result R OutOfMemory → Type 0) → Outcome V → Type 0
LacksMemory {P = P} IsOutput Gives (Accept n v) = (p : P) × (e : OutOfMemory) × IsOutput v p × Gives p (Err e)
LacksMemory IsOutput Gives Refuse = ⊥
LacksMemory IsOutput Gives (Stop why) = ⊥

-- the closure takes no memory, so it never lacks any
abbrev pub TakesNoMemory : {P R : Type 0} → (P → Result R OutOfMemory → Type 0) → Type 0
TakesNoMemory {P} Gives = (p : P) (e : OutOfMemory) → Gives p (Err e) → ⊥

-- The outcome is the part's, with its tree, as of `map`. Where outputs are built, memory runs out too where the closure finds
-- none for the output of an acceptance.
abbrev pub map_alloc_case : {I V P R E : Type 0} → (V → P → Type 0) → (P → Type 0) → (P → Result R OutOfMemory → Type 0) → Case I I V V E E
map_alloc_case IsOutput Takes Gives = record {
  At = λ i j. i ≡ j;
  mode = AsAsked;
  Becomes = λ i a o. o ≡ a;
  Blames = λ i a Part. Part;
  part = λ mode. mode;
  Asks = λ mode i a. (mode.outputs ≡ true) × LacksMemory IsOutput Gives a;
  Runs = λ Part. Part × IsCallable IsOutput Takes;
  IsSound = λ Part. Part;
  IsFrugal = λ Part mode. Part mode × (mode.outputs ≡ true → TakesNoMemory Gives);
  NeverFails = λ Part. Part;
}

abbrev pub map_alloc_meaning : {I V P R E : Type 0} → (V → P → Type 0) → (P → Type 0) → (P → Result R OutOfMemory → Type 0) → Meaning I V E → Meaning I V E
map_alloc_meaning IsOutput Takes Gives = case_meaning (map_alloc_case IsOutput Takes Gives)

-- a grammar whose outputs a closure maps, which may take memory
abbrev pub map_alloc_by : {I V O P E : Type 0} → (O → Type 0) → (O → Result P OutOfMemory → Type 0) → Grammar I V O E → Grammar I V P E
map_alloc_by Takes Gives g = record {
  meaning = map_alloc_meaning g.IsOutput Takes Gives g.meaning;
  IsOutput = GivesFor g.IsOutput (λ a o. Gives a (Ok o));
}
