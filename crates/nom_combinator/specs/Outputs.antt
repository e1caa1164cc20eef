-- A value in the place of what a part accepts.
use Rattle.std.specs.Prelude.{◌≡◌, ℕ, true, Bool}
use Rattle.nom_error.specs.declared.kind.ErrorKind.TheVariants as Kind
use Rattle.nom_internal.specs.Prelude.{Outcome, Accept, Meaning, Case, case_meaning, Passes, AsAsked, Errors, Grammar, judged_meaning}
use Rattle.nom_combinator.specs.Verdicts.{IsAcceptance}

-- an acceptance, with the value in place of the part's tree
abbrev pub GivesValue : {P T : Type 0} → T → ℕ → P → Outcome T → Type 0
GivesValue v n u o = o ≡ Accept n v

-- A part whose acceptances give a value, of which a clone is made where outputs are built; that may take memory, where it
-- isn't sure to be there.
abbrev pub value_case : {I P T E : Type 0} → T → Type 0 → Case I I P T E E
value_case v IsSure = record {
  At = λ i j. i ≡ j;
  mode = AsAsked;
  Becomes = λ i. Passes (GivesValue v);
  Blames = λ i a Part. Part;
  part = λ mode. mode;
  Asks = λ mode i a. IsAcceptance a × (mode.outputs ≡ true) × ¬ IsSure;
  Runs = λ Part. Part;
  IsSound = λ Part. Part;
  IsFrugal = λ Part mode. Part mode × (mode.outputs ≡ true → IsSure);
  NeverFails = λ Part. Part;
}

abbrev pub value_meaning : {I P T E : Type 0} → T → Type 0 → Meaning I P E → Meaning I T E
value_meaning v IsSure = case_meaning (value_case v IsSure)

-- a value in the place of a grammar's outputs; IsClone says which values are clones of it
abbrev pub value_by : {I V O Q E : Type 0} → Q → Type 0 → (Q → Type 0) → Grammar I V O E → Grammar I Q Q E
value_by v IsSure IsClone g = record { meaning = value_meaning v IsSure g.meaning; IsOutput = λ _. IsClone }

-- a grammar of whose outputs a closure says which are accepted
abbrev pub verify_by : {I V O E : Type 0} → Errors I E → (O → Type 0) → (O → Bool → Type 0) → Grammar I V O E → Grammar I V O E
verify_by errs Takes Says g = record {
  meaning = judged_meaning g.IsOutput Takes Says (λ b. b) (λ i _. errs.of_kind i Kind.Verify) errs.grows g.meaning;
  IsOutput = λ t o. g.IsOutput t o × Says o true;
}
