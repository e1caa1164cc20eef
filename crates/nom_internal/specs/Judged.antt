-- A part whose acceptances a closure judges.
use Rattle.std.specs.Prelude.{◌≡◌, ℕ, Bool, true, false, Option, Some, Result, Ok, Err, is_some, is_ok}
use Rattle.nom_error.specs.Errors.{Errors, Externals}
use Rattle.nom_error.specs.Modes.{with_outputs}
use Rattle.nom_error.specs.declared.kind.ErrorKind.TheVariants as Kind
use Rattle.nom_internal.specs.Outcome.{Outcome}
use Rattle.nom_internal.specs.Outcome.Outcome.{Accept, Refuse, Stop}
use Rattle.nom_internal.specs.Outcome.Reason.{Fails, Needs}
use Rattle.nom_internal.specs.Meaning.{Meaning}
use Rattle.nom_internal.specs.Grammar.{Grammar}
use Rattle.nom_internal.specs.Cases.{Case, case_meaning, Passes}
use Rattle.nom_internal.specs.Cases.PartMode.{AsAsked}
use Rattle.nom_internal.specs.Closures.{GivesFor, IsAsked, IsJudge}

-- the outcome where it fits, and else a refusal
abbrev pub kept_if : {V : Type 0} → Bool → Outcome V → Outcome V
kept_if true o = o
kept_if false o = Refuse

module _ {V R : Type 0} (Says : V → R → Type 0) (fits : R → Bool) where
  -- an acceptance stays where what is said of its tree fits, and is refused elsewhere
  abbrev pub Judged : ℕ → V → Outcome V → Type 0
  Judged n t o = (r : R) × Says t r × (o ≡ kept_if (fits r) (Accept n t))

  -- of an acceptance of whose tree something is said that doesn't fit, and of which the fact holds
  abbrev pub OnUnfit : (R → Type 0) → Outcome V → Type 0
  OnUnfit Fact (Accept n t) = (r : R) × Says t r × (fits r ≡ false) × Fact r
  OnUnfit Fact Refuse = ⊥
  OnUnfit Fact (Stop why) = ⊥

  -- the error of what doesn't fit is made of what was said; any other is the part's
  abbrev pub JudgedBlames : {E : Type 0} → (R → E → Type 0) → Outcome V → (E → Type 0) → E → Type 0
  JudgedBlames Makes (Accept n t) Part e = OnUnfit (λ r. Makes r e) (Accept n t)
  JudgedBlames Makes Refuse Part e = Part e
  JudgedBlames Makes (Stop (Fails cause)) Part e = Part e
  JudgedBlames Makes (Stop (Needs k)) Part e = ⊥

-- A part whose outputs are always built, since a closure judges them by what it gives for them. The error where that doesn't
-- fit is made at the start, which may take memory where errors are built.
abbrev pub judged_case : {I V P R E : Type 0} → (V → P → Type 0) → (P → Type 0) → (P → R → Type 0) → (R → Bool) → (I → R → E → Type 0) → Type 0 →
    Case I I V V E E
judged_case IsOutput Takes Gives fits Makes Grows = record {
  At = λ i j. i ≡ j;
  mode = AsAsked;
  Becomes = λ i. Passes (Judged (GivesFor IsOutput Gives) fits);
  Blames = λ i. JudgedBlames (GivesFor IsOutput Gives) fits (Makes i);
  part = with_outputs true;
  Asks = λ mode i. OnUnfit (GivesFor IsOutput Gives) fits (λ _. (mode.errors ≡ true) × Grows);
  Runs = λ Part. Part × IsAsked IsOutput Takes Gives fits;
  IsSound = λ Part. Part × IsJudge IsOutput Gives fits;
  IsFrugal = λ Part mode. Part (with_outputs true mode) × (mode.errors ≡ true → Grows → ⊥);
  NeverFails = λ Part. Part;
}

abbrev pub judged_meaning : {I V P R E : Type 0} → (V → P → Type 0) → (P → Type 0) → (P → R → Type 0) → (R → Bool) → (I → R → E → Type 0) → Type 0 →
    Meaning I V E → Meaning I V E
judged_meaning IsOutput Takes Gives fits Makes Grows = case_meaning (judged_case IsOutput Takes Gives fits Makes Grows)

-- an error is made of the one that a result holds
abbrev pub OfError : {O X E : Type 0} → (X → E → Type 0) → Result O X → E → Type 0
OfError Makes (Ok v) e = ⊥
OfError Makes (Err x) e = Makes x e

-- a grammar whose outputs a closure maps, or refuses by giving none
abbrev pub map_opt_by : {I V O P E : Type 0} → Errors I E → (O → Type 0) → (O → Option P → Type 0) → Grammar I V O E → Grammar I V P E
map_opt_by errs Takes Gives g = record {
  meaning = judged_meaning g.IsOutput Takes Gives is_some (λ i _. errs.of_kind i Kind.MapOpt) errs.grows g.meaning;
  IsOutput = GivesFor g.IsOutput (λ a o. Gives a (Some o));
}

-- a grammar whose outputs a closure maps, or refuses by giving an error, of which the refusal's is made
abbrev pub map_res_by : {I V O P X E : Type 0} → Externals I X E → (O → Type 0) → (O → Result P X → Type 0) → Grammar I V O E → Grammar I V P E
map_res_by externals Takes Gives g = record {
  meaning = judged_meaning g.IsOutput Takes Gives is_ok (λ i. OfError (externals.of_external i Kind.MapRes)) externals.grows g.meaning;
  IsOutput = GivesFor g.IsOutput (λ a o. Gives a (Ok o));
}
