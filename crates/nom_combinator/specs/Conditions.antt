-- A part that runs on a condition, or an acceptance of nothing in its place.
use Rattle.std.specs.Prelude.{◌≡◌, Bool, true, false, Option, Some, None}
use Rattle.nom_internal.specs.Prelude.{Meaning, labelled_meaning, success_meaning, premised, Grammar}
use Rattle.nom_combinator.specs.Verdicts.{OptOutput}

-- a part's tree as an option, where it runs; else none at once
abbrev pub on_condition : {I P E : Type 0} → Bool → Meaning I P E → Meaning I (Option P) E
on_condition true m = labelled_meaning (λ t. Some t) m
on_condition false m = success_meaning None

-- the part's premises are owed only where it runs
abbrev pub cond_meaning : {I P E : Type 0} → Bool → Meaning I P E → Meaning I (Option P) E
cond_meaning b m = premised (b ≡ true → m.Runs) (b ≡ true → m.IsSound) (on_condition b m)

-- which option a tree stands for
abbrev pub CondOutput : {P O : Type 0} → Bool → (P → O → Type 0) → Option P → Option O → Type 0
CondOutput true IsOutput t o = OptOutput IsOutput t o
CondOutput false IsOutput t o = o ≡ None

-- what a call owes besides its outcome: the part's, where it runs, and else that nothing is consumed
abbrev pub CondSideCondition : {I : Type 0} → Bool → (I → Option I → Type 0) → I → Option I → Type 0
CondSideCondition true Owes i rest = Owes i rest
CondSideCondition false Owes i rest = rest ≡ Some i

-- a grammar on a condition
abbrev pub cond_of : {I V O E : Type 0} → Bool → Grammar I V O E → Grammar I (Option V) (Option O) E
cond_of b g = record { meaning = cond_meaning b g.meaning; IsOutput = CondOutput b g.IsOutput }
