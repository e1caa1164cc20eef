-- Reports: what they say, and what the functions of an error type make of them.
use Rattle.std.specs.Prelude.{◌≡◌, ℕ, ◌<◌, ◌≤◌, ◌⊎◌, List, [], false}
use Rattle.nom_error.specs.Errors.{Errors, Contexts, Externals}
use Rattle.nom_report.specs.Wanted.{Wanted, WantedChar, WantedKind, WantedLabel}
use Rattle.nom_report.specs.Kept.{Joins, just, kept}
use Rattle.nom_report.specs.Around.{around, IsEnclosed}
use Rattle.nom_report.specs.declared.value.Report.{Report}

-- one thing was wanted at i, in no context
pub record Wants {I : Type 0} (i : I) (it : Wanted) (e : Report I) : Type 0 where
  pub at_is : e.at ≡ i
  pub expected_is : kept e.expected ≡ just it
  pub inside_is : around e.inside ≡ []
  pub all_inside : e.inside.more ≡ false

module _ {I : Type 0} (place : I → ℕ) where
  -- what is wanted at the place of both, in the contexts of the first
  pub record WantsBoth (a b e : Report I) : Type 0 where
    pub as_far : place a.at ≡ place b.at
    pub at_is : e.at ≡ a.at
    pub expected_is : Joins (kept a.expected) (kept b.expected) (kept e.expected)
    pub inside_is : e.inside ≡ a.inside

  -- of two reports the one that got further, or what both want where they got as far
  pub data IsFurthest (a b e : Report I) : Type 0 where
    FirstGotFurther : place b.at < place a.at → e ≡ a → IsFurthest a b e
    SecondGotFurther : place a.at < place b.at → e ≡ b → IsFurthest a b e
    GotAsFar : WantsBoth a b e → IsFurthest a b e

  -- what was wanted without anything taken since i goes by the name
  pub record IsLabelled (i : I) (name : List ℕ) (a e : Report I) : Type 0 where
    pub nothing_taken : place a.at ≤ place i
    pub at_is : e.at ≡ a.at
    pub expected_is : kept e.expected ≡ just (WantedLabel name)
    pub inside_is : e.inside ≡ a.inside

  -- and where something was taken, the report stands in what the name names, which begins at i
  pub record IsInside (i : I) (name : List ℕ) (a e : Report I) : Type 0 where
    pub something_taken : place i < place a.at
    pub at_is : e.at ≡ a.at
    pub expected_is : e.expected ≡ a.expected
    pub inside_is : IsEnclosed a.inside (record { name = name; begins = place i }) e.inside

  -- Leaves tell what they want, a choice what was wanted at the furthest place; what only closes, as `Alt`, adds nothing.
  abbrev pub report_errors : Errors I (Report I)
  report_errors = record {
    of_kind = λ i kind e. Wants i (WantedKind kind) e;
    appended = λ _ _ other e. e ≡ other;
    of_char = λ i c e. Wants i (WantedChar c) e;
    joined = IsFurthest;
    grows = ⊥;
  }

  abbrev pub report_contexts : Contexts I (Report I)
  report_contexts = record { named = λ i name other e. IsLabelled i name other e ⊎ IsInside i name other e; grows = ⊥ }

-- the other error isn't kept
abbrev pub report_externals : {I X : Type 0} → Externals I X (Report I)
report_externals = record { of_external = λ i kind _ e. Wants i (WantedKind kind) e; grows = ⊥ }
