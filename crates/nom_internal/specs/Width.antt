-- Parsers that take a fixed number of items.
use Rattle.std.specs.Prelude.{◌≡◌, ℕ, ◌+◌, ◌<◌, ◌≤◌, ◌⊎◌, Bool, length}
use Rattle.nom_error.specs.Modes.{Modes}
use Rattle.nom_traits.specs.Input.{Model}
use Rattle.nom_traits.specs.Slices.{IsCount}
use Rattle.nom_internal.specs.Outcome.{Outcome}
use Rattle.nom_internal.specs.Outcome.Outcome.{Accept}
use Rattle.nom_internal.specs.Meaning.{Meaning}

module _ {I A : Type 0} (w : Model I A) where
  -- In either mode the parser accepts the first n items of each input that has so many, and needs no memory. Of 0 nothing is said.
  pub record HasWidth {V E : Type 0} (m : Meaning I V E) (n : ℕ) : Type 0 where
    pub accepts : (s : Bool) (i : I) (o : Outcome V) → w.IsKnown i → 0 < n → n ≤ length (w.elements i) → m.answers s i o →
        (a : ℕ) × (v : V) × IsCount w i n a × (o ≡ Accept a v)
    pub has_memory : (mode : Modes) (i : I) → w.IsKnown i → 0 < n → n ≤ length (w.elements i) → m.may_run_out mode i → ⊥

-- the width of two parsers in sequence, or 0
abbrev pub IsBothWidths : ℕ → ℕ → ℕ → Type 0
IsBothWidths first second both = (both ≡ 0) ⊎ ((both ≡ first + second) × (0 < first) × (0 < second))
