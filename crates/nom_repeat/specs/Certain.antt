-- Acceptances of which an input is certain.
use Rattle.std.specs.Prelude.{◌≡◌, ℕ, ◌<◌, Bool, zero, suc}
use Rattle.nom_internal.specs.Prelude.{Modes, Model, IsSuffixOf, Outcome, Accept, Meaning}

module _ {I A V E : Type 0} (w : Model I A) (m : Meaning I V E) where
  -- in either mode the parser accepts something at the input, and needs no memory
  pub record IsCertain (i : I) : Type 0 where
    pub accepts : (s : Bool) (o : Outcome V) → m.answers s i o → (n : ℕ) × (v : V) × (0 < n) × (o ≡ Accept n v)
    pub has_memory : (mode : Modes) → m.may_run_out mode i → ⊥

  -- so many times in a row
  abbrev pub AreCertain : ℕ → I → Type 0
  AreCertain zero i = Unit {0}
  AreCertain (suc k) i = IsCertain i × ((s : Bool) (n : ℕ) (v : V) (j : I) → m.answers s i (Accept n v) → IsSuffixOf w i n j → AreCertain k j)
