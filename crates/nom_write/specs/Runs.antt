-- Forms of runs of items that meet a test.
use Rattle.std.specs.Prelude.{◌≡◌, ℕ, ◌<◌, ◌≤◌, Bool, true, false, ◌⊎◌, List, ◌∷◌, length, Option, Some, None}
use Rattle.std.specs.List.{All}
use Rattle.nom_internal.specs.Prelude.{EndsAt, Model}
use Rattle.nom_bytes.specs.ParsedRuns.{IsWithinBound}
use Rattle.nom_sink.specs.declared.error.WriteError.{WriteError}
use Rattle.nom_sink.specs.declared.error.WriteError.TheVariants.{Mismatch}
use Rattle.nom_write.specs.Reads.{Holds}
use Rattle.nom_sink.specs.Written.{LacksRoom, Space}

-- it begins with an item that fails the test
pub record BeginsOther {A : Type 0} (Test : A → Bool → Type 0) (rest : List A) : Type 0 where
  pub item : A
  pub more : List A
  pub whole : rest ≡ item ∷ more
  pub fails : Test item false

-- more than the bound
abbrev pub IsBeyond : Option ℕ → ℕ → Type 0
IsBeyond (Some most) count = most < count
IsBeyond None count = ⊥

module _ {I A : Type 0} (w : Model I A) (Test : A → Bool → Type 0) (least : ℕ) (bound : Option ℕ) where
  -- these items, which all meet the test, as many as the least number or more, within the bound
  pub record IsRunForm (v : I) (xs : List A) : Type 0 where
    pub holds : Holds w v xs
    pub meets : All (λ x. Test x true) xs
    pub enough : least ≤ length xs
    pub within : IsWithinBound bound (length xs)

  -- too few items, too many, or one that fails the test
  abbrev pub IsNoRun : I → Type 0
  IsNoRun v = (length (w.elements v) < least) ⊎ (IsBeyond bound (length (w.elements v)) ⊎ ((n : ℕ) × EndsAt w (λ x. Test x true) (λ x. Test x false) v n))

-- the value is no run
abbrev pub RunFails : {I A : Type 0} → Model I A → (A → Bool → Type 0) → ℕ → Option ℕ → I → Space → WriteError → Type 0
RunFails w Test least bound v s e = (IsNoRun w Test least bound v × (e ≡ Mismatch s.start)) ⊎ LacksRoom (length (w.elements v)) s e
