-- Splits of an input after its run.
use Rattle.std.specs.Prelude.{◌≡◌, ℕ, ◌<◌, Bool, true, ◌⊎◌, Option, Some, Result, Ok, List, length}
use Rattle.std.specs.Prelude as Std
use Rattle.std.specs.List.{All}
use Rattle.nom_error.specs.declared.answer.Needed.{Needed}
use Rattle.nom_error.specs.declared.answer.Err as Answer
use Rattle.nom_error.specs.declared.answer.Err.TheVariants.{Incomplete, Error, OutOfMemory}
use Rattle.nom_error.specs.Answers.{size_of}
use Rattle.nom_error.specs.Modes.{Built}
use Rattle.nom_traits.specs.Input.{Model, items_len, IsPrefixOf, IsSuffixOf}
use Rattle.nom_traits.specs.Runs.{Stops, IsRun}

-- nothing is refused
abbrev pub Never : {X : Type 0} → X → Type 0
Never x = ⊥

-- what is answered for a refusal, where errors are built: its error, or that memory ran out
abbrev pub RefusesWith : {E : Type 0} → (E → Type 0) → Type 0 → Answer.Err E E Needed → Type 0
RefusesWith {E} Gives Grows r = ((r ≡ OutOfMemory) × Grows) ⊎ ((e : E) × Gives e × (r ≡ Error e))

-- the first items, where outputs are built
abbrev pub FrontBuilt : {I A : Type 0} → Model I A → Bool → I → ℕ → Option I → Type 0
FrontBuilt w built i n = Built built (IsPrefixOf w i n)

module _ {I A : Type 0} (w : Model I A) (Meets Ends : A → Type 0) (streaming : Bool) (i : I) where
  -- The run of i, of length n. Where more may come, an item must follow, since more might make the run longer.
  pub record IsRunLength (n : ℕ) : Type 0 where
    pub run : List A
    pub rest : List A
    pub is_run : IsRun Meets Ends (w.elements i) run rest
    pub length_is : items_len w.item_len run ≡ n
    pub followed : streaming ≡ true → 0 < length rest

  -- more may come, and might make the run longer
  abbrev pub IsRunOpen : Type 0
  IsRunOpen = (streaming ≡ true) × All Meets (w.elements i)

  -- The run is empty, and stays so.
  pub record IsRunEmpty : Type 0 where
    pub stops : Stops Ends (w.elements i)
    pub followed : streaming ≡ true → 0 < length (w.elements i)

  -- What a split after the run answers: the rest and the run, as it is shown; more is needed where more may make the run longer;
  -- where one item is wanted at least, an empty run is refused.
  abbrev pub Splits : {O E F : Type 0} → Bool → (I → ℕ → O → Type 0) → (Answer.Err E F Needed → Type 0) → Result (I × O) (Answer.Err E F Needed) → Type 0
  Splits wanted IsShown IsRefusal (Ok p) = (n : ℕ) × IsRunLength n × (wanted ≡ true → 0 < n) × IsSuffixOf w i n p.0 × IsShown i n p.1
  Splits wanted IsShown IsRefusal (Std.Err e) =
      (IsRunOpen × ((k : Needed) × (size_of k ≡ Some 1) × (e ≡ Incomplete k))) ⊎ ((wanted ≡ true) × IsRunEmpty × IsRefusal e)
