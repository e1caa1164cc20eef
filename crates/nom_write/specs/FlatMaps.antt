-- Forms of a value whose first part decides the parser of the second.
use Rattle.std.specs.Prelude.{◌≡◌, ◌⊎◌, List, Option, Some, None}
use Rattle.nom_sink.specs.Parts.{Both, BothFail}
use Rattle.nom_sink.specs.Written.{Space}
use Rattle.nom_sink.specs.declared.error.WriteError.{WriteError}
use Rattle.nom_sink.specs.declared.error.WriteError.TheVariants.{Mismatch}

module _ {R O H : Type 0} (Back : R → Option O → Type 0) (Gives : O → H → Type 0) where
  -- the fact holds of each value that is mapped back to a first one, with each parser that is given for that one
  abbrev pub OfEachSecond : (R → H → Type 0) → Type 0
  OfEachSecond Fact = (v : R) (x : O) (p : H) → Back v (Some x) → Gives x p → Fact v p

  module _ {A : Type 0} (First : O → List A → Type 0) (Second : H → R → List A → Type 0) where
    -- a form of the first value that a value is mapped back to, and then one of the value itself, by a parser that is given for the first
    abbrev pub FlatMapForm : R → List A → Type 0
    FlatMapForm v xs = (x : O) × Back v (Some x) × Both (First x) (λ ys. (p : H) × Gives x p × Second p v ys) xs

  module _ {A : Type 0} (First : O → List A → Type 0) (FirstFails : O → Space → WriteError → Type 0) (SecondFails : H → R → Space → WriteError → Type 0) where
    -- the value is mapped back to nothing, or the first value fails, or after a form of it the value itself
    abbrev pub FlatMapFails : R → Space → WriteError → Type 0
    FlatMapFails v s e = (Back v None × (e ≡ Mismatch s.start)) ⊎
        ((x : O) × Back v (Some x) × BothFail (First x) (FirstFails x) (λ s e. (p : H) × Gives x p × SecondFails p v s e) s e)
