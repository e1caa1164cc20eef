-- A value in the place of what a part accepts, made by a closure that may take memory.
use Rattle.std.specs.Prelude.{◌≡◌, Result}
use Rattle.nom_error.specs.declared.answer.OutOfMemory.{OutOfMemory}
use Rattle.nom_internal.specs.Prelude.{Grammar, View}
use Rattle.nom_combinator.specs.MapAlloc.{map_alloc_by}

-- a grammar whose outputs are mapped by a closure that doesn't look at them: what it needs, and what it makes
abbrev pub value_alloc_by : {I V O P E : Type 0} → (Premise : Type 0) → (Result P OutOfMemory → Type 0) → Grammar I V O E → Grammar I V P E
value_alloc_by Premise Makes g = map_alloc_by (λ _. Premise) (λ _. Makes) g

-- the values that are made are equal as viewed
pub record MakesConsistently {R : Type 0} (view : View R) (Makes : R → Type 0) : Type 0 where
  pub same : (a b : R) → Makes a → Makes b → view.value a ≡ view.value b
