-- Errors that are made into others, as where a name is added to them.
use Rattle.std.specs.Prelude.{◌≡◌, ◌⊎◌, Option, Some, None, List, ℕ}
use Rattle.nom_internal.specs.Prelude.{Needed, Grammar, renamed_meaning}
use Rattle.nom_error.specs.declared.answer.Err as Answer
use Rattle.nom_error.specs.declared.answer.Err.TheVariants as Variant
use Rattle.nom_error.specs.Errors.{Contexts}

-- an error made of another, which is answered in its place, or that memory ran out
abbrev pub Makes : {E : Type 0} → (E → E → Type 0) → Type 0 → (E → Answer.Err E (Option E) Needed) → E → Answer.Err E (Option E) Needed → Type 0
Makes {E} Named Grows answer x r = ((r ≡ Variant.OutOfMemory) × Grows) ⊎ ((e : E) × Named x e × (r ≡ answer e))

-- the error that an answer holds is made into another, and all else stays
abbrev pub IsRenamed : {E : Type 0} → (E → E → Type 0) → Type 0 → Answer.Err E (Option E) Needed → Answer.Err E (Option E) Needed → Type 0
IsRenamed Named Grows (Variant.Incomplete k) r = r ≡ Variant.Incomplete k
IsRenamed Named Grows (Variant.Error (Some x)) r = Makes Named Grows (λ e. Variant.Error (Some e)) x r
IsRenamed Named Grows (Variant.Error None) r = r ≡ Variant.Error None
IsRenamed Named Grows (Variant.Failure x) r = Makes Named Grows (λ e. Variant.Failure e) x r
IsRenamed Named Grows Variant.OutOfMemory r = r ≡ Variant.OutOfMemory

-- a grammar whose errors get a name
abbrev pub context_of : {I V O E : Type 0} → Contexts I E → List ℕ → Grammar I V O E → Grammar I V O E
context_of contexts name g = record { meaning = renamed_meaning (λ i. contexts.named i name) contexts.grows g.meaning; IsOutput = g.IsOutput }
