-- Kinds of items that are told apart from the forms of another branch, and the forms that several branches write.
use Rattle.std.specs.Prelude.{List, ◌++◌}
use Rattle.nom_internal.specs.Prelude.{Grammar, Model, Meaning}
use Rattle.nom_sink.specs.declared.error.WriteError.{WriteError}
use Rattle.nom_sink.specs.Choices.{Either, EitherFails}
use Rattle.nom_sink.specs.Written.{Space}
use Rattle.nom_write.specs.Reads.{NoItem}

-- whatever begins with items of a kind a parser refuses
pub record Apart {I A V E : Type 0} (w : Model I A) (m : Meaning I V E) (Kind : List A → Type 0) : Type 0 where
  pub refuses : (xs rest : List A) → Kind xs → NoItem w m (xs ++ rest)

-- it refuses whatever begins with a form of a value
abbrev pub RefusesForms : {I A V O R E : Type 0} → Model I A → Grammar I V O E → (R → List A → Type 0) → Type 0
RefusesForms {R = R} w g Form = Apart w g.meaning (λ xs. (v : R) × Form v xs)

-- some branches, of which the first that can write a value writes it: the forms of values, and why none is written
pub record BranchForms (O A : Type 0) : Type 1 where
  pub Form : O → List A → Type 0
  pub Fails : O → Space → WriteError → Type 0

abbrev pub first_forms : {P O A : Type 0} → (P → O → List A → Type 0) → (P → O → Space → WriteError → Type 0) → P → BranchForms O A
first_forms Form Fails p = record { Form = Form p; Fails = Fails p }

-- the branches before, and one more
abbrev pub or_forms : {P O A : Type 0} → BranchForms O A → (P → O → List A → Type 0) → (P → O → Space → WriteError → Type 0) → P → BranchForms O A
or_forms before Form Fails p = record {
  Form = λ v. Either (before.Form v) (before.Fails v) (Form p v);
  Fails = λ v. EitherFails (before.Fails v) (Fails p v);
}
