-- Forms of lists whose first item is read by itself.
use Rattle.std.specs.Prelude.{◌≡◌, true, List, [], ◌∷◌, length}
use Rattle.nom_sink.specs.declared.error.WriteError.{WriteError}
use Rattle.nom_sink.specs.declared.error.WriteError.TheVariants.{Mismatch}
use Rattle.nom_sink.specs.Lists.{EachForm, EachFail, ItemFails, ItemForm}
use Rattle.nom_sink.specs.Parts.{Both, BothFail}
use Rattle.nom_sink.specs.Written.{LacksRoom, Space}

-- a form of the first value, and then of each other one a further form, which isn't empty
abbrev pub SomeForm : {O A : Type 0} → (First Further : O → List A → Type 0) → List O → List A → Type 0
SomeForm First Further [] xs = ⊥
SomeForm First Further (v ∷ vs) xs = Both (First v) (EachForm (ItemForm true Further) vs) xs

-- the same, or nothing of no values
abbrev pub AnyForm : {O A : Type 0} → (First Further : O → List A → Type 0) → List O → List A → Type 0
AnyForm First Further [] xs = xs ≡ []
AnyForm First Further (v ∷ vs) xs = SomeForm First Further (v ∷ vs) xs

-- the first value fails, or after it another one
abbrev pub AnyFails : {O A : Type 0} → (First : O → List A → Type 0) → (FirstFails : O → Space → WriteError → Type 0) →
    (Further : O → List A → Type 0) → (FurtherFails : O → Space → WriteError → Type 0) → List O → Space → WriteError → Type 0
AnyFails First FirstFails Further FurtherFails [] s e = ⊥
AnyFails First FirstFails Further FurtherFails (v ∷ vs) s e = BothFail (First v) (FirstFails v)
    (EachFail (ItemForm true Further) (ItemFails true Further FurtherFails) vs) s e

-- the same, or there is no value
abbrev pub SomeFails : {O A : Type 0} → (First : O → List A → Type 0) → (FirstFails : O → Space → WriteError → Type 0) →
    (Further : O → List A → Type 0) → (FurtherFails : O → Space → WriteError → Type 0) → List O → Space → WriteError → Type 0
SomeFails First FirstFails Further FurtherFails [] s e = e ≡ Mismatch s.start
SomeFails First FirstFails Further FurtherFails (v ∷ vs) s e = AnyFails First FirstFails Further FurtherFails (v ∷ vs) s e

-- the separator, and then a form of a value
abbrev pub AfterSeparator : {O A : Type 0} → List A → (O → List A → Type 0) → O → List A → Type 0
AfterSeparator items Form v = Both (λ ys. ys ≡ items) (Form v)

-- the separator has no room, or the value fails after it
abbrev pub AfterFails : {O A : Type 0} → List A → (O → Space → WriteError → Type 0) → O → Space → WriteError → Type 0
AfterFails items Fails v = BothFail (λ ys. ys ≡ items) (LacksRoom (length items)) (Fails v)
