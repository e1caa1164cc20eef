-- Forms of lists.
use Rattle.std.specs.Prelude.{◌≡◌, ◌<◌, Bool, true, List, [], ◌∷◌, length, ◌⊎◌}
use Rattle.nom_sink.specs.declared.error.WriteError.{WriteError}
use Rattle.nom_sink.specs.declared.error.WriteError.TheVariants.{Mismatch}
use Rattle.nom_sink.specs.Parts.{Both, BothFail}
use Rattle.nom_sink.specs.Written.{Space}

-- forms of the values of a list, one after another
abbrev pub EachForm : {O A : Type 0} → (O → List A → Type 0) → List O → List A → Type 0
EachForm Form [] xs = xs ≡ []
EachForm Form (v ∷ vs) xs = Both (Form v) (EachForm Form vs) xs

-- one of them can't be written, after forms of those before it
abbrev pub EachFail : {O A : Type 0} → (O → List A → Type 0) → (O → Space → WriteError → Type 0) → List O → Space → WriteError → Type 0
EachFail Form Fails [] s e = ⊥
EachFail Form Fails (v ∷ vs) s e = BothFail (Form v) (Fails v) (EachFail Form Fails vs) s e

-- a form of an item; where `some`, one that isn't empty, as a list without a count takes it
abbrev pub ItemForm : {O A : Type 0} → Bool → (O → List A → Type 0) → O → List A → Type 0
ItemForm some Form v xs = Form v xs × (some ≡ true → 0 < length xs)

-- an item can't be written, or its form is empty where none may be
abbrev pub ItemFails : {O A : Type 0} → Bool → (O → List A → Type 0) → (O → Space → WriteError → Type 0) → O → Space → WriteError → Type 0
ItemFails some Form Fails v s e = Fails v s e ⊎ ((some ≡ true) × Form v [] × (e ≡ Mismatch s.start))
