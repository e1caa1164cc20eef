-- Forms of a number that is a size.
use Rattle.std.specs.Prelude.{◌≡◌, ℕ, List, ◌⊎◌}
use Rattle.nom_sink.specs.declared.error.WriteError.{WriteError}
use Rattle.nom_sink.specs.declared.error.WriteError.TheVariants.{TooLong}
use Rattle.nom_sink.specs.Written.{Space}

-- a form of a number of that size
abbrev pub FormOfSize : {O A : Type 0} → (O → ℕ) → (O → List A → Type 0) → ℕ → List A → Type 0
FormOfSize {O} size Form n xs = (k : O) × (size k ≡ n) × Form k xs

-- no number is so large, or the number can't be written
abbrev pub SizeFails : {O : Type 0} → (O → ℕ) → (ℕ → Type 0) → (O → Space → WriteError → Type 0) → ℕ → Space → WriteError → Type 0
SizeFails {O} size Exceeds Fails n s e = (Exceeds n × (e ≡ TooLong s.start)) ⊎ ((k : O) × (size k ≡ n) × Fails k s e)
