-- The results of an error type's functions, for types that keep one kind: an `impl` states it in a line.
use Rattle.std.specs.Prelude.{◌≡◌, ℕ, List}
use Rattle.std.specs.Borrow.{Bor}
use Rattle.nom_error.specs.Errors.{Contexts, Errors, Externals}
use Rattle.nom_error.specs.declared.kind.ErrorKind.{ErrorKind}
use Rattle.nom_error.specs.declared.kind.ErrorKind.TheVariants as Kind

module _ {I E : Type 0} where
  -- An error is made of an input and a kind. A combinator keeps the one from below, and of two branches the second's is kept.
  abbrev pub kinds_at : (I → ErrorKind → E) → Errors I E
  kinds_at make = record {
    of_kind = λ i k e. e ≡ make i k;
    appended = λ _ _ other e. e ≡ other;
    of_char = λ i _ e. e ≡ make i Kind.Char;
    joined = λ _ other e. e ≡ other;
    grows = ⊥;
  }

  -- the same of a kind alone
  abbrev pub kinds : (ErrorKind → E) → Errors I E
  kinds make = kinds_at (λ _ k. make k)

  -- names are dropped
  abbrev pub unnamed : Contexts I E
  unnamed = record { named = λ _ _ other e. e ≡ other; grows = ⊥ }

  -- the name and its place, in place of the error from below
  abbrev pub labels : (Bor (List ℕ) → I → E) → Contexts I E
  labels make = record { named = λ i name _ e. (label : Bor (List ℕ)) × (label.now ≡ name) × (e ≡ make label i); grows = ⊥ }

  -- an error at the place, whatever the closure's is
  abbrev pub external_at : {X : Type 0} → (I → E) → Externals I X E
  external_at make = record { of_external = λ i _ _ e. e ≡ make i; grows = ⊥ }

  -- the error of a closure, as it is
  abbrev pub outer : Externals I E E
  outer = record { of_external = λ _ _ other e. e ≡ other; grows = ⊥ }
