-- The error type `Error`: the input at which a parser refused, and the kind. Of two errors the second is kept, and none takes memory.
use Rattle.std.specs.Prelude.{◌≡◌}
use Rattle.nom_error.specs.declared.kind.ErrorKind.TheVariants.{Char}
use Rattle.nom_error.specs.declared.value.Error.{Error}
use Rattle.nom_error.specs.Errors.{Errors}

abbrev pub plain_errors : {I : Type 0} → Errors I (Error I)
plain_errors = record {
  of_kind = λ i kind e. e ≡ record { input = i; code = kind };
  appended = λ _ _ other e. e ≡ other;
  of_char = λ i _ e. e ≡ record { input = i; code = Char };
  joined = λ _ other e. e ≡ other;
  grows = ⊥;
}
