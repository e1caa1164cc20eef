-- Operators with their precedence.
use Rattle.std.specs.Prelude.{◌≡◌, ℕ, List}
use Rattle.std.specs.List.{AllZip}
use Rattle.nom_error.specs.Errors.{Errors}
use Rattle.nom_internal.specs.Prelude.{Grammar, Model}
use Rattle.nom_multi.specs.Many.{many0_meaning}
use Rattle.nom_operators.specs.Prefixes.{prefixes_in}
use Rattle.nom_operators.specs.declared.operation.Assoc.{Assoc}
use Rattle.nom_operators.specs.declared.precedences.Unary.{Unary}
use Rattle.nom_operators.specs.declared.precedences.Binary.{Binary}
use Rattle.nom_operators.specs.declared.prefixes.Prefixes.{Prefixes}

-- an output as a prefix or a postfix of that precedence
abbrev pub unary_op_of : {I V O E : Type 0} → ℕ → Grammar I V O E → Grammar I V (Unary O) E
unary_op_of precedence g = record { meaning = g.meaning; IsOutput = λ t u. g.IsOutput t u.value × (u.precedence ≡ precedence) }

-- and as a binary operator, so grouped
abbrev pub binary_op_of : {I V O E : Type 0} → ℕ → Assoc → Grammar I V O E → Grammar I V (Binary O) E
binary_op_of precedence assoc g = record {
  meaning = g.meaning;
  IsOutput = λ t b. g.IsOutput t b.value × (b.precedence ≡ precedence) × (b.assoc ≡ assoc);
}

-- any number of prefixes
abbrev pub prefixes_of : {I A V O M E : Type 0} → Model I A → Errors I E → Grammar I V O E → Grammar I (List V) (Prefixes O M) E
prefixes_of w errs g = record { meaning = many0_meaning w errs g.meaning; IsOutput = λ ts k. AllZip g.IsOutput ts (prefixes_in k) }
