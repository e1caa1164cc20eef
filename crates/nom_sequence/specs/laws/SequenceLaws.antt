-- The laws of two parts in sequence, one of them for its place alone.
use Rattle.std.specs.Prelude.{false}
use Rattle.nom_internal.specs.Prelude.{with_outputs, Model, InputLaws, Meaning, IsLawful, IsSteady}
use Rattle.nom_internal.specs.laws.SequenceLaws.{sequence_lawful, sequence_steady}
use Rattle.nom_sequence.specs.Sequences.{preceded_meaning, terminated_meaning}

module _ {I A P Q E : Type 0} {w : Model I A} (l : InputLaws w) {a : Meaning I P E} {b : Meaning I Q E} where
  pub preceded_lawful : IsLawful w a → IsLawful w b → IsLawful w (preceded_meaning w a b)
  preceded_lawful p q = sequence_lawful l {first_mode = with_outputs false} {second_mode = λ o. o} p q

  pub preceded_steady : IsSteady w a → IsSteady w b → IsSteady w (preceded_meaning w a b)
  preceded_steady p q = sequence_steady l {first_mode = with_outputs false} {second_mode = λ o. o} p q

  pub terminated_lawful : IsLawful w a → IsLawful w b → IsLawful w (terminated_meaning w a b)
  terminated_lawful p q = sequence_lawful l {first_mode = λ o. o} {second_mode = with_outputs false} p q

  pub terminated_steady : IsSteady w a → IsSteady w b → IsSteady w (terminated_meaning w a b)
  terminated_steady p q = sequence_steady l {first_mode = λ o. o} {second_mode = with_outputs false} p q
