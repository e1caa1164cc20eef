-- The view of an operator with its precedence: its value, as that is viewed, and its precedence.
use Rattle.std.specs.Prelude.{ℕ}
use Rattle.nom_traits.specs.View.{View}
use Rattle.nom_operators.specs.declared.operation.Assoc.{Assoc}
use Rattle.nom_operators.specs.declared.precedences.Unary.{Unary}
use Rattle.nom_operators.specs.declared.precedences.Binary.{Binary}

abbrev pub unary_view : {V : Type 0} → View V → View (Unary V)
unary_view v = record { Value = v.Value × ℕ; value = λ u. (v.value u.value, u.precedence) }

abbrev pub binary_view : {V : Type 0} → View V → View (Binary V)
binary_view v = record { Value = v.Value × ℕ × Assoc; value = λ b. (v.value b.value, b.precedence, b.assoc) }
