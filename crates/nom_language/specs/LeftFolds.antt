-- Items with operators between them, folded from the left.
use Rattle.std.specs.Prelude.{List}
use Rattle.std.specs.List.{AllZip, FoldsTo}
use Rattle.nom_error.specs.Errors.{Errors}
use Rattle.nom_error.specs.declared.kind.ErrorKind.TheVariants as Kind
use Rattle.nom_internal.specs.Prelude.{Grammar, Meaning, Model, sequence_meaning, premised}
use Rattle.nom_repeat.specs.Bounds.{any_limits}
use Rattle.nom_repeat.specs.Items.{items_meaning}
use Rattle.nom_language.specs.Precedences.{operator_and_term_meaning}

-- the value of a first item and of pairs of an operator and an item, from left to right
pub record IsFolded {T C H O : Type 0} (IsItem : T → O → Type 0) (IsOperator : C → H → Type 0) (Gives : O → H → O → O → Type 0) (e : T × List (C × T))
    (y : O) : Type 0 where
  pub first : O
  pub is_first : IsItem e.0 first
  pub pairs : List (H × O)
  pub are_pairs : AllZip (λ t o. IsOperator t.0 o.0 × IsItem t.1 o.1) e.1 pairs
  pub folded : FoldsTo (λ x p z. Gives x p.0 p.1 z) first pairs y

-- A first item, whose refusal is passed on; and then pairs of an operator and an item, as many as are accepted. A pair that consumes
-- nothing is refused.
abbrev pub left_assoc_meaning : {I A T C E : Type 0} → Model I A → Errors I E → (CanBuild : Type 0) → Meaning I T E → Meaning I C E →
    Meaning I (T × List (C × T)) E
left_assoc_meaning w errs CanBuild child operator =
    premised (child.Runs × operator.Runs × CanBuild) (child.IsSound × operator.IsSound)
    (sequence_meaning w (λ t ps. (t, ps)) (λ o. o) (λ o. o) child
    (items_meaning w errs (any_limits Kind.SeparatedList) ⊥ (operator_and_term_meaning w operator child)))

abbrev pub left_assoc_by : {I A T C H O E : Type 0} → Model I A → Errors I E → (CanBuild : Type 0) → (O → H → O → O → Type 0) → Grammar I T O E →
    Grammar I C H E → Grammar I (T × List (C × T)) O E
left_assoc_by w errs CanBuild Gives child operator = record {
  meaning = left_assoc_meaning w errs CanBuild child.meaning operator.meaning;
  IsOutput = IsFolded child.IsOutput operator.IsOutput Gives;
}
