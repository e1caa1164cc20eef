use Rattle.nom_traits.specs.Input.{placed}
use Rattle.nom_traits.proofs.SliceItems.{shown_given}
use Rattle.nom_traits.proofs.bytes.RefSliceU8Input.iter_indices.Goals as goal

pub returns-clause-gives : goal.returns-clause-gives
returns-clause-gives c = shown_given (λ s. placed (λ _. 1) s.place s.rest.now) _ _ cc
