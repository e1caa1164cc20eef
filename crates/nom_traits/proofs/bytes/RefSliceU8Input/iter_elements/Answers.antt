use Rattle.std.proofs.Common.{ap}
use Rattle.nom_traits.proofs.SliceItems.{shown_given}
use Rattle.nom_traits.proofs.bytes.RefSliceU8Input.iter_elements.Goals as goal

pub returns-clause-gives : goal.returns-clause-gives
returns-clause-gives c = shown_given (λ s. s.rest.now) _ _ (ap (λ r. r.now) c.new.ensures)
