use Rattle.nom_calls.specs.Growing.{AreCuts}
use Rattle.nom_vectors.proofs.grown.places_of.Given as goal

abbrev pub invariant-loop-count : goal.invariant-loop-count
invariant-loop-count g l = AreCuts g.I.Items.model l.fn.input l.places.items
