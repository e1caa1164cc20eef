use Rattle.nom_traits.proofs.Walks.{slice_walk}
use Rattle.example_parts.proofs.tokens.TokensInput.iter_indices.Goals as goal

pub returns-clause-gives : goal.returns-clause-gives
returns-clause-gives c =
    slice_walk _ _ c.args.self.now.tokens.now c.enumerate.ensures.source c.enumerate.ensures.count c.iter_elements.ensures.gives
