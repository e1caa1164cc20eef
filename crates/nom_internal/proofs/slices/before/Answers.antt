use Rattle.std.proofs.Common.{subst}
use Rattle.nom_internal.specs.Prelude.{IsBoundary, rest_place, IsFirst}
use Rattle.nom_internal.proofs.Consumed.{rest_within, before_length}
use Rattle.nom_internal.proofs.slices.before.Goals as goal

pub overflow_sub-input_len : goal.overflow_sub-input_len
overflow_sub-input_len g c = rest_within c.requires.1 c.input_len.ensures c.input_len-2.ensures

pub front-requires : goal.front-requires
front-requires g c = subst (λ n. IsBoundary g.I.Items.model c.args.input n) (before_length c.requires.1 c.input_len.ensures c.input_len-2.ensures)
    (rest_place _ _ _ _ c.requires.1)

pub returns : goal.returns
returns g c = λ n t r f. c.front.ensures t (subst (λ m. IsFirst g.I.Items.model c.args.input m t) (before_length r c.input_len.ensures c.input_len-2.ensures) f)
