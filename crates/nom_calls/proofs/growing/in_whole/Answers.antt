use Rattle.nom_internal.proofs.Consumed.{rest_within}
use Rattle.nom_calls.proofs.Grown.{rest_place_in, accepts_in_whole}
use Rattle.nom_calls.proofs.growing.in_whole.Goals as goal

pub overflow_sub-n : goal.overflow_sub-n
overflow_sub-n g c = rest_within (c.requires.rests _ _ c.in_ok-rest.was).1 c.input_len.ensures c.input_len-2.ensures

pub take_from-requires : goal.take_from-requires
take_from-requires g c = rest_place_in (c.requires.rests _ _ c.in_ok-rest.was).1 c.input_len.ensures c.input_len-2.ensures c.requires.begins.1

pub returns : goal.returns
returns g c = accepts_in_whole c.in_ok-rest.was c.input_len.ensures c.input_len-2.ensures c.take_from.ensures
