use Rattle.std.proofs.Common.{ap}
use Rattle.nom_internal.specs.Prelude.{rest_of}
use Rattle.nom_multi.proofs.FillShown.{filled_then}
use Rattle.nom_multi.proofs.buffer.FillParser.process.Goals as goal

pub returns-clause-side_condition : goal.returns-clause-side_condition
returns-clause-side_condition g c = filled_then (λ e. ap rest_of e) c.fill_buffer.ensures.filled
