-- Lists as sinks, and what was written into them.
use Rattle.std.specs.Prelude.{Vec, vec_capacity}
use Rattle.nom_sink.specs.Written.{SinkModel, no_loan}
use Rattle.nom_sink.specs.Written.Lack.{OfMemory}

-- it has room for its capacity, and lacks memory for more
abbrev pub vec_model : {A M : Type 0} → SinkModel (Vec A M) A
vec_model = record { items = λ v. v.items; room = λ v. vec_capacity v; lack = OfMemory; loan = no_loan }
