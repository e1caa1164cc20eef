-- Slices as sinks, and what was written into them.
use Rattle.std.specs.Prelude.{ℕ, List, length, take, drop}
use Rattle.nom_sink.specs.Written.{SinkModel}
use Rattle.nom_sink.specs.Written.Lack.{OfSpace}
use Rattle.nom_sink.specs.declared.sink.SliceSink.{SliceSink}

-- the front of the slice
abbrev pub written_front : {A : Type 0} → SliceSink A → List A
written_front s = take s.used s.buffer.now

-- as many items as the slice has
abbrev pub room_of : {A : Type 0} → SliceSink A → ℕ
room_of s = length s.buffer.now

-- what stands in the slice behind that many items
abbrev pub behind : {A : Type 0} → ℕ → SliceSink A → List A
behind n s = drop n s.buffer.now

-- the loan of the slice
abbrev pub loan_of : {A : Type 0} → SliceSink A → ℕ
loan_of s = s.buffer.ghost_name

abbrev pub slice_model : {A : Type 0} → SinkModel (SliceSink A) A
slice_model = record { items = written_front; room = room_of; lack = OfSpace; loan = loan_of }
