-- The bytes that were read and aren't used yet.
use Rattle.std.specs.Prelude.{ℕ, ◌-◌, List, drop, take, slice_range}
use Rattle.nom_stream.specs.declared.held.Held.{Held}

-- the bytes that aren't used yet
abbrev pub held_of : {A : Type 0} → Held A → List ℕ
held_of h = slice_range h.bytes.items h.start h.end

-- the last that many bytes that were used
abbrev pub last_of : {A : Type 0} → ℕ → Held A → List ℕ
last_of count h = take count (drop (h.start - count) h.bytes.items)
