-- The place of a slice, by how much of it is left.
use Rattle.std.specs.Prelude.{ℕ, ◌-◌, ◌^◌, List, length}
use Rattle.std.specs.Borrow.{Bor}

-- the less is left, the further; no slice is as long as the number that it is taken from
abbrev pub slice_place : Bor (List ℕ) → ℕ
slice_place s = 2 ^ 63 - length s.now
