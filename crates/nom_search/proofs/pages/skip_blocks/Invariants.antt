use Rattle.std.proofs.Common.{◌-◌, ◌≤◌, length}
use Rattle.memchr.specs.Find.{Nowhere, Passes, is_byte}
use Rattle.nom_search.proofs.pages.skip_blocks.Given as goal

abbrev pub invariant-loop-place : goal.invariant-loop-place
invariant-loop-place l = (l.start ≤ l.place) × (l.place ≤ length l.bytes) × Nowhere (Passes (is_byte l.byte) l.bytes) l.start l.place

abbrev pub decreases-loop-place : goal.decreases-loop-place
decreases-loop-place l = length l.bytes - l.place
