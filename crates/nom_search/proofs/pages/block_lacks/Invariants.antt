use Rattle.std.proofs.Common.{◌*◌}
use Rattle.memchr.specs.Find.{Passes, is_byte}
use Rattle.nom_search.specs.FourPages.{NowhereInPages}
use Rattle.nom_search.proofs.pages.block_lacks.Given as goal

abbrev pub invariant-loop-line : goal.invariant-loop-line
invariant-loop-line l = NowhereInPages (Passes (is_byte l.byte) l.bytes) 4096 l.start (l.line * 64)
