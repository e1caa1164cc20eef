use Rattle.std.specs.Prelude.{ℕ, List}
use Rattle.nom_traits.proofs.TextAfter.{IsAfter}
use Rattle.nom_traits.proofs.text.index_after.Given as goal

-- the characters passed, and the place after them
abbrev pub invariant-loop-left : goal.invariant-loop-left
invariant-loop-left l = (passed : List ℕ) × (index : ℕ) × IsAfter l.text l.rest.rest.now passed index l.left l.count
