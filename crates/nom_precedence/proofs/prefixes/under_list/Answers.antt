use Rattle.nom_precedence.proofs.PrefixesShown.{before_last}
use Rattle.nom_precedence.proofs.prefixes.under_list.Goals as goal

pub loop-prefix-preserved : goal.loop-prefix-preserved
loop-prefix-preserved g c = λ z h. c.loop-prefix.invariant z (before_last _ _ _ _ _ _ z c.in-Some.ensures.items c.fold-value.ensures h)
