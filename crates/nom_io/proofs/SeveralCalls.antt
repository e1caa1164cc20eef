-- Faults over several calls.
use Rattle.std.proofs.Common.{ap, ◌∙◌}
use Rattle.std_io.specs.declared.io.error.Error.{Error}
use Rattle.nom_io.specs.Account.{one_more}
use Rattle.nom_io.specs.Faults.{NoFault, OneFault}
use Rattle.nom_io.specs.declared.counted.Faults.{Faults}

module _ (a b c : Faults) where
  pub none_then : NoFault a b → NoFault b c → NoFault a c
  none_then f g = (g.0 ∙ f.0, g.1 ∙ f.1)

  pub fault_then : (e : Error) → NoFault a b → OneFault b c e → OneFault a c e
  fault_then e f g = (g.0 ∙ ap one_more f.0, g.1)

  pub fault_kept : (e : Error) → OneFault a b e → NoFault b c → OneFault a c e
  fault_kept e f g = (g.0 ∙ f.0, g.1 ∙ f.1)
