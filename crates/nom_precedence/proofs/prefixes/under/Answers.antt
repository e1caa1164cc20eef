use Rattle.nom_precedence.proofs.prefixes.under.Goals as goal

pub returns-in-None : goal.returns-in-None
returns-in-None g c = rw c.in-None.is c.under_list-inner.ensures
