use Rattle.nom_internal.proofs.Shown.{refused}
use Rattle.nom_combinator.proofs.fixed.FailParser.process.Goals as goal

pub returns-clause-shown : goal.returns-clause-shown
returns-clause-shown g c = refused c.refusal.ensures tt
