use Rattle.nom_internal.proofs.Choices.{closes_made}
use Rattle.nom_internal.proofs.choice.close_error.Goals as goal

pub returns-in-Ok : goal.returns-in-Ok
returns-in-Ok g c = closes_made g.E.ParseError.errors.grows (g.E.ParseError.errors.appended c.args.input c.args.kind) c.args.error c.in-Some.error
    c.in-Ok.closed c.in-Some.is c.in-Ok.ensures
