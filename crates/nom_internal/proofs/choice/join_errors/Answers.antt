use Rattle.nom_internal.proofs.Choices.{joins_made}
use Rattle.nom_internal.proofs.choice.join_errors.Goals as goal

pub returns-in-Ok : goal.returns-in-Ok
returns-in-Ok g c = joins_made g.E.ParseError.errors.grows g.E.ParseError.errors.joined c.args.first c.args.second c.in-Some.first
    c.in-Some-second.second c.in-Ok.both c.in-Some.is c.in-Some-second.is c.in-Ok.ensures
