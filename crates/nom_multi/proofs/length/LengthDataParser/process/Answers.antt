use Rattle.nom_internal.proofs.Shown.{then_err}
use Rattle.nom_multi.proofs.LengthShown.{after_ok}
use Rattle.nom_multi.specs.Lengths.{takes_by_count}
use Rattle.nom_multi.proofs.length.LengthDataParser.process.Goals as goal

pub returns-in_err-rest-clause-shown : goal.returns-in_err-rest-clause-shown
returns-in_err-rest-clause-shown g c = then_err g.met.I.Items.lawful c.in_err-rest.ensures.shown c.from_residual.ensures

pub returns-clause-shown : goal.returns-clause-shown
returns-clause-shown g c =
    after_ok _ g.met.I.Items.lawful (λ u t. (u, t))
    (g.F.Parser.grammar (g.F.Parser.state c.args.self.now.parser)).IsOutput _ _ (g.F.Parser.grammar (g.F.Parser.state c.args.self.now.parser)).meaning
    (takes_by_count g.I.Items.model g.F.Error.ParseError.errors g.I.Input.lack) _ c.args.input _ _ c.in-Some.length c.take-data.result.count _
    c.in_ok-rest.ensures.shown c.in-Some.is c.take-data.ensures (λ u. c.process-in-Some.ensures.shown)
