use Rattle.nom_internal.proofs.Shown.{then_err}
use Rattle.nom_multi.proofs.LengthShown.{after_ok}
use Rattle.nom_multi.specs.Values.{values_by_length}
use Rattle.nom_multi.proofs.value.LengthValueParser.process.Goals as goal

pub returns-in_err-rest-clause-shown : goal.returns-in_err-rest-clause-shown
returns-in_err-rest-clause-shown g c = then_err g.met.I.Items.lawful c.in_err-rest.ensures.shown c.from_residual.ensures

pub returns-clause-shown : goal.returns-clause-shown
returns-clause-shown g c =
    after_ok _ g.met.I.Items.lawful (λ u t. t)
    (g.F.Parser.grammar (g.F.Parser.state c.args.self.now.length)).IsOutput _ (g.G.Parser.grammar (g.G.Parser.state c.args.self.now.parser)).IsOutput
    (g.F.Parser.grammar (g.F.Parser.state c.args.self.now.length)).meaning
    (values_by_length g.I.Items.model g.F.Error.ParseError.errors (g.G.Parser.grammar (g.G.Parser.state c.args.self.now.parser)).meaning) _ c.args.input _ _
    c.in-Some.length c.to_usize.result _ c.in_ok-rest.ensures.shown c.in-Some.is c.to_usize.ensures (λ u. c.within.ensures.shown)
