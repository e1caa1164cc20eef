use Rattle.nom_internal.proofs.Shown.{err_from_residual}
use Rattle.nom_combinator.proofs.Judged.{consumed_err, consumed_ok, has_rest}
use Rattle.nom_combinator.proofs.piece.ConsumedParser.process.Goals as goal

pub returns-in_err-rest-clause-shown : goal.returns-in_err-rest-clause-shown
returns-in_err-rest-clause-shown g c =
    consumed_err _ _ (g.F.Parser.grammar (g.F.Parser.state c.args.self.now.parser)).meaning _ _ _ _ c.in_err-rest.ensures.shown
    (err_from_residual c.from_residual.ensures)

pub before-slice-requires : goal.before-slice-requires
before-slice-requires g c = has_rest _ _ (g.F.Parser.grammar (g.F.Parser.state c.args.self.now.parser)).meaning _ _ _ _ c.in_ok-rest.ensures.shown

pub returns-clause-shown : goal.returns-clause-shown
returns-clause-shown g c = consumed_ok _ _ (g.F.Parser.grammar (g.F.Parser.state c.args.self.now.parser)).meaning _ _ _ _ _ _ c.in_ok-rest.ensures.shown
    c.before-slice.ensures c.combine.ensures.both c.combine.ensures.none
