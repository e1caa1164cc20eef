use Rattle.nom_internal.proofs.Shown.{err_from_residual}
use Rattle.nom_internal.proofs.Consumed.{recognized_ok}
use Rattle.nom_combinator.proofs.Judged.{recognize_err, has_rest}
use Rattle.nom_combinator.proofs.piece.RecognizeParser.process.Goals as goal

pub returns-in_err-rest-clause-shown : goal.returns-in_err-rest-clause-shown
returns-in_err-rest-clause-shown g c =
    recognize_err _ _ (g.F.Parser.grammar (g.F.Parser.state c.args.self.now.parser)).meaning _ _ _ _ c.in_err-rest.ensures.shown
    (err_from_residual c.from_residual.ensures)

pub before-slice-requires : goal.before-slice-requires
before-slice-requires g c = has_rest _ _ (g.F.Parser.grammar (g.F.Parser.state c.args.self.now.parser)).meaning _ _ _ _ c.in_ok-rest.ensures.shown

pub returns-clause-shown : goal.returns-clause-shown
returns-clause-shown g c = recognized_ok _ _ (g.F.Parser.grammar (g.F.Parser.state c.args.self.now.parser)).meaning _ _ _ _ _ c.in_ok-rest.ensures.shown
    c.before-slice.ensures
