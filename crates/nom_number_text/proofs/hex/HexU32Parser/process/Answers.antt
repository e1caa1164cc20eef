use Rattle.nom_internal.specs.Prelude.{modes}
use Rattle.nom_internal.proofs.Shown.{err_from_residual}
use Rattle.nom_number_text.proofs.HexShown.{hex_err, hex_place, hex_ok}
use Rattle.nom_number_text.proofs.hex.HexU32Parser.process.Goals as goal

pub returns-in_err-run-clause-shown : goal.returns-in_err-run-clause-shown
returns-in_err-run-clause-shown g c =
    hex_err g.I.Items.model g.I.Item.Value.code g.E.ParseError.errors _ c.args.input _ _ c.in_err-run.ensures.shown (err_from_residual c.from_residual.ensures)

pub take_from-rest-requires : goal.take_from-rest-requires
take_from-rest-requires g c = hex_place g.I.Items.model g.I.Item.Value.code g.E.ParseError.errors
    (modes g.OM.Output.Mode.BUILDS g.OM.Error.Mode.BUILDS g.OM.Incomplete.IsStreaming.STREAMING) c.args.input _ _ _ c.first_eight-digits.result
    c.in_ok-run.ensures.shown c.in-Some.is c.first_eight-digits.ensures.items c.input_len.result c.input_len.ensures

pub returns-clause-shown : goal.returns-clause-shown
returns-clause-shown g c = hex_ok g.I.Items.model g.I.Item.Value.code g.E.ParseError.errors _ c.args.input _ _ _ c.first_eight-digits.result
    c.in_ok-run.ensures.shown c.in-Some.is c.first_eight-digits.ensures.items c.input_len.result _ _ c.input_len.ensures c.take_from-rest.ensures
    c.number_built.ensures
