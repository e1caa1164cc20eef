use Rattle.nom_report.proofs.Again.{accepted, failure, incomplete}
use Rattle.nom_report.proofs.twice.without_errors.Goals as goal

pub returns-in-Some-clause-shown : goal.returns-in-Some-clause-shown
returns-in-Some-clause-shown g c =
    let s = g.S.IsStreaming.STREAMING in
    let h = g.P.Parser.grammar (g.P.Parser.state c.args.parser.now) in
    accepted g.I.Items.model h.IsOutput s c.args.input (h.meaning.answers s c.args.input) (h.meaning.blames s c.args.input) _ _
    c.in-Ok.accepted.0 c.in-Ok.accepted.1 c.in-Some.output c.in-Some.is c.in-Ok.ensures.shown

pub returns-in-Err-Incomplete-clause-shown : goal.returns-in-Err-Incomplete-clause-shown
returns-in-Err-Incomplete-clause-shown g c =
    let s = g.S.IsStreaming.STREAMING in
    let h = g.P.Parser.grammar (g.P.Parser.state c.args.parser.now) in
    incomplete g.I.Items.model h.IsOutput s c.args.input (h.meaning.answers s c.args.input) (h.meaning.blames s c.args.input) _ _
    c.in-Err-Incomplete.field-0 c.in-Err-Incomplete.needed c.in-Err-Incomplete.field-0-is c.in-Err-Incomplete.ensures.shown

pub returns-in-Err-Failure-clause-shown : goal.returns-in-Err-Failure-clause-shown
returns-in-Err-Failure-clause-shown g c =
    let s = g.S.IsStreaming.STREAMING in
    let h = g.P.Parser.grammar (g.P.Parser.state c.args.parser.now) in
    failure g.I.Items.model h.IsOutput s c.args.input (h.meaning.answers s c.args.input) (h.meaning.blames s c.args.input) _ _
    c.in-Err-Failure.field-0 c.in-Err-Failure.error c.in-Err-Failure.field-0-is c.in-Err-Failure.ensures.shown
