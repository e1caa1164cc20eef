use Rattle.std.proofs.Common.{refl}
use Rattle.nom_internal.proofs.Shown.{err_from_residual}
use Rattle.nom_bytes_escaped.proofs.NextPieceShown.{end_shown, last_shown, normal_found, normal_stops, other_stands, escapable_faults, escapable_found}
use Rattle.nom_bytes_escaped.proofs.next_piece.piece_at.Goals as goal

pub returns-in-Ok-clause-shown : goal.returns-in-Ok-clause-shown
returns-in-Ok-clause-shown g c = normal_found _ g.met.I.Items.lawful _ _ _ _ _ _ (g.F.Parser.grammar (g.F.Parser.state c.args.normal.now)).meaning
    (g.G.Parser.grammar (g.G.Parser.state c.args.escapable.now)).meaning _ c.known.ensures _ _ c.input_len.ensures c.if-input_len-eq0.false _ _
    c.in-Ok.ensures.shown

pub returns-in-None-clause-shown : goal.returns-in-None-clause-shown
returns-in-None-clause-shown g c = other_stands _ g.met.I.Items.lawful _ _ _ _ _ _ (g.F.Parser.grammar (g.F.Parser.state c.args.normal.now)).meaning
    (g.G.Parser.grammar (g.G.Parser.state c.args.escapable.now)).meaning _ c.known.ensures _ _ c.input_len.ensures c.if-input_len-eq0.false _ _
    c.in-Err-Error.field-0-is c.in-Err-Error.ensures.shown c.in-None.ensures

pub returns-in_err-rest-in-Before-clause-shown : goal.returns-in_err-rest-in-Before-clause-shown
returns-in_err-rest-in-Before-clause-shown g c =
    escapable_faults _ g.met.I.Items.lawful _ _ _ _ _ _ (g.F.Parser.grammar (g.F.Parser.state c.args.normal.now)).meaning
    (g.G.Parser.grammar (g.G.Parser.state c.args.escapable.now)).meaning _ c.known.ensures _ _ c.input_len.ensures c.if-input_len-eq0.false _ _
    c.in-Err-Error.field-0-is c.in-Err-Error.ensures.shown _ c.in-Before.ensures _ _ c.in_err-rest-in-Before.ensures.shown
    (err_from_residual c.from_residual.ensures)

pub returns-in-Err-Error-clause-shown : goal.returns-in-Err-Error-clause-shown
returns-in-Err-Error-clause-shown g c = escapable_found _ g.met.I.Items.lawful _ _ _ _ _ _ (g.F.Parser.grammar (g.F.Parser.state c.args.normal.now)).meaning
    (g.G.Parser.grammar (g.G.Parser.state c.args.escapable.now)).meaning _ c.known.ensures _ _ c.input_len.ensures c.if-input_len-eq0.false _ _
    c.in-Err-Error.field-0-is c.in-Err-Error.ensures.shown _ c.in-Before.ensures _ _ c.in_ok-rest-in-Before.ensures.shown

pub returns-in-Err-Failure-clause-shown : goal.returns-in-Err-Failure-clause-shown
returns-in-Err-Failure-clause-shown g c = normal_stops _ g.met.I.Items.lawful _ _ _ _ _ _ (g.F.Parser.grammar (g.F.Parser.state c.args.normal.now)).meaning
    (g.G.Parser.grammar (g.G.Parser.state c.args.escapable.now)).meaning _ c.known.ensures _ _ c.input_len.ensures c.if-input_len-eq0.false _ _
    c.in-Err-Failure.field-0-is (λ x e. cc (e)) c.in-Err-Failure.ensures.shown

pub returns-in-Err-Incomplete-clause-shown : goal.returns-in-Err-Incomplete-clause-shown
returns-in-Err-Incomplete-clause-shown g c = normal_stops _ g.met.I.Items.lawful _ _ _ _ _ _ (g.F.Parser.grammar (g.F.Parser.state c.args.normal.now)).meaning
    (g.G.Parser.grammar (g.G.Parser.state c.args.escapable.now)).meaning _ c.known.ensures _ _ c.input_len.ensures c.if-input_len-eq0.false _ _
    c.in-Err-Incomplete.field-0-is (λ x e. cc (e)) c.in-Err-Incomplete.ensures.shown

pub returns-then-input_len-eq0-clause-shown : goal.returns-then-input_len-eq0-clause-shown
returns-then-input_len-eq0-clause-shown g c = end_shown _ g.met.I.Items.lawful _ _ _ _ _ _ (g.F.Parser.grammar (g.F.Parser.state c.args.normal.now)).meaning
    (g.G.Parser.grammar (g.G.Parser.state c.args.escapable.now)).meaning
    _ c.known.ensures _ _ c.input_len.ensures c.if-input_len-eq0.true _ c.lacks.ensures

pub returns-in-Last-clause-shown : goal.returns-in-Last-clause-shown
returns-in-Last-clause-shown g c = last_shown _ g.met.I.Items.lawful _ _ _ _ _ _ (g.F.Parser.grammar (g.F.Parser.state c.args.normal.now)).meaning
    (g.G.Parser.grammar (g.G.Parser.state c.args.escapable.now)).meaning _ c.known.ensures _ c.input_len.ensures c.if-input_len-eq0.false _ _ _
    c.in-Err-Error.field-0-is c.in-Err-Error.ensures.shown _ refl c.in-Last.ensures _ c.lacks-in-Last.ensures

pub returns-clause-shown : goal.returns-clause-shown
returns-clause-shown g c = normal_stops _ g.met.I.Items.lawful _ _ _ _ _ _ (g.F.Parser.grammar (g.F.Parser.state c.args.normal.now)).meaning
    (g.G.Parser.grammar (g.G.Parser.state c.args.escapable.now)).meaning _ c.known.ensures _ _ c.input_len.ensures c.if-input_len-eq0.false _ _
    c.in-Err-OutOfMemory.field-0-is (λ x e. cc (e)) c.in-Err-OutOfMemory.ensures.shown
