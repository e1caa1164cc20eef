use Rattle.std.proofs.Common.{[]}
use Rattle.nom_internal.proofs.Shown.{accepts, err_from_residual}
use Rattle.nom_repeat.proofs.Accumulating.{built_any, kept_none, pushed, room_built, room_grows}
use Rattle.nom_separated.proofs.SeparatedShown.{first_missing, first_found, first_stopped, first_lacks_room, nothing_yet}
use Rattle.nom_separated.proofs.separated_lists.first_item.Goals as goal

pub push_item-requires-clause-item : goal.push_item-requires-clause-item
push_item-requires-clause-item g c = built_any _ _ _ (accepts c.in-Ok.ensures.shown).built_is

pub returns-in_err-push_item-in-Ok-clause-shown : goal.returns-in_err-push_item-in-Ok-clause-shown
returns-in_err-push_item-in-Ok-clause-shown g c =
    let lacks = c.in_err-push_item-in-Ok.ensures.lacks in
    let first = kept_none g.K.Accumulator.Pushes g.K.Accumulator.CanPush (g.F.Parser.grammar (g.F.Parser.state c.args.parser.now)).IsOutput
    _ _ c.requires.built in
    rw (err_from_residual c.from_residual.ensures) (
    first_lacks_room g.met.I.Items.lawful g.F.Error.ParseError.errors g.K.Accumulator.Grows (g.F.Parser.grammar (g.F.Parser.state c.args.parser.now)).meaning
    g.K.Accumulator.Pushes g.K.Accumulator.CanPush (g.F.Parser.grammar (g.F.Parser.state c.args.parser.now)).IsOutput c.args.before _ _ _
    (nothing_yet g.met.I.Items.lawful ((g.F.Parser.grammar (g.F.Parser.state c.args.parser.now)).meaning.answers g.OM.Incomplete.IsStreaming.STREAMING)
    c.known.ensures) (accepts c.in-Ok.ensures.shown) (room_built g.K.Accumulator.LacksRoom _ _ _ _ _ first lacks)
    (room_grows g.K.Accumulator.LacksRoom g.K.Accumulator.Grows g.K.Accumulator.lacking _ _ _ lacks))

pub returns-in_ok-push_item-in-Ok-clause-shown : goal.returns-in_ok-push_item-in-Ok-clause-shown
returns-in_ok-push_item-in-Ok-clause-shown g c =
    let first = kept_none g.K.Accumulator.Pushes g.K.Accumulator.CanPush (g.F.Parser.grammar (g.F.Parser.state c.args.parser.now)).IsOutput
    _ _ c.requires.built in
    let item = accepts c.in-Ok.ensures.shown in
    first_found g.met.I.Items.lawful g.F.Error.ParseError.errors g.K.Accumulator.Grows (g.F.Parser.grammar (g.F.Parser.state c.args.parser.now)).meaning
    g.K.Accumulator.Pushes
    g.K.Accumulator.CanPush (g.F.Parser.grammar (g.F.Parser.state c.args.parser.now)).IsOutput c.args.before _ _ _
    (nothing_yet g.met.I.Items.lawful ((g.F.Parser.grammar (g.F.Parser.state c.args.parser.now)).meaning.answers g.OM.Incomplete.IsStreaming.STREAMING)
    c.known.ensures) item _ (pushed g.K.Accumulator.Pushes g.K.Accumulator.CanPush (g.F.Parser.grammar (g.F.Parser.state c.args.parser.now)).IsOutput
    _ _ [] _ _
    _ _
    c.in_ok-push_item-in-Ok.ensures.kept first item.built_is)

pub returns-in-Err-Error-clause-shown : goal.returns-in-Err-Error-clause-shown
returns-in-Err-Error-clause-shown g c =
    first_missing g.met.I.Items.lawful g.F.Error.ParseError.errors g.K.Accumulator.Grows (g.F.Parser.grammar (g.F.Parser.state c.args.parser.now)).meaning
    g.K.Accumulator.Pushes g.K.Accumulator.CanPush (g.F.Parser.grammar (g.F.Parser.state c.args.parser.now)).IsOutput c.args.before _ _ _
    (nothing_yet g.met.I.Items.lawful ((g.F.Parser.grammar (g.F.Parser.state c.args.parser.now)).meaning.answers g.OM.Incomplete.IsStreaming.STREAMING)
    c.known.ensures) c.in-Err-Error.field-0-is c.in-Err-Error.ensures.shown _
    (kept_none g.K.Accumulator.Pushes g.K.Accumulator.CanPush (g.F.Parser.grammar (g.F.Parser.state c.args.parser.now)).IsOutput _ _ c.requires.built)

pub returns-in-Err-Failure-clause-shown : goal.returns-in-Err-Failure-clause-shown
returns-in-Err-Failure-clause-shown g c =
    first_stopped g.met.I.Items.lawful g.F.Error.ParseError.errors (g.F.Parser.grammar (g.F.Parser.state c.args.parser.now)).meaning c.known.ensures
    c.in-Err-Failure.field-0-is tt c.in-Err-Failure.ensures.shown

pub returns-in-Err-Incomplete-clause-shown : goal.returns-in-Err-Incomplete-clause-shown
returns-in-Err-Incomplete-clause-shown g c =
    first_stopped g.met.I.Items.lawful g.F.Error.ParseError.errors (g.F.Parser.grammar (g.F.Parser.state c.args.parser.now)).meaning c.known.ensures
    c.in-Err-Incomplete.field-0-is tt c.in-Err-Incomplete.ensures.shown
