use Rattle.std.proofs.Common.{refl, ◌∙◌}
use Rattle.std.specs.List.{AllZip}
use Rattle.nom_internal.proofs.Shown.{accepts, both_built, built_error, err_from_residual}
use Rattle.nom_repeat.specs.Lists.{ListLacksRoom}
use Rattle.nom_repeat.proofs.Accumulating.{built_any, room_built}
use Rattle.nom_repeat.proofs.Repeated.{collected_none, is_empty, consumes, is_shorter}
use Rattle.nom_multi.specs.Till.{end_or_item}
use Rattle.nom_multi.proofs.TillShown.{is_end, is_item, stands_at, till_ended, till_stuck, till_lacks_room, till_more, till_refused, till_stopped}
use Rattle.nom_multi.proofs.TillShown.{list_pushed}
use Rattle.nom_multi.proofs.till.ManyTillParser.process.Goals as goal

pub loop-next-init : goal.loop-next-init
loop-next-init g c = record {
  parser_kept = refl;
  end_kept = refl;
  collected = collected_none g.met.I.Items.lawful c.known.ensures (built_error _ _ _ _ (λ list none. rw none tt) c.none_yet-kept.ensures.empty);
}

pub returns-in-End-clause-shown : goal.returns-in-End-clause-shown
returns-in-End-clause-shown g c =
    let i = c.loop-next.invariant in
    let told = stands_at g.G.Parser.grammar g.F.Parser.grammar i.end_kept i.parser_kept c.in-Ok.ensures.shown in
    let found = accepts told in
    let end = is_end _ (g.G.Parser.grammar (g.G.Parser.state c.args.self.now.end)).IsOutput
    (g.F.Parser.grammar (g.F.Parser.state c.args.self.now.parser)).IsOutput found.tree c.emitted.ensures c.in-End.is found.built_is in
    till_ended g.F.Error.ParseError.errors (g.F.Parser.grammar (g.F.Parser.state c.args.self.now.parser)).meaning
    (g.G.Parser.grammar (g.G.Parser.state c.args.self.now.end)).meaning i.collected g.met.I.Items.lawful end.0 found.answered
    end.1 found.rest_is _ (both_built (λ list. AllZip (g.F.Parser.grammar (g.F.Parser.state c.args.self.now.parser)).IsOutput i.collected.trees list.items)
    ((g.G.Parser.grammar (g.G.Parser.state c.args.self.now.end)).IsOutput end.0) _ _ _ _ i.collected.held end.2 c.combine.ensures.both c.combine.ensures.none)

pub returns-then-input_len-clause-shown : goal.returns-then-input_len-clause-shown
returns-then-input_len-clause-shown g c =
    let i = c.loop-next.invariant in
    let told = stands_at g.G.Parser.grammar g.F.Parser.grammar i.end_kept i.parser_kept c.in-Ok.ensures.shown in
    let found = accepts told in
    let item = is_item _ (g.G.Parser.grammar (g.G.Parser.state c.args.self.now.end)).IsOutput
    (g.F.Parser.grammar (g.F.Parser.state c.args.self.now.parser)).IsOutput found.tree c.emitted.ensures c.in-Item.is found.built_is in
    till_stuck g.F.Error.ParseError.errors (g.F.Parser.grammar (g.F.Parser.state c.args.self.now.parser)).meaning
    (g.G.Parser.grammar (g.G.Parser.state c.args.self.now.end)).meaning i.collected item.0 found.answered item.1
    (is_empty found.rest_is c.input_len.ensures c.input_len-in-Item.ensures c.if-input_len.true) _ c.refusal.ensures

pub push_item-requires-clause-kept : goal.push_item-requires-clause-kept
push_item-requires-clause-kept g c = built_any _ _ _ c.loop-next.invariant.collected.held

pub push_item-requires-clause-item : goal.push_item-requires-clause-item
push_item-requires-clause-item g c =
    let found = accepts c.in-Ok.ensures.shown in
    built_any _ _ _ (is_item _ _ _ found.tree c.emitted.ensures c.in-Item.is found.built_is).2

pub returns-in_err-push_item-in-Item-clause-shown : goal.returns-in_err-push_item-in-Item-clause-shown
returns-in_err-push_item-in-Item-clause-shown g c =
    let i = c.loop-next.invariant in
    let told = stands_at g.G.Parser.grammar g.F.Parser.grammar i.end_kept i.parser_kept c.in-Ok.ensures.shown in
    let found = accepts told in
    let item = is_item _ (g.G.Parser.grammar (g.G.Parser.state c.args.self.now.end)).IsOutput
    (g.F.Parser.grammar (g.F.Parser.state c.args.self.now.parser)).IsOutput found.tree c.emitted.ensures c.in-Item.is found.built_is in
    rw (err_from_residual c.from_residual.ensures) (
    till_lacks_room g.F.Error.ParseError.errors (g.F.Parser.grammar (g.F.Parser.state c.args.self.now.parser)).meaning
    (g.G.Parser.grammar (g.G.Parser.state c.args.self.now.end)).meaning i.collected item.0 found.answered item.1
    (consumes found.rest_is c.input_len.ensures c.input_len-in-Item.ensures c.if-input_len.false)
    (room_built (λ old _ new. ListLacksRoom old new) _ _ _ _ _ i.collected.held c.in_err-push_item-in-Item.ensures.lacks))

pub loop-next-smaller : goal.loop-next-smaller
loop-next-smaller g c =
    let found = accepts c.in-Ok.ensures.shown in
    is_shorter found.rest_is (consumes found.rest_is c.input_len.ensures c.input_len-in-Item.ensures c.if-input_len.false)

pub loop-next-preserved : goal.loop-next-preserved
loop-next-preserved g c =
    let i = c.loop-next.invariant in
    let told = stands_at g.G.Parser.grammar g.F.Parser.grammar i.end_kept i.parser_kept c.in-Ok.ensures.shown in
    let found = accepts told in
    let item = is_item _ (g.G.Parser.grammar (g.G.Parser.state c.args.self.now.end)).IsOutput
    (g.F.Parser.grammar (g.F.Parser.state c.args.self.now.parser)).IsOutput found.tree c.emitted.ensures c.in-Item.is found.built_is in
    record {
      parser_kept = c.in-Ok.ensures.parser_kept ∙ i.parser_kept;
      end_kept = c.in-Ok.ensures.end_kept ∙ i.end_kept;
      collected = till_more g.met.I.Items.lawful
          ((end_or_item (g.G.Parser.grammar (g.G.Parser.state c.args.self.now.end)).meaning
          (g.F.Parser.grammar (g.F.Parser.state c.args.self.now.parser)).meaning).answers g.OM.Incomplete.IsStreaming.STREAMING) i.collected item.0
          found.answered item.1 (consumes found.rest_is c.input_len.ensures c.input_len-in-Item.ensures c.if-input_len.false) found.rest_is
          (list_pushed (g.F.Parser.grammar (g.F.Parser.state c.args.self.now.parser)).IsOutput
          _ _ _ _ _ _ c.in_ok-push_item-in-Item.ensures.kept i.collected.held
          item.2);
    }

pub returns-in-Err-Error-clause-shown : goal.returns-in-Err-Error-clause-shown
returns-in-Err-Error-clause-shown g c =
    let i = c.loop-next.invariant in
    let told = stands_at g.G.Parser.grammar g.F.Parser.grammar i.end_kept i.parser_kept c.in-Err-Error.ensures.shown in
    till_refused g.F.Error.ParseError.errors (g.F.Parser.grammar (g.F.Parser.state c.args.self.now.parser)).meaning
    (g.G.Parser.grammar (g.G.Parser.state c.args.self.now.end)).meaning i.collected told c.in-Err-Error.field-0-is _
    c.close_error.ensures

pub returns-in-Err-Failure-clause-shown : goal.returns-in-Err-Failure-clause-shown
returns-in-Err-Failure-clause-shown g c =
    let i = c.loop-next.invariant in
    let told = stands_at g.G.Parser.grammar g.F.Parser.grammar i.end_kept i.parser_kept c.in-Err-Failure.ensures.shown in
    till_stopped g.F.Error.ParseError.errors (g.F.Parser.grammar (g.F.Parser.state c.args.self.now.parser)).meaning
    (g.G.Parser.grammar (g.G.Parser.state c.args.self.now.end)).meaning i.collected told c.in-Err-Failure.field-0-is tt

pub returns-in-Err-Incomplete-clause-shown : goal.returns-in-Err-Incomplete-clause-shown
returns-in-Err-Incomplete-clause-shown g c =
    let i = c.loop-next.invariant in
    let told = stands_at g.G.Parser.grammar g.F.Parser.grammar i.end_kept i.parser_kept c.in-Err-Incomplete.ensures.shown in
    till_stopped g.F.Error.ParseError.errors (g.F.Parser.grammar (g.F.Parser.state c.args.self.now.parser)).meaning
    (g.G.Parser.grammar (g.G.Parser.state c.args.self.now.end)).meaning i.collected told c.in-Err-Incomplete.field-0-is tt

pub returns-in-Err-OutOfMemory-clause-shown : goal.returns-in-Err-OutOfMemory-clause-shown
returns-in-Err-OutOfMemory-clause-shown g c =
    let i = c.loop-next.invariant in
    let told = stands_at g.G.Parser.grammar g.F.Parser.grammar i.end_kept i.parser_kept c.in-Err-OutOfMemory.ensures.shown in
    till_stopped g.F.Error.ParseError.errors (g.F.Parser.grammar (g.F.Parser.state c.args.self.now.parser)).meaning
    (g.G.Parser.grammar (g.G.Parser.state c.args.self.now.end)).meaning i.collected told c.in-Err-OutOfMemory.field-0-is tt
