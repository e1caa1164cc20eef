use Rattle.std.proofs.Common.{Err, ap, refl, length}
use Rattle.std.proofs.lemmas.Bool.{lt-ltb}
use Rattle.nom_error.specs.declared.kind.ErrorKind.TheVariants as Kind
use Rattle.nom_repeat.specs.declared.items.TooFew.TheVariants.{Added}
use Rattle.nom_internal.proofs.Shown.{accepts}
use Rattle.std.proofs.Common.{inl}
use Rattle.nom_repeat.proofs.Parts.{shown_at}
use Rattle.nom_repeat.proofs.Repeated.{collected_none}
use Rattle.nom_repeat.proofs.ItemsShown.{items_full, items_too_few, items_stopped, items_more}
use Rattle.nom_multi.proofs.FillShown.{one_longer, holds_none, holds_more, still_long, fits, is_over, stops_full, stops_refused, stops_else}
use Rattle.nom_multi.proofs.FillShown.{filled}
use Rattle.nom_multi.proofs.buffer.fill_buffer.Goals as goal
use Rattle.nom_repeat.specs.Bounds.{exact_limits}

pub loop-count-init : goal.loop-count-init
loop-count-init g c = record {
  state_kept = refl;
  length_kept = refl;
  collected = collected_none g.met.I.Items.lawful c.known.ensures (
    holds_none (g.F.Parser.grammar (g.F.Parser.state c.args.parser.now)).IsOutput
        _ _,
    refl,
  );
}

pub loop-count-preserved : goal.loop-count-preserved
loop-count-preserved g c =
    let i = c.loop-count.invariant in
    let part = shown_at g.F.Parser.grammar i.state_kept c.in-Ok.ensures.shown in
    let item = accepts part in
    let below = fits c.loop-count-test.true i.length_kept i.collected.held.1 in
    record {
      state_kept = cc;
      length_kept = still_long _ _ _ _ i.length_kept c.put.ensures;
      collected = items_more g.met.I.Items.lawful (exact_limits (length c.args.buffer.now)) i.collected below item (inl refl) (
        holds_more (g.F.Parser.grammar (g.F.Parser.state c.args.parser.now)).IsOutput _ _ _ _ _ _ _ _ i.collected.held.0 i.collected.held.1
            (fits c.loop-count-test.true i.length_kept refl) item.built_is c.put.ensures,
        one_longer _ _ i.collected.held.1,
      );
    }

pub returns-in-Err-Error-clause-shown : goal.returns-in-Err-Error-clause-shown
returns-in-Err-Error-clause-shown g c =
    let i = c.loop-count.invariant in
    let part = shown_at g.F.Parser.grammar i.state_kept c.in-Err-Error.ensures.shown in
    let below = fits c.loop-count-test.true i.length_kept i.collected.held.1 in
    items_too_few g.F.Error.ParseError.errors (exact_limits (length c.args.buffer.now)) ⊥ (g.F.Parser.grammar (g.F.Parser.state c.args.parser.now)).meaning
    i.collected below (lt-ltb _ _ below) (Added Kind.Count) refl c.in-Err-Error.field-0-is part refl c.close_error.ensures

pub returns-in-Err-Error-clause-filled : goal.returns-in-Err-Error-clause-filled
returns-in-Err-Error-clause-filled g c =
    let i = c.loop-count.invariant in
    let part = shown_at g.F.Parser.grammar i.state_kept c.in-Err-Error.ensures.shown in
    let below = fits c.loop-count-test.true i.length_kept i.collected.held.1 in
    filled i.collected (stops_refused (g.F.Parser.grammar (g.F.Parser.state c.args.parser.now)).meaning _ _ i.collected below c.in-Err-Error.field-0-is part)

pub returns-in-Err-Failure-clause-shown : goal.returns-in-Err-Failure-clause-shown
returns-in-Err-Failure-clause-shown g c =
    let i = c.loop-count.invariant in
    items_stopped g.F.Error.ParseError.errors (exact_limits (length c.args.buffer.now)) (g.F.Parser.grammar (g.F.Parser.state c.args.parser.now)).meaning
    i.collected (fits c.loop-count-test.true i.length_kept i.collected.held.1) c.in-Err-Failure.field-0-is tt
    (shown_at g.F.Parser.grammar i.state_kept c.in-Err-Failure.ensures.shown)

pub returns-in-Err-Failure-clause-filled : goal.returns-in-Err-Failure-clause-filled
returns-in-Err-Failure-clause-filled g c =
    let i = c.loop-count.invariant in
    filled i.collected (stops_else (g.F.Parser.grammar (g.F.Parser.state c.args.parser.now)).meaning _ _ i.collected
    (fits c.loop-count-test.true i.length_kept i.collected.held.1) c.in-Err-Failure.field-0-is tt
    (shown_at g.F.Parser.grammar i.state_kept c.in-Err-Failure.ensures.shown) (ap Err))

pub returns-in-Err-Incomplete-clause-shown : goal.returns-in-Err-Incomplete-clause-shown
returns-in-Err-Incomplete-clause-shown g c =
    let i = c.loop-count.invariant in
    items_stopped g.F.Error.ParseError.errors (exact_limits (length c.args.buffer.now)) (g.F.Parser.grammar (g.F.Parser.state c.args.parser.now)).meaning
    i.collected (fits c.loop-count-test.true i.length_kept i.collected.held.1) c.in-Err-Incomplete.field-0-is tt
    (shown_at g.F.Parser.grammar i.state_kept c.in-Err-Incomplete.ensures.shown)

pub returns-in-Err-Incomplete-clause-filled : goal.returns-in-Err-Incomplete-clause-filled
returns-in-Err-Incomplete-clause-filled g c =
    let i = c.loop-count.invariant in
    filled i.collected (stops_else (g.F.Parser.grammar (g.F.Parser.state c.args.parser.now)).meaning _ _ i.collected
    (fits c.loop-count-test.true i.length_kept i.collected.held.1) c.in-Err-Incomplete.field-0-is tt
    (shown_at g.F.Parser.grammar i.state_kept c.in-Err-Incomplete.ensures.shown) (ap Err))

pub returns-in-Err-OutOfMemory-clause-shown : goal.returns-in-Err-OutOfMemory-clause-shown
returns-in-Err-OutOfMemory-clause-shown g c =
    let i = c.loop-count.invariant in
    items_stopped g.F.Error.ParseError.errors (exact_limits (length c.args.buffer.now)) (g.F.Parser.grammar (g.F.Parser.state c.args.parser.now)).meaning
    i.collected (fits c.loop-count-test.true i.length_kept i.collected.held.1) c.in-Err-OutOfMemory.field-0-is tt
    (shown_at g.F.Parser.grammar i.state_kept c.in-Err-OutOfMemory.ensures.shown)

pub returns-in-Err-OutOfMemory-clause-filled : goal.returns-in-Err-OutOfMemory-clause-filled
returns-in-Err-OutOfMemory-clause-filled g c =
    let i = c.loop-count.invariant in
    filled i.collected (stops_else (g.F.Parser.grammar (g.F.Parser.state c.args.parser.now)).meaning _ _ i.collected
    (fits c.loop-count-test.true i.length_kept i.collected.held.1) c.in-Err-OutOfMemory.field-0-is tt
    (shown_at g.F.Parser.grammar i.state_kept c.in-Err-OutOfMemory.ensures.shown) (ap Err))

pub returns-clause-shown : goal.returns-clause-shown
returns-clause-shown g c =
    let i = c.loop-count.invariant in
    items_full g.F.Error.ParseError.errors (exact_limits (length c.args.buffer.now)) ⊥ (g.F.Parser.grammar (g.F.Parser.state c.args.parser.now)).meaning
    i.collected (is_over c.loop-count-test.false i.length_kept i.collected.held.1) c.done.ensures

pub returns-clause-filled : goal.returns-clause-filled
returns-clause-filled g c =
    let i = c.loop-count.invariant in
    filled i.collected (stops_full (g.F.Parser.grammar (g.F.Parser.state c.args.parser.now)).meaning _ _ i.collected
    (is_over c.loop-count-test.false i.length_kept i.collected.held.1))
