use Rattle.std.proofs.Common.{refl, inl, arith}
use Rattle.std.proofs.lemmas.Bool.{lt-ltb}
use Rattle.nom_error.specs.declared.kind.ErrorKind.TheVariants as Kind
use Rattle.nom_internal.proofs.Shown.{accepts, err_from_residual}
use Rattle.nom_repeat.specs.Bounds.{exact_limits}
use Rattle.nom_repeat.specs.Lists.{ListLacksRoom, ListPushes}
use Rattle.nom_repeat.specs.declared.items.TooFew.TheVariants.{Added}
use Rattle.nom_repeat.proofs.Parts.{shown_at}
use Rattle.nom_repeat.proofs.Accumulating.{kept_ready, built_any, pushed, room_built}
use Rattle.nom_repeat.proofs.ItemsShown.{items_full, items_too_few, items_stopped, items_lack_room, items_more}
use Rattle.nom_repeat.proofs.Places.{is_below, is_over, one_longer}
use Rattle.nom_repeat.proofs.exact.items_exactly.Goals as goal

pub loop-done-init : goal.loop-done-init
loop-done-init g c = record {
  state_kept = c.items_ahead-rest.ensures.kept;
  collected = c.items_ahead-rest.ensures.collected (exact_limits c.args.count) (λ k h. omega (arith, h, c.items_ahead-rest.ensures.bounded));
}

pub loop-done-preserved : goal.loop-done-preserved
loop-done-preserved g c =
    let i = c.loop-done.invariant in
    let part = shown_at g.F.Parser.grammar i.state_kept c.in-Ok.ensures.shown in
    let item = accepts part in
    let pushes = c.in_ok-push_claimed-in-Ok.ensures.kept in
    record {
      state_kept = cc;
      collected = items_more g.met.I.Items.lawful (exact_limits c.args.count) i.collected (is_below c.loop-done-test.true i.collected.held.1) item (inl refl) (
        pushed ListPushes (λ _. Unit {0}) (g.F.Parser.grammar (g.F.Parser.state c.args.parser.now)).IsOutput
            _ _ _ _ _ _ _ pushes i.collected.held.0
            item.built_is,
        one_longer _ _ i.collected.held.1,
      );
    }

pub push_claimed-requires-clause-kept : goal.push_claimed-requires-clause-kept
push_claimed-requires-clause-kept g c =
    let i = c.loop-done.invariant in
    kept_ready ListPushes (λ _. Unit {0}) (g.F.Parser.grammar (g.F.Parser.state c.args.parser.now)).IsOutput _ _ _ i.collected.trees
    i.collected.held.0

pub push_claimed-requires-clause-item : goal.push_claimed-requires-clause-item
push_claimed-requires-clause-item g c = built_any _ _ _ (accepts c.in-Ok.ensures.shown).built_is

pub returns-in_err-push_claimed-in-Ok-clause-shown : goal.returns-in_err-push_claimed-in-Ok-clause-shown
returns-in_err-push_claimed-in-Ok-clause-shown g c =
    let i = c.loop-done.invariant in
    let part = shown_at g.F.Parser.grammar i.state_kept c.in-Ok.ensures.shown in
    rw (err_from_residual c.from_residual.ensures) (
    items_lack_room g.F.Error.ParseError.errors (exact_limits c.args.count) (Unit {0})
    (g.F.Parser.grammar (g.F.Parser.state c.args.parser.now)).meaning
    i.collected
    (is_below c.loop-done-test.true i.collected.held.1) (accepts part) (inl refl)
    (room_built (λ old _ new. ListLacksRoom old new) _ _ _ _ _ i.collected.held.0 c.in_err-push_claimed-in-Ok.ensures.lacks) tt)

pub returns-in-Err-Error-clause-shown : goal.returns-in-Err-Error-clause-shown
returns-in-Err-Error-clause-shown g c =
    let i = c.loop-done.invariant in
    let part = shown_at g.F.Parser.grammar i.state_kept c.in-Err-Error.ensures.shown in
    let below = is_below c.loop-done-test.true i.collected.held.1 in
    items_too_few g.F.Error.ParseError.errors (exact_limits c.args.count) (Unit {0})
    (g.F.Parser.grammar (g.F.Parser.state c.args.parser.now)).meaning
    i.collected
    below (lt-ltb _ _ below) (Added Kind.Count) refl c.in-Err-Error.field-0-is part refl c.close_error.ensures

pub returns-in-Err-Failure-clause-shown : goal.returns-in-Err-Failure-clause-shown
returns-in-Err-Failure-clause-shown g c =
    let i = c.loop-done.invariant in
    items_stopped g.F.Error.ParseError.errors (exact_limits c.args.count) (g.F.Parser.grammar (g.F.Parser.state c.args.parser.now)).meaning i.collected
    (is_below c.loop-done-test.true i.collected.held.1) c.in-Err-Failure.field-0-is tt (shown_at g.F.Parser.grammar i.state_kept c.in-Err-Failure.ensures.shown)

pub returns-in-Err-Incomplete-clause-shown : goal.returns-in-Err-Incomplete-clause-shown
returns-in-Err-Incomplete-clause-shown g c =
    let i = c.loop-done.invariant in
    items_stopped g.F.Error.ParseError.errors (exact_limits c.args.count) (g.F.Parser.grammar (g.F.Parser.state c.args.parser.now)).meaning i.collected
    (is_below c.loop-done-test.true i.collected.held.1) c.in-Err-Incomplete.field-0-is tt
    (shown_at g.F.Parser.grammar i.state_kept c.in-Err-Incomplete.ensures.shown)

pub returns-in-Err-OutOfMemory-clause-shown : goal.returns-in-Err-OutOfMemory-clause-shown
returns-in-Err-OutOfMemory-clause-shown g c =
    let i = c.loop-done.invariant in
    items_stopped g.F.Error.ParseError.errors (exact_limits c.args.count) (g.F.Parser.grammar (g.F.Parser.state c.args.parser.now)).meaning i.collected
    (is_below c.loop-done-test.true i.collected.held.1) c.in-Err-OutOfMemory.field-0-is tt
    (shown_at g.F.Parser.grammar i.state_kept c.in-Err-OutOfMemory.ensures.shown)

pub returns-clause-shown : goal.returns-clause-shown
returns-clause-shown g c =
    let i = c.loop-done.invariant in
    items_full g.F.Error.ParseError.errors (exact_limits c.args.count) (Unit {0}) (g.F.Parser.grammar (g.F.Parser.state c.args.parser.now)).meaning
    i.collected
    (is_over c.loop-done-test.false i.collected.held.1) i.collected.held.0
