use Rattle.std.proofs.Common.{◌≡◌, ◌+◌, ◌-◌, ◌<◌, ◌∙◌, length, refl, inr, arith, subst}
use Rattle.nom_internal.proofs.Shown.{accepts}
use Rattle.nom_repeat.specs.Accumulated.{HasRoomFor}
use Rattle.nom_repeat.specs.Bounds.{exact_limits}
use Rattle.nom_repeat.specs.Certain.{AreCertain}
use Rattle.nom_repeat.proofs.Accumulating.{kept_none, kept_ready, pushed}
use Rattle.nom_repeat.proofs.CertainShown.{certain_given, certain_moves, certain_next}
use Rattle.nom_repeat.proofs.ItemsShown.{items_more}
use Rattle.nom_repeat.proofs.Parts.{shown_at}
use Rattle.nom_repeat.proofs.Places.{one_longer}
use Rattle.nom_repeat.proofs.Repeated.{collected_none, collected_as}
use Rattle.nom_repeat.proofs.ahead.certain_items.Goals as goal

pub loop-done-init : goal.loop-done-init
loop-done-init g c = record {
  state_kept = refl;
  collected = λ b h. collected_none g.met.I.Items.lawful c.known.ensures
      (kept_none g.K.Accumulator.Pushes g.K.Accumulator.CanPush (g.F.Parser.grammar (g.F.Parser.state c.args.parser.now)).IsOutput _ _ c.requires.built, refl);
  certain = subst (λ z. AreCertain g.I.Items.model (g.F.Parser.grammar (g.F.Parser.state c.args.parser.now)).meaning z c.args.input) (omega arith)
      c.requires.certain;
  room = subst (λ z. HasRoomFor g.K.Accumulator.HasRoom c.args.before z) (omega arith) c.requires.room;
  within = omega arith;
}

pub push_within-requires-clause-kept : goal.push_within-requires-clause-kept
push_within-requires-clause-kept g c =
    let k = c.loop-done.invariant.collected (exact_limits c.args.count) (λ _ h. h) in
    kept_ready g.K.Accumulator.Pushes g.K.Accumulator.CanPush (g.F.Parser.grammar (g.F.Parser.state c.args.parser.now)).IsOutput _ _ _ k.trees k.held.0

pub push_within-requires-clause-room : goal.push_within-requires-clause-room
push_within-requires-clause-room g c = (
  c.args.count - (c.loop-done.done + 1),
  subst (λ z. HasRoomFor g.K.Accumulator.HasRoom c.loop-done.kept z) (omega (arith, c.loop-done-test.true)) c.loop-done.invariant.room,
)

pub loop-done-preserved : goal.loop-done-preserved
loop-done-preserved g c =
    let i = c.loop-done.invariant in
    let part = shown_at g.F.Parser.grammar i.state_kept c.in-Ok.ensures.shown in
    let item = accepts part in
    let sure = certain_next c.loop-done-test.true i.certain in
    record {
      state_kept = cc;
      collected = λ b h.
          let k = i.collected b h in
          items_more g.met.I.Items.lawful b k (h (length k.trees) (subst (λ z. z < c.args.count) k.held.1 c.loop-done-test.true)) item
          (inr (certain_moves sure.0 item.answered)) (
            pushed g.K.Accumulator.Pushes g.K.Accumulator.CanPush (g.F.Parser.grammar (g.F.Parser.state c.args.parser.now)).IsOutput
                _ _ _ _ _ _ _ c.push_within.ensures.kept k.held.0
                item.built_is,
            one_longer _ _ k.held.1,
          );
      certain = sure.1 _ item.length item.tree _ item.answered item.rest_is;
      room = c.push_within.ensures.room _
          (subst (λ z. HasRoomFor g.K.Accumulator.HasRoom c.loop-done.kept z) (omega (arith, c.loop-done-test.true)) i.room);
      within = omega (arith, c.loop-done-test.true);
    }

pub unreachable-requires : goal.unreachable-requires
unreachable-requires g c =
    let i = c.loop-done.invariant in
    certain_given (certain_next c.loop-done-test.true i.certain).0 (shown_at g.F.Parser.grammar i.state_kept c.in-Err.ensures.shown)

pub returns-clause-collected : goal.returns-clause-collected
returns-clause-collected g c = λ b h.
    let i = c.loop-done.invariant in
    let all : c.args.count ≡ c.loop-done.done = omega (arith, c.loop-done-test.false, i.within) in
    collected_as _ _ (λ vs k. (k.0, all ∙ k.1)) (i.collected b h)
