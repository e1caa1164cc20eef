use Rattle.std.proofs.Common.{rules, arith, sym, subst}
use Rattle.std.specs.Iterator.{AlwaysYields}
use Rattle.nom_internal.specs.Prelude.{placed}
use Rattle.nom_bytes.proofs.CountedWalks.{stop_of, count_begins, count_goes_on, count_stops, count_ends}
use Rattle.nom_bytes.proofs.bounded.bounded_run.Goals as goal

pub loop-index-init : goal.loop-index-init
loop-index-init g c =
    let gives = subst (λ s. AlwaysYields g.I.IterIndices.Iterator.next_gives (λ p. p) s
    (placed g.I.Items.model.item_len 0 (g.I.Items.model.elements c.args.input)))
    (sym c.into_iter-index-iterator.ensures.into_iter_gives) c.iter_indices-index-items.ensures.gives in
    (search rules, search rules, omega arith, count_begins _ _ _ _ _ gives)

pub returns-then-count-most : goal.returns-then-count-most
returns-then-count-most g c = count_stops _ _ _ _ _ c.next.new.self c.args.most _ _ c.in-Some.item c.loop-index.invariant.3 c.in-Some.ensures.steps
    c.loop-index.invariant.2 (stop_of c.then-count-most.either
    (λ e. subst (g.P.Predicate.answers (g.P.Predicate.state c.args.predicate.now) c.in-Some.item) e c.meets-meets.ensures))

pub loop-index-preserved : goal.loop-index-preserved
loop-index-preserved g c = (
  search rules,
  search rules,
  omega (arith, c.loop-index.invariant.2, c.if-count-most.false),
  count_goes_on _ _ _ _ _ c.next.new.self _ _ c.in-Some.item c.loop-index.invariant.3 c.in-Some.ensures.steps c.if-not-meets.ensures,
)

pub returns : goal.returns
returns g c = count_ends _ _ _ _ _ c.next.new.self _ _ c.loop-index.invariant.3 c.in-None.ensures.steps c.loop-index.invariant.2
