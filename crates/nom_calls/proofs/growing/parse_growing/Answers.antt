use Rattle.std.proofs.Common.{◌∙◌, below_more, arith, refl}
use Rattle.nom_calls.proofs.Grown.{shown_along, grown_at, grown_whole, agrees, waits, rest_shown}
use Rattle.nom_calls.proofs.growing.parse_growing.Goals as goal

pub in_whole-result-requires-clause-begins : goal.in_whole-result-requires-clause-begins
in_whole-result-requires-clause-begins g c = (_, c.take-beginning.ensures)

pub in_whole-result-requires-clause-rests : goal.in_whole-result-requires-clause-rests
in_whole-result-requires-clause-rests g c = rest_shown c.parse-answer.ensures.shown

pub returns-then-not-waits-clause-grown : goal.returns-then-not-waits-clause-grown
returns-then-not-waits-clause-grown g c =
    grown_at g.I.Items.model _ (g.P.Parser.grammar (g.P.Parser.state c.args.parser)).meaning
    (g.met.P.Parser.lawful _ c.requires.sound) c.args.whole c.known.ensures c.args.cuts.now _ c.loop-index.invariant.waited
    g.met.I.Input.more (g.met.P.StreamParser.steady _ c.requires.sound) c.loop-index-test.true _ c.take-beginning.ensures _ _ c.if-not-waits.ensures
    c.in_whole-result.ensures
    (shown_along g.I.Items.model g.P.Parser.grammar _ _ _ _ c.loop-index.invariant.kept c.parse-answer.ensures.shown)

pub returns-then-not-waits-clause-whole : goal.returns-then-not-waits-clause-whole
returns-then-not-waits-clause-whole g c =
    agrees g.I.Items.model g.met.I.Items.lawful _ _ _ (g.P.Parser.grammar (g.P.Parser.state c.args.parser)).meaning c.args.whole c.args.cuts.now _ _
    (g.met.P.StreamParser.pinned _ c.requires.sound) (returns-then-not-waits-clause-grown g c)

pub loop-index-preserved : goal.loop-index-preserved
loop-index-preserved g c = record {
  kept = c.parse-answer.ensures.kept ∙ c.loop-index.invariant.kept;
  waited = below_more _ _ c.loop-index.invariant.waited
      (waits g.I.Items.model g.met.I.Items.lawful (g.P.Parser.grammar (g.P.Parser.state c.args.parser)).IsOutput
      (g.P.Parser.grammar (g.P.Parser.state c.args.parser)).meaning (g.met.P.Parser.lawful _ c.requires.sound) c.args.whole _ _ _ c.take-beginning.ensures
      c.if-not-waits.ensures
      (shown_along g.I.Items.model g.P.Parser.grammar _ _ _ _ c.loop-index.invariant.kept c.parse-answer.ensures.shown));
}

pub returns-clause-grown : goal.returns-clause-grown
returns-clause-grown g c =
    grown_whole g.I.Items.model _ (g.P.Parser.grammar (g.P.Parser.state c.args.parser)).meaning
    (g.met.P.Parser.lawful _ c.requires.sound) c.args.whole c.known.ensures c.args.cuts.now _ (λ k h. c.loop-index.invariant.waited k (omega arith)) _
    refl
    (shown_along g.I.Items.model g.P.Parser.grammar _ _ _ _ c.loop-index.invariant.kept c.parse-result.ensures.shown)

pub returns-clause-whole : goal.returns-clause-whole
returns-clause-whole g c =
    agrees g.I.Items.model g.met.I.Items.lawful _ _ _ (g.P.Parser.grammar (g.P.Parser.state c.args.parser)).meaning c.args.whole c.args.cuts.now _ _
    (g.met.P.StreamParser.pinned _ c.requires.sound) (returns-clause-grown g c)

pub returns-then-not-waits-clause-failures : goal.returns-then-not-waits-clause-failures
returns-then-not-waits-clause-failures g c cause s i k never a = (g.met.P.Parser.lawful _ c.requires.sound).never_fails cause never s i k a

pub returns-clause-failures : goal.returns-clause-failures
returns-clause-failures g c cause s i k never a = (g.met.P.Parser.lawful _ c.requires.sound).never_fails cause never s i k a
