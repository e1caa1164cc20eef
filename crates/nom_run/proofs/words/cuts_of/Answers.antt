use Rattle.std.proofs.Common.{◌≡◌, ◌+◌, ◌-◌, ◌∙◌, ap, arith, inl, [], map, length, sym, subst, slice_index_or}
use Rattle.std.proofs.lemmas.Grind.{common_steps}
use Rattle.std.proofs.lemmas.List.{length-map}
use Rattle.nom_run.specs.Words.{IsDecimalSize, word_number}
use Rattle.nom_run.proofs.Numbers.{one_more_number, starts_with_numbers, word-is}
use Rattle.nom_run.proofs.words.cuts_of.Goals as goal

pub returns-in-None-clause-error : goal.returns-in-None-clause-error
returns-in-None-clause-error g c =
    let ws = map g.T.Word.spelled c.args.words.now in
    let i = c.loop-word.word-index in
    let text : c.text.result.now ≡ slice_index_or ws i [] = c.text.ensures ∙ (ap g.T.Word.spelled c.word-item.is
    ∙ sym (word-is g.T.Word.spelled c.args.words.now i _ c.loop-word-test.true)) in
    record {
      place = i;
      within = omega (arith, c.loop-word-test.true, length-map c.args.words.now g.T.Word.spelled);
      bad = inl (λ d. c.in-None.ensures (subst IsDecimalSize (sym text) d));
    }

pub returns-in-Err-clause-error : goal.returns-in-Err-clause-error
returns-in-Err-clause-error g c =
    let ws = map g.T.Word.spelled c.args.words.now in
    let i = c.loop-word.word-index in
    let n = c.loop-word.invariant in
    let text : c.text.result.now ≡ slice_index_or ws i [] = c.text.ensures ∙ (ap g.T.Word.spelled c.word-item.is
    ∙ sym (word-is g.T.Word.spelled c.args.words.now i _ c.loop-word-test.true)) in
    starts_with_numbers ws c.loop-word.cuts.items i c.loop-word.floor c.in-Some.cut n.lengths n.each n.ordered n.last
    (subst (λ w. IsDecimalSize w × (c.in-Some.cut ≡ word_number w)) text c.in-Some.ensures) c.if-cut-floor.false
    (omega (arith, c.loop-word-test.true, length-map c.args.words.now g.T.Word.spelled))

pub loop-word-preserved : goal.loop-word-preserved
loop-word-preserved g c =
    let ws = map g.T.Word.spelled c.args.words.now in
    let i = c.loop-word.word-index in
    let n = c.loop-word.invariant in
    let text : c.text.result.now ≡ slice_index_or ws i [] = c.text.ensures ∙ (ap g.T.Word.spelled c.word-item.is
    ∙ sym (word-is g.T.Word.spelled c.args.words.now i _ c.loop-word-test.true)) in
    let more = one_more_number ws c.loop-word.cuts.items i c.loop-word.floor c.in-Some.cut n.lengths n.each n.ordered n.last
    (subst (λ w. IsDecimalSize w × (c.in-Some.cut ≡ word_number w)) text c.in-Some.ensures) c.if-cut-floor.false c.add_cut.new.cuts.items
    c.in-Ok.ensures.added in
    let e : i + 1 - 1 ≡ i = omega arith in
    record {
      lengths = more.0;
      each = more.1;
      ordered = more.2;
      first = λ h. absurd (omega (arith, h));
      last = λ h. rw e more.3;
    }
