use Rattle.std.proofs.Common.{◌≡◌, ◌++◌, ◌-◌, ◌∙◌, ap, codes, refl, string_bytes, subst}
use Rattle.nom_report.specs.Kept.{kept}
use Rattle.nom_report.specs.Quotes.{IsCut}
use Rattle.nom_report.specs.Rendered.{TellsContexts, more_text, name_text}
use Rattle.nom_report.specs.Words.{all_expected_text}
use Rattle.nom_report.proofs.Whole.{seven}
use Rattle.nom_report.proofs.text.render_from.Goals as goal

pub returns : goal.returns
returns g c =
    let place = g.I.Placed.place in
    let error = c.args.error.now in
    let wanted = (kept error.expected).wanted in
    let at = c.in_ok-add_place.ensures in
    let quote = c.in_ok-add_quote.ensures in
    let contexts = c.in_ok-add_contexts.ensures in
    let offset : c.saturating_sub.result ≡ place error.at - c.args.start =
    c.saturating_sub.ensures ∙ ap (λ p. p - c.args.start) (c.place.ensures ∙ ap place c.at-at.ensures) in
    let first : string_bytes c.add_all_expected.new.out ≡ string_bytes c.args.out.now ++ all_expected_text wanted error.expected.more =
    c.in_ok-add_all_expected.ensures ∙ (ap (λ its. string_bytes c.args.out.now ++ all_expected_text its c.has_more_expected.result) c.expected.ensures
    ∙ ap (λ m. string_bytes c.args.out.now ++ all_expected_text wanted m) c.has_more_expected.ensures) in
    let last : string_bytes c.add_more.new.out ≡ string_bytes c.add_contexts.new.out ++ more_text error.inside.more =
    c.in_ok-add_more.ensures.added ∙ ap (λ m. string_bytes c.add_contexts.new.out ++ more_text m) c.has_more_inside.ensures in (
      all_expected_text wanted error.expected.more ++ name_text c.args.name.now ++ at.0 ++ codes "\n" ++ quote.0 ++ contexts.0 ++ more_text error.inside.more,
      record {
        before = c.cut.result.0.now;
        after = c.cut.result.1.now;
        cut_is = subst (λ k. IsCut c.args.source.now k c.cut.result.0.now c.cut.result.1.now) offset c.cut.ensures;
        at = at.0;
        at_is = at.1;
        quote = quote.0;
        quote_is = quote.1;
        contexts = contexts.0;
        contexts_are = subst (λ cs. TellsContexts c.args.source.now c.args.start cs contexts.0) c.inside.ensures contexts.1;
        text_is = refl;
      },
      seven (string_bytes c.args.out.now) (string_bytes c.add_all_expected.new.out) (string_bytes c.add_name.new.out) (string_bytes c.add_place.new.out)
          (string_bytes c.add_end.new.out) (string_bytes c.add_quote.new.out) (string_bytes c.add_contexts.new.out) (string_bytes c.add_more.new.out)
          (all_expected_text wanted error.expected.more) (name_text c.args.name.now) at.0 (codes "\n") quote.0 contexts.0 (more_text error.inside.more)
          first c.in_ok-add_name.ensures.added at.2 c.in_ok-add_end.ensures.added quote.2 contexts.2 last,
    )
