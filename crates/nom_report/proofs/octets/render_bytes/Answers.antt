use Rattle.std.proofs.Common.{◌≡◌, ◌++◌, ◌∙◌, ap, codes, decimal, map, string_bytes}
use Rattle.nom_report.specs.Around.{around}
use Rattle.nom_report.specs.Kept.{kept}
use Rattle.nom_report.specs.Left.{slice_place}
use Rattle.nom_report.specs.Named.{named}
use Rattle.nom_report.specs.Octets.{octets_contexts, octets_quote, offset_in}
use Rattle.nom_report.specs.Rendered.{more_text, name_text}
use Rattle.nom_report.specs.Words.{all_expected_text}
use Rattle.nom_report.proofs.Whole.{seven}
use Rattle.nom_report.proofs.octets.render_bytes.Goals as goal

pub returns : goal.returns
returns g c =
    let error = c.args.error.now in
    let source = c.args.source.now in
    let start = slice_place c.args.source in
    let wanted = (kept error.expected).wanted in
    let at = offset_in source start (slice_place error.at) in
    let offset : c.offset_of-offset.result ≡ at =
    c.offset_of-offset.ensures.value ∙ (ap (λ k. offset_in source k c.place.result) c.place-start.ensures
    ∙ ap (λ k. offset_in source start k) (c.place.ensures ∙ ap slice_place c.at-at.ensures)) in
    let first : string_bytes c.add_all_expected.new.out ≡ string_bytes c.args.out.now ++ all_expected_text wanted error.expected.more =
    c.in_ok-add_all_expected.ensures ∙ (ap (λ its. string_bytes c.args.out.now ++ all_expected_text its c.has_more_expected.result) c.expected.ensures
    ∙ ap (λ m. string_bytes c.args.out.now ++ all_expected_text wanted m) c.has_more_expected.ensures) in
    let third : string_bytes c.add_number.new.out ≡ string_bytes c.add_name.new.out ++ decimal at =
    c.in_ok-_digits.ensures.bytes ∙ ap (λ k. string_bytes c.add_name.new.out ++ decimal k) offset in
    let fifth : string_bytes c.add_octets_quote.new.out ≡ string_bytes c.add_end.new.out ++ octets_quote source at =
    c.in_ok-add_octets_quote.ensures ∙ ap (λ k. string_bytes c.add_end.new.out ++ octets_quote source k) offset in
    let sixth : string_bytes c.add_octets_contexts.new.out ≡ string_bytes c.add_octets_quote.new.out ++ octets_contexts source start (around error.inside) =
    c.in_ok-add_octets_contexts.ensures ∙ (ap (λ k. string_bytes c.add_octets_quote.new.out ++ octets_contexts source k (map named c.inside.result.now))
    c.place-start.ensures
    ∙ ap (λ cs. string_bytes c.add_octets_quote.new.out ++ octets_contexts source start cs) c.inside.ensures) in
    let last : string_bytes c.add_more.new.out ≡ string_bytes c.add_octets_contexts.new.out ++ more_text error.inside.more =
    c.in_ok-add_more.ensures.added ∙ ap (λ m. string_bytes c.add_octets_contexts.new.out ++ more_text m) c.has_more_inside.ensures in
    seven (string_bytes c.args.out.now) (string_bytes c.add_all_expected.new.out) (string_bytes c.add_name.new.out) (string_bytes c.add_number.new.out)
    (string_bytes c.add_end.new.out) (string_bytes c.add_octets_quote.new.out) (string_bytes c.add_octets_contexts.new.out) (string_bytes c.add_more.new.out)
    (all_expected_text wanted error.expected.more) (name_text c.args.name.now) (decimal at) (codes "\n") (octets_quote source at)
    (octets_contexts source start (around error.inside)) (more_text error.inside.more)
    first c.in_ok-add_name.ensures.added third c.in_ok-add_end.ensures.added fifth sixth last
