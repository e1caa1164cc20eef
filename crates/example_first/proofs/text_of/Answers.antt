use Rattle.std.proofs.Common.{◌≡◌, ◌∙◌, ap, codes}
use Rattle.nom_internal.specs.Prelude.{bytes_model}
use Rattle.nom_internal.specs.Promises.{HasNoFailure}
use Rattle.nom_calls.specs.ByteCuts.{byte_cuts_below}
use Rattle.nom_calls.specs.Growing.{IsGrown}
use Rattle.nom_run.proofs.Reported.{on_ok}
use Rattle.example_first.proofs.Reported.{by_its_parts, reported_record}
use Rattle.example_first.proofs.text_of.Goals as goal

pub parse_growing-grown-requires-clause-cuts : goal.parse_growing-grown-requires-clause-cuts
parse_growing-grown-requires-clause-cuts g c = byte_cuts_below c.args.bytes c.args.cuts.now c.requires

pub returns : goal.returns
returns g c =
    let begins : c.and-record.result.first.tag.now ≡ codes "R" = ap (λ p. p.tag.now) c.and-record.ensures.first ∙ ap (λ t. t.now) c.tag.ensures in
    let count : c.and-record.result.second.count ≡ 4 = ap (λ p. p.count) c.and-record.ensures.second ∙ c.take.ensures in
    let grown = c.parse_growing-grown.result in
    let same = by_its_parts (λ h. IsGrown bytes_model h.IsOutput h.meaning c.args.bytes c.args.cuts.now grown.index grown.result
    × HasNoFailure bytes_model h.meaning) _ _ begins count (c.parse_growing-grown.ensures.grown, c.parse_growing-grown.ensures.failures) in
    on_ok _ _ c.tell.result (λ r t. reported_record c.args.bytes c.args.cuts.now grown.index _ c.beginning_len-beginning.ensures.at_cut
    c.beginning_len-beginning.ensures.at_end c.known.ensures grown.result _ _ same t) c.tell.ensures
