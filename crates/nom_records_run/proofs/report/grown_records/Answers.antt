use Rattle.std.proofs.Common.{◌∙◌, ap}
use Rattle.nom_internal.specs.Prelude.{bytes_model}
use Rattle.nom_internal.specs.Promises.{HasNoFailure}
use Rattle.nom_calls.specs.ByteCuts.{byte_cuts_below}
use Rattle.nom_calls.specs.Growing.{IsGrown}
use Rattle.nom_records_run.proofs.Reported.{by_its_tags}
use Rattle.nom_records_run.proofs.report.grown_records.Goals as goal

pub parse_growing-requires-clause-cuts : goal.parse_growing-requires-clause-cuts
parse_growing-requires-clause-cuts g c = byte_cuts_below c.args.bytes c.args.cuts.now c.requires

pub returns : goal.returns
returns g c =
    let begins = ap (λ p. p.parser.first.tag.now) c.terminated-records.ensures.first ∙
    (ap (λ p. p.first.tag.now) c.many0.ensures.parser ∙ (ap (λ p. p.tag.now) c.preceded-record.ensures.first ∙ ap (λ t. t.now) c.tag.ensures)) in
    let ends = ap (λ p. p.tag.now) c.terminated-records.ensures.second ∙ ap (λ t. t.now) c.tag-2.ensures in
    let grown = c.parse_growing.result in
    by_its_tags (λ h. IsGrown bytes_model h.IsOutput h.meaning c.args.bytes c.args.cuts.now grown.index grown.result × HasNoFailure bytes_model h.meaning)
    _ _ begins ends (c.parse_growing.ensures.grown, c.parse_growing.ensures.failures)
