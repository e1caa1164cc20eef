use Rattle.nom_run.proofs.Reported.{on_ok}
use Rattle.nom_records_run.proofs.Reported.{reported_records}
use Rattle.nom_records_run.proofs.report.text_of.Goals as goal

pub returns : goal.returns
returns g c =
    on_ok _ _ c.tell.result (λ r t. reported_records c.args.bytes c.args.cuts.now c.grown_records-grown.result.index _
    c.beginning_len-beginning.ensures.at_cut c.beginning_len-beginning.ensures.at_end c.known.ensures c.grown_records-grown.result.result _
    _ c.grown_records-grown.ensures t) c.tell.ensures
