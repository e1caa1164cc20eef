use Rattle.nom_calls.specs.ByteCuts.{byte_cuts_below}
use Rattle.nom_run.proofs.Reported.{on_ok}
use Rattle.nom_messages_run.proofs.Reported.{reported_messages}
use Rattle.nom_messages_run.proofs.report.text_of.Goals as goal

pub messages-grown-requires : goal.messages-grown-requires
messages-grown-requires g c = byte_cuts_below c.args.bytes c.args.cuts.now c.requires

pub returns : goal.returns
returns g c =
    on_ok _ _ c.tell.result (λ r t. reported_messages c.args.bytes c.args.cuts.now c.messages-grown.result.index _
    c.beginning_len-beginning.ensures.at_cut c.beginning_len-beginning.ensures.at_end c.known.ensures c.messages-grown.result.result _ _
    c.messages-grown.ensures.1 c.messages-grown.ensures.2 t) c.tell.ensures
