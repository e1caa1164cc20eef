use Rattle.nom_messages_run.proofs.Again.{sent_read_back}
use Rattle.nom_messages_run.proofs.ReadBack.{file_reads_back, stream_reads_back}
use Rattle.nom_messages_run.proofs.promises.sent_read_back.Goals as goal

pub returns-clause-stream : goal.returns-clause-stream
returns-clause-stream g c = stream_reads_back

pub returns-clause-file : goal.returns-clause-file
returns-clause-file g c = file_reads_back

pub returns-clause-sent : goal.returns-clause-sent
returns-clause-sent g c =
    sent_read_back _ _ _ _ _ _ c.answers_of_whole.ensures c.items_of_whole.ensures c.bytes_of_whole.ensures
