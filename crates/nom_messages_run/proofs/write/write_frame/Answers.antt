use Rattle.nom_messages_run.proofs.Framed.{not_framed}
use Rattle.nom_messages_run.proofs.write.write_frame.Goals as goal

pub returns-clause-error : goal.returns-clause-error
returns-clause-error g c =
    not_framed c.length_data-frame.result.parser.endian c.args.body c.args.outgoing.now c.write_item.new.self g.W.Write.contents
    c.write_item.result c.write_item.ensures.adds
