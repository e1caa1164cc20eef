use Rattle.nom_stream.proofs.item_parser.laws_of.Goals as goal

pub returns-clause-lawful : goal.returns-clause-lawful
returns-clause-lawful g c = g.met.P.Parser.lawful _

pub returns-clause-steady : goal.returns-clause-steady
returns-clause-steady g c = g.met.P.StreamParser.steady _
