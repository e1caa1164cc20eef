use Rattle.nom_character.proofs.LineMatching.{other_code, return_stands, return_absent, return_begins}
use Rattle.nom_character.proofs.line.line_end_at.Goals as goal

pub returns-in-Full : goal.returns-in-Full
returns-in-Full g c =
    return_stands g.I.Items.model g.met.I.Items.lawful g.I.Item.Value.code g.S.IsStreaming.STREAMING c.args.input c.in-Some.item c.in-Some.ensures
    c.requires.0 c.requires.1 c.requires.2 (other_code _ _ 10 c.as_char.ensures c.if-as_char-eq10.false) c.after.result c.after.ensures
    c.newline_at.result _ c.in-Full.is c.newline_at.ensures

pub returns-in-Absent : goal.returns-in-Absent
returns-in-Absent g c =
    return_absent g.I.Items.model g.met.I.Items.lawful g.I.Item.Value.code g.S.IsStreaming.STREAMING c.args.input c.in-Some.item c.in-Some.ensures
    c.requires.0 c.requires.1 c.requires.2 (other_code _ _ 10 c.as_char.ensures c.if-as_char-eq10.false) c.after.result c.after.ensures
    c.newline_at.result c.in-Absent.is c.newline_at.ensures

pub returns-in-Partial : goal.returns-in-Partial
returns-in-Partial g c =
    return_begins g.I.Items.model g.met.I.Items.lawful g.I.Item.Value.code g.S.IsStreaming.STREAMING c.args.input c.in-Some.item c.in-Some.ensures
    c.requires.0 c.requires.1 c.requires.2 (other_code _ _ 10 c.as_char.ensures c.if-as_char-eq10.false) c.after.result c.after.ensures
    c.newline_at.result c.in-Partial.needed c.in-Partial.is c.newline_at.ensures
