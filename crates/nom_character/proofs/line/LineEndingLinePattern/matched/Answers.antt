use Rattle.std.proofs.Common.{arith}
use Rattle.nom_character.proofs.LineMatching.{is_code, other_code, newline_first, line_ending_shown}
use Rattle.nom_character.proofs.line.LineEndingLinePattern.matched.Goals as goal

pub returns-in-Some : goal.returns-in-Some
returns-in-Some g c = newline_first g.I.Items.model g.met.I.Items.lawful g.I.Item.Value.code g.S.IsStreaming.STREAMING c.args.input c.after.result
    c.in-Some.item c.in-Some.ensures c.after.ensures (is_code _ _ 10 c.as_char.ensures c.if-as_char-eq10.true)

pub returns-in-Some-2 : goal.returns-in-Some-2
returns-in-Some-2 g c =
    line_ending_shown g.I.Items.model g.met.I.Items.lawful g.I.Item.Value.code g.S.IsStreaming.STREAMING c.args.input c.after-in-Some-2.result
    c.in-Some.item c.in-Some.ensures c.after-in-Some-2.ensures _ (c.new.ensures.some (omega arith)) c.newline_at.result c.newline_at.ensures
    (other_code _ _ 10 c.as_char.ensures c.if-as_char-eq10.false) (is_code _ _ 13 c.as_char-in-Some-1.ensures c.if-as_char-eq13.true)
