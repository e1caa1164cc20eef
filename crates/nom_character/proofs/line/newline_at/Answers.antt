use Rattle.std.proofs.Common.{sym, ◌∙◌}
use Rattle.nom_character.proofs.LineMatching.{newline_stands, newline_absent, newline_ends, newline_begins, is_code, other_code}
use Rattle.nom_character.proofs.line.newline_at.Goals as goal

pub returns-in-Some : goal.returns-in-Some
returns-in-Some g c = newline_stands g.I.Items.model g.I.Item.Value.code g.S.IsStreaming.STREAMING _ c.args.input c.in-Some.item c.after.result
    c.in-Some.ensures c.after.ensures (is_code _ _ 10 c.as_char.ensures c.if-as_char-eq10.true)

pub returns-in-Some-2 : goal.returns-in-Some-2
returns-in-Some-2 g c = newline_absent g.I.Items.model g.I.Item.Value.code g.S.IsStreaming.STREAMING _ c.args.input c.in-Some.item c.in-Some.ensures
    (other_code _ _ 10 c.as_char.ensures c.if-as_char-eq10.false)

pub returns-in-None : goal.returns-in-None
returns-in-None g c = newline_begins g.I.Items.model g.I.Item.Value.code g.S.IsStreaming.STREAMING c.args.input c.args.lack c.in-None.ensures
    (sym c.STREAMING.ensures ∙ c.if-STREAMING.true)

pub returns-in-None-2 : goal.returns-in-None-2
returns-in-None-2 g c = newline_ends g.I.Items.model g.I.Item.Value.code g.S.IsStreaming.STREAMING _ c.args.input c.in-None-2.ensures
    (sym c.STREAMING.ensures ∙ c.if-STREAMING.false)
