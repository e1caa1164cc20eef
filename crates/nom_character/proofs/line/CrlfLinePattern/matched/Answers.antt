use Rattle.std.proofs.Common.{arith}
use Rattle.nom_character.proofs.LineMatching.{is_code, crlf_shown}
use Rattle.nom_character.proofs.line.CrlfLinePattern.matched.Goals as goal

pub returns-in-Some : goal.returns-in-Some
returns-in-Some g c =
    crlf_shown g.I.Items.model g.met.I.Items.lawful g.I.Item.Value.code g.S.IsStreaming.STREAMING c.args.input c.after.result c.in-Some.item
    c.in-Some.ensures c.after.ensures _ (c.new.ensures.some (omega arith)) c.newline_at.result c.newline_at.ensures
    (is_code _ _ 13 c.as_char.ensures c.if-as_char-eq13.true)
