use Rattle.std.proofs.Common.{◌∙◌, ap}
use Rattle.nom_stream.specs.Items.{ParsesItem}
use Rattle.nom_messages_run.proofs.MessageParts.{message_by_parts}
use Rattle.nom_messages_run.proofs.messages.MessagesItemParser.item.Goals as goal

pub returns-clause-parses : goal.returns-clause-parses
returns-clause-parses c =
    let list = ap (λ p. p.parser) c.length_value.ensures.parser ∙ (c.all_consuming-body.ensures ∙ c.alt.ensures) in
    let ping = ap (λ l. l.parsers.0.parser.first.tag.now) list ∙
    (ap (λ p. p.first.tag.now) c.map.ensures.parser ∙ (ap (λ p. p.tag.now) c.pair-number.ensures.first ∙ ap (λ t. t.now) c.tag.ensures)) in
    let number = ap (λ l. l.parsers.0.parser.second.endian) list ∙
    (ap (λ p. p.second.endian) c.map.ensures.parser ∙ (ap (λ p. p.endian) c.pair-number.ensures.second ∙ c.be_u32.ensures)) in
    let text = ap (λ l. l.parsers.1.parser.first.tag.now) list ∙
    (ap (λ p. p.first.tag.now) c.map-2.ensures.parser ∙ (ap (λ p. p.tag.now) c.preceded-string.ensures.first ∙ ap (λ t. t.now) c.tag-2.ensures)) in
    let close = ap (λ l. l.parsers.2.parser.tag.now) list ∙ (ap (λ p. p.tag.now) c.map-3.ensures.parser ∙ ap (λ t. t.now) c.tag-leave.ensures) in
    let length = ap (λ p. p.endian) c.length_value.ensures.length ∙ c.be_u16.ensures in
    message_by_parts (λ h. ParsesItem h c.args.more c.args.input c.parse_item.result) _ _ _ _ _ ping text close length number
    c.parse_item.ensures.parses
