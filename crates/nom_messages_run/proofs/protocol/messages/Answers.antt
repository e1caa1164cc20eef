use Rattle.std.proofs.Common.{◌∙◌, ap}
use Rattle.nom_internal.specs.Prelude.{bytes_model}
use Rattle.nom_calls.specs.Growing.{IsGrown}
use Rattle.nom_internal.specs.Promises.{HasNoFailure}
use Rattle.nom_messages_run.proofs.WrittenMessages.{by_its_parts, of_whole}
use Rattle.nom_messages_run.proofs.protocol.messages.Goals as goal

pub returns : goal.returns
returns g c =
    let list = ap (λ p. p.parser.parser.parser) c.terminated-stream.ensures.first ∙
    (ap (λ p. p.parser.parser) c.many0.ensures.parser ∙
    (ap (λ p. p.parser) c.length_value-message.ensures.parser ∙ (c.all_consuming-body.ensures ∙ c.alt.ensures))) in
    let ping = ap (λ l. l.parsers.0.parser.first.tag.now) list ∙
    (ap (λ p. p.first.tag.now) c.map.ensures.parser ∙ (ap (λ p. p.tag.now) c.pair-number.ensures.first ∙ ap (λ t. t.now) c.tag.ensures)) in
    let number = ap (λ l. l.parsers.0.parser.second.endian) list ∙
    (ap (λ p. p.second.endian) c.map.ensures.parser ∙ (ap (λ p. p.endian) c.pair-number.ensures.second ∙ c.be_u32.ensures)) in
    let text = ap (λ l. l.parsers.1.parser.first.tag.now) list ∙
    (ap (λ p. p.first.tag.now) c.map-2.ensures.parser ∙
    (ap (λ p. p.tag.now) c.preceded-string.ensures.first ∙ ap (λ t. t.now) c.tag-2.ensures)) in
    let close = ap (λ l. l.parsers.2.parser.tag.now) list ∙ (ap (λ p. p.tag.now) c.map-3.ensures.parser ∙ ap (λ t. t.now) c.tag-leave.ensures) in
    let length = ap (λ p. p.parser.length.endian) c.terminated-stream.ensures.first ∙
    (ap (λ p. p.length.endian) c.many0.ensures.parser ∙ (ap (λ p. p.endian) c.length_value-message.ensures.length ∙ c.be_u16.ensures)) in
    let end = ap (λ p. p.tag.now) c.terminated-stream.ensures.second ∙ ap (λ t. t.now) c.tag-end.ensures in
    let bytes = c.args.bytes in
    let cuts = c.args.cuts.now in
    let index = c.parse_growing.result.index in
    let answer = c.parse_growing.result.result in
    let both = by_its_parts (λ h. IsGrown bytes_model h.IsOutput h.meaning bytes cuts index answer × HasNoFailure bytes_model h.meaning) _ _ _ _
    _ _ ping text close end length number (c.parse_growing.ensures.grown, c.parse_growing.ensures.failures) in
    (of_whole _ _ bytes cuts index c.known.ensures answer both (search), both.0, both.1)
