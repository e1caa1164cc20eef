use Rattle.std.proofs.Common.{◌∙◌, ap}
use Rattle.nom_stream.specs.Items.{ParsesItem}
use Rattle.nom_stream.proofs.LineParts.{line_by_parts}
use Rattle.nom_stream.proofs.lines.LinesItemParser.item.Goals as goal

pub returns-clause-parses : goal.returns-clause-parses
returns-clause-parses c =
    let set = ap (λ p. p.first.parser.predicate.list.now) c.map.ensures.parser ∙ (ap (λ p. p.parser.predicate.list.now) c.terminated.ensures.first
    ∙ (ap (λ p. p.predicate.list.now) c.opt-inside.ensures ∙ ap (λ l. l.now) c.is_not.ensures.predicate)) in
    let kind = ap (λ p. p.first.parser.kind) c.map.ensures.parser ∙ (ap (λ p. p.parser.kind) c.terminated.ensures.first
    ∙ (ap (λ p. p.kind) c.opt-inside.ensures ∙ c.is_not.ensures.kind)) in
    let text = ap (λ p. p.second.parser.tag.now) c.map.ensures.parser ∙ (ap (λ p. p.parser.tag.now) c.terminated.ensures.second
    ∙ (ap (λ p. p.tag.now) c.opt-end.ensures ∙ ap (λ t. t.now) c.tag.ensures)) in
    line_by_parts (λ h. ParsesItem h c.args.more c.args.input c.parse_item.result) _ _ _ set text kind c.parse_item.ensures.parses
