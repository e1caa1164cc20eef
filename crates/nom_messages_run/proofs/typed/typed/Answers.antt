use Rattle.std.proofs.Common.{◌∙◌, ap, false}
use Rattle.nom.specs.grammars.Bytes.{Parses}
use Rattle.nom_messages_run.proofs.Lacks.{none_lacks}
use Rattle.nom_messages_run.proofs.TypedParts.{typed_by_parts}
use Rattle.nom_messages_run.proofs.typed.typed.Goals as goal

pub returns-clause-shown : goal.returns-clause-shown
returns-clause-shown c =
    let list = c.all_consuming.ensures ∙ c.alt.ensures in
    let ping = ap (λ l. l.parsers.0.parser.first.tag.now) list ∙
    (ap (λ p. p.first.tag.now) c.map.ensures.parser ∙ (ap (λ p. p.tag.now) c.pair-number.ensures.first ∙ ap (λ t. t.now) c.tag.ensures)) in
    let signed = ap (λ l. l.parsers.0.parser.second.signed) list ∙
    (ap (λ p. p.second.signed) c.map.ensures.parser ∙ (ap (λ p. p.signed) c.pair-number.ensures.second ∙ c.u32.ensures)) in
    let text = ap (λ l. l.parsers.1.parser.first.tag.now) list ∙
    (ap (λ p. p.first.tag.now) c.map-2.ensures.parser ∙ (ap (λ p. p.tag.now) c.preceded-bytes.ensures.first ∙ ap (λ t. t.now) c.tag-2.ensures)) in
    let count = ap (λ l. l.parsers.1.parser.second.count) list ∙
    (ap (λ p. p.second.count) c.map-2.ensures.parser ∙ (ap (λ p. p.count) c.preceded-bytes.ensures.second ∙
    (c.take.ensures ∙ c.saturating_sub-count.ensures))) in
    let close = ap (λ l. l.parsers.2.parser.tag.now) list ∙ (ap (λ p. p.tag.now) c.map-3.ensures.parser ∙ ap (λ t. t.now) c.tag-leave.ensures) in
    typed_by_parts (λ h. Parses h false c.args.line c.parse_complete.result) _ _ _ _ _ _ ping text close signed count c.parse_complete.ensures.shown

pub returns-clause-memory : goal.returns-clause-memory
returns-clause-memory c is = none_lacks _ c.args.line c.parse_complete.result is (returns-clause-shown c)
