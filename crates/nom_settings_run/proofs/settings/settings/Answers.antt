use Rattle.std.proofs.Common.{false, ◌∙◌, ap}
use Rattle.nom.specs.grammars.Grammar.{Parses}
use Rattle.nom_settings_run.proofs.Written.{by_its_parts}
use Rattle.nom_settings_run.proofs.settings.settings.Goals as goal

pub returns : goal.returns
returns g c =
    let w = g.I.Items.model in
    let section = ap (λ p. p.parser.parser) c.complete-whole.ensures ∙ (ap (λ p. p.parser) c.all_consuming.ensures ∙ c.many0-2.ensures.parser) in
    let header = ap (λ p. p.first) section ∙ c.pair-section.ensures.first in
    let opens = ap (λ p. p.first.wanted) header ∙ (ap (λ p. p.wanted) c.preceded-header.ensures.first ∙ c.char-open.ensures) in
    let title = ap (λ p. p.second.parser) header ∙ (ap (λ p. p.parser) c.preceded-header.ensures.second ∙ c.cut.ensures) in
    let set = ap (λ p. p.first.predicate.list.now) title ∙ (ap (λ p. p.predicate.list.now) c.terminated-title.ensures.first
    ∙ ap (λ l. l.now) c.is_not.ensures.predicate) in
    let kind = ap (λ p. p.first.kind) title ∙ (ap (λ p. p.kind) c.terminated-title.ensures.first ∙ c.is_not.ensures.kind) in
    let closes = ap (λ p. p.second.first.wanted) title ∙ (ap (λ p. p.first.wanted) c.terminated-title.ensures.second
    ∙ (ap (λ p. p.wanted) c.pair.ensures.first ∙ c.char-3.ensures)) in
    let end = ap (λ p. p.second.second) title ∙ (ap (λ p. p.second) c.terminated-title.ensures.second ∙ c.pair.ensures.second) in
    let cr = ap (λ p. p.first.parser.wanted) end ∙ (ap (λ p. p.parser.wanted) c.pair-end_of_header.ensures.first
    ∙ (ap (λ p. p.wanted) c.opt.ensures ∙ c.char.ensures)) in
    let lf = ap (λ p. p.second.wanted) end ∙ (ap (λ p. p.wanted) c.pair-end_of_header.ensures.second ∙ c.char-2.ensures) in
    let setting = ap (λ p. p.second.parser) section ∙ (ap (λ p. p.parser) c.pair-section.ensures.second ∙ c.many0.ensures.parser) in
    let name = ap (λ p. p.first.predicate.list.now) setting ∙ (ap (λ p. p.predicate.list.now) c.pair-setting.ensures.first
    ∙ ap (λ l. l.now) c.is_not-2.ensures.predicate) in
    let name_kind = ap (λ p. p.first.kind) setting ∙ (ap (λ p. p.kind) c.pair-setting.ensures.first ∙ c.is_not-2.ensures.kind) in
    let after = ap (λ p. p.second.parser) setting ∙ (ap (λ p. p.parser) c.pair-setting.ensures.second ∙ c.cut-2.ensures) in
    let sign = ap (λ p. p.first.wanted) after ∙ (ap (λ p. p.wanted) c.preceded.ensures.first ∙ c.char-6.ensures) in
    let value = ap (λ p. p.second) after ∙ c.preceded.ensures.second in
    let last = ap (λ p. p.second) value ∙ c.terminated-value.ensures.second in
    let cr₂ = ap (λ p. p.first.parser.wanted) last ∙ (ap (λ p. p.parser.wanted) c.pair-2.ensures.first
    ∙ (ap (λ p. p.wanted) c.opt-2.ensures ∙ c.char-4.ensures)) in
    let lf₂ = ap (λ p. p.second.wanted) last ∙ (ap (λ p. p.wanted) c.pair-2.ensures.second ∙ c.char-5.ensures) in
    by_its_parts w (λ h. Parses w h false c.args.input c.parse_complete.result) _ _ _ _ _ _ _ _ _ _ _ opens closes sign cr lf cr₂
    lf₂ set name kind name_kind c.parse_complete.ensures.shown
