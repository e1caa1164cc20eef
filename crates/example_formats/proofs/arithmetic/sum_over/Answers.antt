use Rattle.std.proofs.Common.{ap, ◌∙◌, subst, sym}
use Rattle.nom_internal.specs.Prelude.{text_model}
use Rattle.nom_calls.specs.Func.{TakesAll}
use Rattle.nom_operators.specs.Groups.{groups_left}
use Rattle.example_formats.specs.Arithmetic.{Applies, Parses, func_of, minus_of, none_of, operand_by, operator_of, sum_by, view}
use Rattle.example_formats.proofs.Folds.{stands_by}
use Rattle.example_formats.proofs.Functions.{parses_by}
use Rattle.example_formats.proofs.Parts.{sum_by_parts}
use Rattle.example_formats.proofs.arithmetic.sum_over.Goals as goal

pub parse_complete-requires : goal.parse_complete-requires
parse_complete-requires g c =
    let brackets = ap (λ o. o.parsers.0) c.precedence.ensures.operand ∙ ap (λ l. l.parsers.0) c.alt-operand.ensures in
    let inside = ap (λ b. b.second.first.parser.f) brackets ∙ (ap (λ p. p.parser.f) c.delimited-brackets.ensures.second ∙
    (ap (λ p. p.f) c.cut.ensures ∙ c.func.ensures)) in
    let part = subst (λ f. TakesAll text_model (goal.F-pre g f)) (sym inside) c.requires in
    record { runs = ((λ i k. tt), ((tt, (part, tt)), (λ i k. tt)), tt, (λ i k. tt), λ x. tt) }

pub returns : goal.returns
returns g c =
    let brackets = ap (λ o. o.parsers.0) c.precedence.ensures.operand ∙ ap (λ l. l.parsers.0) c.alt-operand.ensures in
    let opens = ap (λ b. b.first.wanted) brackets ∙ (ap (λ p. p.wanted) c.delimited-brackets.ensures.first ∙ c.char.ensures) in
    let inside = ap (λ b. b.second.first.parser.f) brackets ∙ (ap (λ p. p.parser.f) c.delimited-brackets.ensures.second ∙
    (ap (λ p. p.f) c.cut.ensures ∙ c.func.ensures)) in
    let closes = ap (λ b. b.second.second.parser.wanted) brackets ∙ (ap (λ p. p.parser.wanted) c.delimited-brackets.ensures.third ∙
    (ap (λ p. p.wanted) c.cut-2.ensures ∙ c.char-2.ensures)) in
    let parser = c.precedence.result in
    let brackets_at = parser.operand.parsers.0 in
    let f = brackets_at.second.first.parser.f in
    let g₁ = sum_by parser.levels.now brackets_at.first.wanted brackets_at.second.second.parser.wanted (func_of view (goal.F-pre g f) (goal.F-post g f)) in
    sum_by_parts (goal.F-pre g) (goal.F-post g) (λ s. Parses s c.args.input c.parse_complete.result) (ap (λ l. l.now) c.precedence.ensures.levels) opens
    closes inside (parses_by g₁ c.parse_complete.ensures.shown (λ t o h. stands_by minus_of.IsOutput
    (operand_by brackets_at.first.wanted brackets_at.second.second.parser.wanted (func_of view (goal.F-pre g f) (goal.F-post g f))).IsOutput
    none_of.IsOutput operator_of.IsOutput _ Applies (λ x y k. k.1) (groups_left parser.levels.now) t.0 t.1 o h) (λ o h. h) (λ e h. h) (λ h. h))
