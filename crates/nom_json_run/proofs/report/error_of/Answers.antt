use Rattle.std.proofs.Common.{[], ◌∷◌, ◌∙◌, ap, false, refl, sym, take, true}
use Rattle.std.specs.Prelude.{codes}
use Rattle.nom_report.specs.Wanted.{WantedChar, WantedLabel}
use Rattle.nom_json_run.specs.declared.bracket.Bracket.TheVariants.{Array, Object}
use Rattle.nom_json_run.specs.declared.bracket.Missing.TheVariants as Missing
use Rattle.nom_json_run.proofs.Wanted.{all_after, closing_wanted, either_wants, no_comma, wanted_there}
use Rattle.nom_json_run.proofs.report.error_of.Goals as goal

pub returns-then-stands_before : goal.returns-then-stands_before
returns-then-stands_before c =
    wanted_there c.args.bytes.now c.args.fault Missing.Value (WantedLabel (codes "a value") ∷ WantedChar 93 ∷ []) _ c.in-Value.is
    (closing_wanted Array (take c.args.fault.at c.args.bytes.now) (WantedLabel (codes "a value")) true (sym c.stands_before.ensures ∙ c.if-stands_before.true))
    c.either.result (
    either_wants _ (WantedLabel (codes "a value")) (WantedChar 93) c.named-value.result c.character.result c.either.result (λ e. absurd (cc (e)))
    c.named-value.ensures c.character.ensures c.either.ensures) (all_after c.args.bytes.now c.args.fault.at)

pub returns-in-Character : goal.returns-in-Character
returns-in-Character c =
    wanted_there c.args.bytes.now c.args.fault Missing.Character (WantedLabel (codes "a character") ∷ WantedChar 34 ∷ []) _ c.in-Character.is refl
    c.either-in-Character.result (
    either_wants _ (WantedLabel (codes "a character")) (WantedChar 34) c.named-in-Character.result c.character-in-Character.result
    c.either-in-Character.result (λ e. absurd (cc (e))) c.named-in-Character.ensures c.character-in-Character.ensures c.either-in-Character.ensures)
    (all_after c.args.bytes.now c.args.fault.at)

pub returns-then-stands_before-2 : goal.returns-then-stands_before-2
returns-then-stands_before-2 c =
    wanted_there c.args.bytes.now c.args.fault Missing.Name (WantedLabel (codes "a name in quotes") ∷ WantedChar 125 ∷ []) _ c.in-Name.is
    (closing_wanted Object (take c.args.fault.at c.args.bytes.now) (WantedLabel (codes "a name in quotes")) true
    (sym c.stands_before-in-Name.ensures ∙ c.if-stands_before-2.true)) c.either-then-stands_before-2.result (
    either_wants _ (WantedLabel (codes "a name in quotes")) (WantedChar 125) c.named-name.result c.character-then-stands_before-2.result
    c.either-then-stands_before-2.result (λ e. absurd (cc (e))) c.named-name.ensures c.character-then-stands_before-2.ensures
    c.either-then-stands_before-2.ensures) (all_after c.args.bytes.now c.args.fault.at)

pub returns-in-Comma : goal.returns-in-Comma
returns-in-Comma c =
    wanted_there c.args.bytes.now c.args.fault (Missing.Comma c.in-Comma.bracket) (WantedChar 44 ∷ WantedChar c.closing.result ∷ []) _ c.in-Comma.is
    (ap (λ z. WantedChar 44 ∷ WantedChar z ∷ []) c.closing.ensures) c.either-in-Comma.result (
    either_wants _ (WantedChar 44) (WantedChar c.closing.result) c.character-in-Comma.result c.character-in-Comma-2.result c.either-in-Comma.result
    (λ e. no_comma c.in-Comma.bracket (ap WantedChar (sym c.closing.ensures) ∙ e)) c.character-in-Comma.ensures c.character-in-Comma-2.ensures
    c.either-in-Comma.ensures) (all_after c.args.bytes.now c.args.fault.at)

pub returns-else-stands_before : goal.returns-else-stands_before
returns-else-stands_before c =
    wanted_there c.args.bytes.now c.args.fault Missing.Value (WantedLabel (codes "a value") ∷ []) _ c.in-Value.is
    (closing_wanted Array (take c.args.fault.at c.args.bytes.now) (WantedLabel (codes "a value")) false
    (sym c.stands_before.ensures ∙ c.if-stands_before.false))
    c.named-value.result c.named-value.ensures (all_after c.args.bytes.now c.args.fault.at)

pub returns-else-stands_before-2 : goal.returns-else-stands_before-2
returns-else-stands_before-2 c =
    wanted_there c.args.bytes.now c.args.fault Missing.Name (WantedLabel (codes "a name in quotes") ∷ []) _ c.in-Name.is
    (closing_wanted Object (take c.args.fault.at c.args.bytes.now) (WantedLabel (codes "a name in quotes")) false
    (sym c.stands_before-in-Name.ensures ∙ c.if-stands_before-2.false)) c.named-name.result c.named-name.ensures
    (all_after c.args.bytes.now c.args.fault.at)
