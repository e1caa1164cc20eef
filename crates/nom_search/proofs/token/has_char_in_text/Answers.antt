use Rattle.std.proofs.Common.{sym, ◌∙◌, ap}
use Rattle.std.specs.Prelude.{◌≡◌, ◌==◌, chars}
use Rattle.std.specs.List.{list_any}
use Rattle.std.proofs.lemmas.Bool.{ltb-true}
use Rattle.nom_search.proofs.Tokens.{contained, containing, ascii_in_text}
use Rattle.nom_search.proofs.token.has_char_in_text.Goals as goal

pub returns-then-is_ascii : goal.returns-then-is_ascii
returns-then-is_ascii c =
    let token = c.args.token in
    let same : c.any_byte_is.result ≡ list_any (λ x. x == token) (chars c.args.text.now) =
    c.any_byte_is.ensures ∙ (ap (list_any (λ x. x == token)) c.as_bytes.ensures.value ∙
    ascii_in_text token (ltb-true token 128 (sym c.is_ascii.ensures ∙ c.if-is_ascii.true)) c.args.text.now c.utf8.text) in (
      λ h. contained (chars c.args.text.now) token (sym same ∙ h),
      λ h. same ∙ containing (chars c.args.text.now) token h,
    )

pub returns-else-is_ascii : goal.returns-else-is_ascii
returns-else-is_ascii c = (
  λ h. contained (chars c.args.text.now) c.args.token (sym c.any_char_is.ensures ∙ h),
  λ h. c.any_char_is.ensures ∙ containing (chars c.args.text.now) c.args.token h,
)
