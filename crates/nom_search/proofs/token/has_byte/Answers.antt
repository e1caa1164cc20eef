use Rattle.std.proofs.Common.{sym, ◌∙◌}
use Rattle.nom_search.proofs.Tokens.{byte_contained, byte_containing}
use Rattle.nom_search.proofs.token.has_byte.Goals as goal

pub returns : goal.returns
returns c = (
  λ h. byte_contained c.args.bytes.now c.args.token c.first_place.result c.first_place.ensures (sym c.is_some.ensures ∙ h),
  λ h. c.is_some.ensures ∙ byte_containing c.args.bytes.now c.args.token c.first_place.result c.first_place.ensures h,
)
