use Rattle.std.proofs.Common.{rules, ◌≤◌, length, arith}
use Rattle.nom_traits.proofs.RestCuts.{text_cut, text_longer, text_within}
use Rattle.nom_traits.proofs.rests.RefStrCutRest.cut_rest.Goals as goal

pub returns-then-rest-whole : goal.returns-then-rest-whole
returns-then-rest-whole c = text_longer c.args.self c.args.left c.known.ensures c.known-2.ensures c.if-rest-whole.true

pub take_from-requires : goal.take_from-requires
take_from-requires c =
    let h : length c.args.left.now ≤ length c.args.self.now = omega (arith, c.if-rest-whole.false) in
    (text_cut c.args.self c.args.left c.known.ensures c.known-2.ensures h ((c.if-is_char_boundary.ensures.test).0 (search rules))).place

pub returns-then-is_char_boundary : goal.returns-then-is_char_boundary
returns-then-is_char_boundary c =
    let h : length c.args.left.now ≤ length c.args.self.now = omega (arith, c.if-rest-whole.false) in (
      _,
      text_cut c.args.self c.args.left c.known.ensures c.known-2.ensures h ((c.if-is_char_boundary.ensures.test).0 (search rules)),
      c.take_from.ensures,
    )

pub returns-else-is_char_boundary : goal.returns-else-is_char_boundary
returns-else-is_char_boundary c =
    text_within c.args.self c.args.left c.known.ensures c.known-2.ensures (λ p. let t = (c.if-is_char_boundary.ensures.test).1 p in search rules)
