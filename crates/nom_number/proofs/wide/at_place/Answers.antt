use Rattle.std.proofs.Common.{◌*◌, ◌^◌, ◌%◌, arith, ap, ◌∙◌}
use Rattle.std.proofs.lemmas.Nat.{shl_whole}
use Rattle.nom_number.proofs.wide.at_place.Goals as goal

pub returns-clause-value : goal.returns-clause-value
returns-clause-value c =
    ap (λ b. b * 2 ^ (8 * c.args.place) % 2 ^ 128) c.widened.ensures.value
    ∙ shl_whole c.args.byte 8 (8 * c.args.place) 128 c.widened.ensures.range (omega (arith, c.requires))
