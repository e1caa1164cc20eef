use Rattle.std.proofs.Common.{eqb, w8, sym, ◌∙◌, arith}
use Rattle.std.proofs.lemmas.Bool.{eqb-true}
use Rattle.std.proofs.lemmas.Simd.{bitmask_splat, length-chunk, none_from_empty_mask}
use Rattle.std.specs.Simd.Lanes.{chunk}
use Rattle.nom_search.proofs.pages.line_lacks.Goals as goal

-- The mask is 0, so no lane holds the byte.
pub returns : goal.returns
returns c quiet k low high here =
    let bs = c.args.bytes.now in
    let place = c.args.place in
    let byte = c.args.byte in
    let masked = bitmask_splat w8 eqb (chunk place 64 bs) 64 byte (length-chunk place 64 bs c.requires) (omega arith) in
    let other = none_from_empty_mask (λ x. eqb x byte) bs place 64 0 c.requires (sym masked ∙ eqb-true _ _ quiet) k low high in
    absurd (cc (other, here))
