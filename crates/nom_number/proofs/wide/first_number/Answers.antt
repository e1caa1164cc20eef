use Rattle.std.proofs.Common.{◌<◌, ◌*◌, ◌^◌, sym, ◌∙◌, ap, subst, arith}
use Rattle.nom_internal.specs.Prelude.{front_seen}
use Rattle.nom_internal.proofs.Shown.{some_built}
use Rattle.nom_number.specs.Numbers.{binary_number}
use Rattle.nom_number.proofs.Bytes.{taken_count}
use Rattle.nom_number.proofs.wide.first_number.Goals as goal

pub number-requires : goal.number-requires
number-requires g c = omega (arith, taken_count g.I.Items.model g.met.I.Items.lawful _ _ _ c.take.result c.requires c.take.ensures, g.met.F.Layout.short)

pub from_bits-requires : goal.from_bits-requires
from_bits-requires g c =
    subst (λ m. c.number.result < 2 ^ (8 * m)) (taken_count g.I.Items.model g.met.I.Items.lawful _ _ _ c.take.result c.requires c.take.ensures)
    c.number.ensures.bits

pub returns-then-BUILDS : goal.returns-then-BUILDS
returns-then-BUILDS g c = λ t h.
    let items = (front_seen g.I.Items.model g.met.I.Items.lawful _ _ c.take.result t c.take.ensures h).elements_are in
    some_built _ _ _ (sym c.BUILDS.ensures ∙ c.if-BUILDS.true)
    (c.from_bits.ensures ∙ ap g.F.Layout.of_bits (c.number.ensures.value ∙ ap (binary_number c.args.endian) items))
