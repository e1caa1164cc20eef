use Rattle.std.proofs.Common.{arith, ap, length, subst, sym, ◌∙◌}
use Rattle.nom_traits.specs.Rests.{items_len-append}
use Rattle.nom_traits.specs.Input.{items_len, input_len}
use Rattle.nom_search.specs.Reads.{bytes_length}
use Rattle.nom_located.specs.Located.{FitsPlace, located, place}
use Rattle.nom_located.specs.laws.LocatedLaws.{located_fitting, place_after}
use Rattle.nom_located.specs.laws.MovingLaws.{fits_front, fits_rest, rest_moving}
use Rattle.nom_located.proofs.located.LocatedInput.take_from.Goals as goal

pub line_after-line-requires : goal.line_after-line-requires
line_after-line-requires g c =
    let w = g.I.Items.model in
    let fitting = located_fitting w g.I.ByteItems.read g.met.I.ByteItems.reading in
    let fits = fits_front (located (λ x. x.fragment) (λ x. place x.offset x.line x.column) (λ x. x.extra) g.I.ByteItems.read) w fitting c.args.self.now
    c.args.index
    c.take-front.result c.args.self.now.fits c.take-front.ensures in
    let size = ap length c.as_bytes.ensures ∙ bytes_length w g.I.AsBytes.bytes g.I.ByteItems.read g.met.I.ByteItems.reading c.take-front.result
    (c.take-front.ensures).known in
    subst (λ n. FitsPlace (place c.args.self.now.offset c.args.self.now.line c.args.self.now.column) n) (sym size) fits

pub overflow_add-result : goal.overflow_add-result
overflow_add-result g c =
    let q = c.take_from-fragment.ensures in
    let whole = ap (items_len g.I.Items.model.item_len) q.whole ∙ items_len-append g.I.Items.model.item_len q.front
    (g.I.Items.model.elements c.take_from-fragment.result) in
    omega (arith, whole, q.length_is, c.args.self.now.fits.fits)

pub invariant_of-result : goal.invariant_of-result
invariant_of-result g c =
    let w = g.I.Items.model in
    let read = g.I.ByteItems.read in
    let reading = g.met.I.ByteItems.reading in
    let q = c.take_from-fragment.ensures in
    let fitting = located_fitting w read reading in
    let there = place_after w read reading (λ x. x.fragment) (λ x. place x.offset x.line x.column) (λ x. x.extra) g.met.I.Items.lawful c.args.self.now
    c.args.index
    c.take-front.result c.take_from-fragment.result c.as_bytes.result.now c.line_after-line.result.0 c.line_after-line.result.1
    c.take-front.ensures q c.as_bytes.ensures c.line_after-line.ensures in
    let fits = fits_rest (located (λ x. x.fragment) (λ x. place x.offset x.line x.column) (λ x. x.extra) g.I.ByteItems.read) w fitting c.args.self.now
    c.args.index
    c.take_from-fragment.result c.args.self.now.fits q in
    record { fits = subst (λ p. FitsPlace p.0 (input_len w c.take_from-fragment.result)) (sym there) fits }

pub returns : goal.returns
returns g c =
    let w = g.I.Items.model in
    let read = g.I.ByteItems.read in
    let reading = g.met.I.ByteItems.reading in
    let q = c.take_from-fragment.ensures in
    let fitting = located_fitting w read reading in
    let there = place_after w read reading (λ x. x.fragment) (λ x. place x.offset x.line x.column) (λ x. x.extra) g.met.I.Items.lawful c.args.self.now
    c.args.index
    c.take-front.result c.take_from-fragment.result c.as_bytes.result.now c.line_after-line.result.0 c.line_after-line.result.1
    c.take-front.ensures q c.as_bytes.ensures c.line_after-line.ensures in
    rest_moving (located (λ x. x.fragment) (λ x. place x.offset x.line x.column) (λ x. x.extra) g.I.ByteItems.read) w fitting c.args.self.now _ c.args.index
    c.args.self.now.fits q there
