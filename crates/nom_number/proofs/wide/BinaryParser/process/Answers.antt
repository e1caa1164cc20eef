use Rattle.std.proofs.Common.{◌≡◌, ◌<◌, ◌-◌, ◌∙◌, length, ap, subst, sym}
use Rattle.nom_internal.specs.Prelude.{place_first}
use Rattle.nom_internal.proofs.Shown.{accepted, undecided, refused}
use Rattle.nom_internal.proofs.Cased.{labelled_shown}
use Rattle.nom_bytes.specs.Takes.{take_meaning}
use Rattle.nom_number.specs.Numbers.{bytes_lack, lacking, binary_number}
use Rattle.nom_number.proofs.Bytes.{lacking_is}
use Rattle.nom_number.proofs.wide.BinaryParser.process.Goals as goal

pub returns-in-Ok-clause-shown : goal.returns-in-Ok-clause-shown
returns-in-Ok-clause-shown g c =
    let n = c.in-Ok.ensures in
    let first = place_first g.I.Items.model _ _ n.place in
    labelled_shown g.I.Items.model (λ t. g.F.Layout.of_bits (binary_number c.args.self.now.endian t.items))
    (λ t v. v ≡ g.F.Layout.of_bits (binary_number c.args.self.now.endian t.items)) (λ t v. v ≡ t) (λ t v k. k)
    (take_meaning g.I.Items.model g.E.ParseError.errors (bytes_lack g.I.Items.model) g.F.Layout.BYTES) _ _ _
    (accepted _ c.take_from.ensures (first, n.count_is ∙ c.BYTES.ensures) (c.first_number.ensures _ first))

pub returns-in-Err-clause-shown : goal.returns-in-Err-clause-shown
returns-in-Err-clause-shown g c =
    let fewer = subst (λ m. length (g.I.Items.model.elements c.args.input) < m) c.BYTES.ensures c.in-Err.ensures.0 in
    let lack = ap lacking (c.saturating_sub-lack.ensures ∙
    (ap (λ m. m - c.input_len.result) c.BYTES-in-Err.ensures ∙ ap (λ m. g.F.Layout.BYTES - m) c.input_len.ensures)) in
    labelled_shown g.I.Items.model (λ t. g.F.Layout.of_bits (binary_number c.args.self.now.endian t.items))
    (λ t v. v ≡ g.F.Layout.of_bits (binary_number c.args.self.now.endian t.items)) (λ t v. v ≡ t) (λ t v k. k)
    (take_meaning g.I.Items.model g.E.ParseError.errors (bytes_lack g.I.Items.model) g.F.Layout.BYTES) _ _ _
    (undecided (lacking_is _ _ c.new.ensures.none c.new.ensures.some) (sym c.STREAMING.ensures ∙ c.if-STREAMING.true, (fewer, lack)))

pub returns-in-Err-2-clause-shown : goal.returns-in-Err-2-clause-shown
returns-in-Err-2-clause-shown g c =
    let fewer = subst (λ m. length (g.I.Items.model.elements c.args.input) < m) c.BYTES.ensures c.in-Err-2.ensures.0 in
    labelled_shown g.I.Items.model (λ t. g.F.Layout.of_bits (binary_number c.args.self.now.endian t.items))
    (λ t v. v ≡ g.F.Layout.of_bits (binary_number c.args.self.now.endian t.items)) (λ t v. v ≡ t) (λ t v k. k)
    (take_meaning g.I.Items.model g.E.ParseError.errors (bytes_lack g.I.Items.model) g.F.Layout.BYTES) _ _ _
    (refused c.refusal.ensures (sym c.STREAMING.ensures ∙ c.if-STREAMING.false, fewer))
