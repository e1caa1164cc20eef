use Rattle.std.proofs.Common.{◌≡◌, sym, ◌∙◌, arith}
use Rattle.nom_internal.specs.Prelude.{place_first, value_of}
use Rattle.nom_internal.proofs.Shown.{accepted, undecided, refused, built_error}
use Rattle.nom_internal.proofs.Cased.{labelled_shown}
use Rattle.nom_bytes.specs.Takes.{take_meaning}
use Rattle.nom_number.specs.Numbers.{bytes_lack}
use Rattle.nom_number.proofs.Bytes.{value_first, some_more, lacks_one}
use Rattle.nom_number.proofs.binary.BeU8Parser.process.Goals as goal

pub first_byte-requires : goal.first_byte-requires
first_byte-requires g c = let n = c.in-Ok.ensures in some_more _ n.place.front n.place.rest n.place.whole n.count_is

pub returns-in-Ok-clause-shown : goal.returns-in-Ok-clause-shown
returns-in-Ok-clause-shown g c =
    let n = c.in-Ok.ensures in
    let first = place_first g.I.Items.model _ _ n.place in
    labelled_shown g.I.Items.model (λ t. value_of 256 t.items) (λ t v. v ≡ value_of 256 t.items) (λ t v. v ≡ t) (λ t v h. h)
    (take_meaning g.I.Items.model g.E.ParseError.errors (bytes_lack g.I.Items.model) 1) _ _ _
    (accepted _ c.take_from.ensures (first, n.count_is)
    (built_error _ _ _ _ (λ b h. value_first _ n.place.front n.place.rest b n.place.whole n.count_is h) c.first_byte.ensures))

pub returns-in-Err-clause-shown : goal.returns-in-Err-clause-shown
returns-in-Err-clause-shown g c =
    let h = c.in-Err.ensures in
    labelled_shown g.I.Items.model (λ t. value_of 256 t.items) (λ t v. v ≡ value_of 256 t.items) (λ t v. v ≡ t) (λ t v k. k)
    (take_meaning g.I.Items.model g.E.ParseError.errors (bytes_lack g.I.Items.model) 1) _ _ _
    (undecided (c.new.ensures.some (omega arith)) (sym c.STREAMING.ensures ∙ c.if-STREAMING.true, (h.0, lacks_one _ _ h.0)))

pub returns-in-Err-2-clause-shown : goal.returns-in-Err-2-clause-shown
returns-in-Err-2-clause-shown g c =
    labelled_shown g.I.Items.model (λ t. value_of 256 t.items) (λ t v. v ≡ value_of 256 t.items) (λ t v. v ≡ t) (λ t v k. k)
    (take_meaning g.I.Items.model g.E.ParseError.errors (bytes_lack g.I.Items.model) 1) _ _ _
    (refused c.refusal.ensures (sym c.STREAMING.ensures ∙ c.if-STREAMING.false, (c.in-Err-2.ensures).0))
