use Rattle.std.proofs.Common.{◌≡◌, refl, sym, ◌∙◌, nat_eq, arith}
use Rattle.nom_error.specs.declared.kind.ErrorKind.TheVariants as Kind
use Rattle.nom_internal.specs.Prelude.{bits_model, leaf_meaning}
use Rattle.nom_internal.proofs.Cased.{labelled_shown}
use Rattle.nom_internal.proofs.Shown.{accepted, undecided, refused}
use Rattle.nom_bits.specs.Fields.{fields}
use Rattle.nom_bits.proofs.Shown.{split_field}
use Rattle.nom_bits.proofs.leaf.BoolParserTuple2Usize.process.Goals as goal

pub returns-in-Some-clause-shown : goal.returns-in-Some-clause-shown
returns-in-Some-clause-shown g c =
    labelled_shown (bits_model g.I.Items.model) (λ n. nat_eq n 1) (λ n v. v ≡ nat_eq n 1) (λ t v. v ≡ t) (λ n v h. h)
    (leaf_meaning (λ i. g.E.ParseError.errors.of_kind i Kind.Eof) g.E.ParseError.errors.grows (fields g.I.Items.model 1)) _ _ _
    (accepted c.spelling-number.result c.in-Some.ensures.rest_is (refl, split_field g.I.Items.model c.in-Some.ensures c.spelling-number.ensures.number)
    c.built.ensures)

pub returns-in-None-clause-shown : goal.returns-in-None-clause-shown
returns-in-None-clause-shown g c =
    labelled_shown (bits_model g.I.Items.model) (λ n. nat_eq n 1) (λ n v. v ≡ nat_eq n 1) (λ t v. v ≡ t) (λ n v h. h)
    (leaf_meaning (λ i. g.E.ParseError.errors.of_kind i Kind.Eof) g.E.ParseError.errors.grows (fields g.I.Items.model 1)) _ _ _
    (undecided (c.new.ensures.some (omega arith)) (sym c.STREAMING.ensures ∙ c.if-STREAMING.true, (c.in-None.ensures, refl)))

pub returns-in-None-2-clause-shown : goal.returns-in-None-2-clause-shown
returns-in-None-2-clause-shown g c =
    labelled_shown (bits_model g.I.Items.model) (λ n. nat_eq n 1) (λ n v. v ≡ nat_eq n 1) (λ t v. v ≡ t) (λ n v h. h)
    (leaf_meaning (λ i. g.E.ParseError.errors.of_kind i Kind.Eof) g.E.ParseError.errors.grows (fields g.I.Items.model 1)) _ _ _
    (refused c.refusal.ensures (sym c.STREAMING.ensures ∙ c.if-STREAMING.false, c.in-None-2.ensures))
