use Rattle.std.proofs.Common.{rules, sym, ◌∙◌, refl, inl, inr, arith}
use Rattle.nom_internal.proofs.Shown.{accepted, undecided, refused, built_error}
use Rattle.example_parts.specs.Letters.{letter_place}
use Rattle.example_parts.proofs.letters.LetterParser.process.Goals as goal

pub returns-then-not-is_alpha-clause-shown : goal.returns-then-not-is_alpha-clause-shown
returns-then-not-is_alpha-clause-shown g c =
    refused c.refusal.ensures (inl (record { byte = c.in-Some.byte; begins = c.in-Some.ensures; is_other = sym c.is_alpha.ensures ∙ c.if-not-is_alpha.true }))

pub take_from-rest-requires : goal.take_from-rest-requires
take_from-rest-requires g c = letter_place g.I.Items.model _ _ _ c.item_len.ensures c.in-Some.ensures

pub returns-else-not-is_alpha-clause-shown : goal.returns-else-not-is_alpha-clause-shown
returns-else-not-is_alpha-clause-shown g c =
    accepted c.in-Some.byte c.take_from-rest.ensures (c.item_len.ensures, sym c.is_alpha.ensures ∙ c.if-not-is_alpha.false, c.in-Some.ensures)
    (built_error _ _ _ _ (λ v h. search rules) c.bind.ensures)

pub returns-in-None-clause-shown : goal.returns-in-None-clause-shown
returns-in-None-clause-shown g c =
    undecided (c.new.ensures.some (omega arith)) (sym c.STREAMING.ensures ∙ c.if-STREAMING.true, (c.in-None.ensures, refl))

pub returns-in-None-2-clause-shown : goal.returns-in-None-2-clause-shown
returns-in-None-2-clause-shown g c =
    refused c.refusal-in-None-2.ensures (inr (sym c.STREAMING.ensures ∙ c.if-STREAMING.false, c.in-None-2.ensures))
