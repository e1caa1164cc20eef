use Rattle.std.proofs.Common.{refl, sym, ◌∙◌, arith}
use Rattle.nom_internal.proofs.Shown.{accepted, undecided, refused}
use Rattle.nom_bits.proofs.Shown.{fits_width, split_within, split_field}
use Rattle.nom_bits.proofs.leaf.TakeParserTuple2Usize.process.Goals as goal

pub spelling-number-requires-clause-within : goal.spelling-number-requires-clause-within
spelling-number-requires-clause-within g c = split_within g.I.Items.model c.in-Some.ensures

pub number_built-requires : goal.number_built-requires
number_built-requires g c = fits_width _ _ _ c.spelling-number.ensures.range c.requires.runs

pub returns-in-Some-clause-shown : goal.returns-in-Some-clause-shown
returns-in-Some-clause-shown g c =
    accepted c.spelling-number.result c.in-Some.ensures.rest_is (refl, split_field g.I.Items.model c.in-Some.ensures c.spelling-number.ensures.number)
    c.number_built.ensures

pub returns-in-None-clause-shown : goal.returns-in-None-clause-shown
returns-in-None-clause-shown g c =
    undecided (c.new.ensures.some (omega (arith, c.in-None.ensures))) (sym c.STREAMING.ensures ∙ c.if-STREAMING.true, (c.in-None.ensures, refl))

pub returns-in-None-2-clause-shown : goal.returns-in-None-2-clause-shown
returns-in-None-2-clause-shown g c =
    refused c.refusal.ensures (sym c.STREAMING.ensures ∙ c.if-STREAMING.false, c.in-None-2.ensures)
