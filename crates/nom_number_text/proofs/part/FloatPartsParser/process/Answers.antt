use Rattle.nom_internal.proofs.Shown.{output_err, output_ok}
use Rattle.nom_number_text.specs.Parts.{IsParts, IsRaw}
use Rattle.nom_number_text.proofs.PartShown.{some_built, none_built}
use Rattle.nom_number_text.proofs.part.FloatPartsParser.process.Goals as goal

pub returns-in_err-rest-clause-shown : goal.returns-in_err-rest-clause-shown
returns-in_err-rest-clause-shown g c = output_err c.in_err-rest.ensures c.from_residual.ensures

pub returns-in-Some-clause-shown : goal.returns-in-Some-clause-shown
returns-in-Some-clause-shown g c =
    output_ok c.in_ok-rest.ensures
    (λ t. some_built (IsRaw g.I.Items.model t) (IsParts g.I.Items.model g.I.Item.Value.code t) _ _ _ _ c.in-Some.is (c.parts.ensures t))

pub returns-in-None-clause-shown : goal.returns-in-None-clause-shown
returns-in-None-clause-shown g c =
    output_ok c.in_ok-rest.ensures (λ t. none_built (IsRaw g.I.Items.model t) (IsParts g.I.Items.model g.I.Item.Value.code t) _ _ c.in-None.is)
