use Rattle.std.proofs.Common.{◌∙◌, ap}
use Rattle.nom_internal.specs.Prelude.{text_model, text_lawful}
use Rattle.nom.specs.Moving.{always_fitting, moved, rest_moving}
use Rattle.example_parts.specs.Nestings.{depth_after, depths}
use Rattle.example_parts.proofs.Passed.{passed}
use Rattle.example_parts.proofs.nested.NestedInput.take_from.Goals as goal

pub returns : goal.returns
returns c =
    let q = c.take_from-text.ensures in
    let items = passed text_model text_lawful c.args.self.now.text c.args.index c.take-front.result c.take_from-text.result c.take-front.ensures q in
    rest_moving depths text_model (always_fitting _ _) c.args.self.now _ c.args.index tt q
    (c.depth_past-depth.ensures ∙ ap (moved depth_after c.args.self.now.depth) items)
