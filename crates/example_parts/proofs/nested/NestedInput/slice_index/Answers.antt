use Rattle.std.proofs.Common.{None}
use Rattle.nom_internal.specs.Prelude.{text_model}
use Rattle.nom.specs.Moving.{counts_moving}
use Rattle.example_parts.specs.Nestings.{depths}
use Rattle.example_parts.proofs.nested.NestedInput.slice_index.Goals as goal

pub returns : goal.returns
returns c = counts_moving depths text_model c.args.self.now c.args.count (λ _ _. None) c.slice_index.result c.slice_index.ensures
