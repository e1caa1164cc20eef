use Rattle.std.proofs.Common.{None}
use Rattle.nom_internal.specs.Prelude.{text_model}
use Rattle.nom.specs.Wrapped.{counts_wrapped}
use Rattle.example_parts.specs.Sources.{name}
use Rattle.example_parts.proofs.source.SourceInput.slice_index.Goals as goal

pub returns : goal.returns
returns c = counts_wrapped (λ s. s.text) name text_model c.args.self.now c.args.count (λ _ _. None) c.slice_index.result c.slice_index.ensures
