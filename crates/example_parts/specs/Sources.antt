-- The model of a text with the name of its file: the text's, with the name as its mark.
use Rattle.std.specs.Prelude.{ℕ, List}
use Rattle.nom_internal.specs.Prelude.{Model, text_model}
use Rattle.nom.specs.Wrapped.{wrapped_model}
use Rattle.example_parts.specs.declared.source.Source.{Source}

-- the characters of the file's name
abbrev pub name : Source → List ℕ
name s = s.file.now

abbrev pub source_model : Model Source ℕ
source_model = wrapped_model (λ s. s.text) name text_model
