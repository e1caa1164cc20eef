-- Settings of a file.
use Rattle.std.specs.Prelude.{codes}
use Rattle.nom_internal.specs.Prelude.{Errors}
use Rattle.nom.specs.Words.{Kit, Word, is_not_of, separated_pair_of, tag_of, text_kit}
use Rattle.example_parts.specs.declared.source.Source.{Source}
use Rattle.example_parts.specs.Sources.{source_model}

-- what a source is in proofs: a text with a label
abbrev pub sources_with : {E : Type 0} → Errors Source E → Kit Source E
sources_with = text_kit source_model

-- a name and a value with a `=` between them, neither of them empty; the value ends with its line
abbrev pub setting_of : {E : Type 0} → Word Source (Source × Source) E
setting_of = separated_pair_of (is_not_of (codes "=")) (tag_of (codes "=")) (is_not_of (codes "\n"))
