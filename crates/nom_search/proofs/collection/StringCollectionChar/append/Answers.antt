use Rattle.std.specs.Prelude.{chars, string_bytes}
use Rattle.std.proofs.Common.{◌∙◌, ap}
use Rattle.std.proofs.lemmas.Str.{IsUtf8-string_bytes}
use Rattle.nom_search.proofs.CollectedText.{character_appended}
use Rattle.nom_search.proofs.collection.StringCollectionChar.append.Goals as goal

pub returns-in-Ok-clause-items : goal.returns-in-Ok-clause-items
returns-in-Ok-clause-items g c = ap chars c.in-Ok.ensures.bytes ∙
    character_appended (string_bytes c.args.self.now) c.args.character (IsUtf8-string_bytes c.args.self.now) c.ranges.character.0
