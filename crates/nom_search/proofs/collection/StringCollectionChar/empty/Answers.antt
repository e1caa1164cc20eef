use Rattle.std.proofs.Common.{◌∙◌, ap, chars}
use Rattle.std.proofs.lemmas.Str.{chars-nil}
use Rattle.nom_search.proofs.collection.StringCollectionChar.empty.Goals as goal

pub returns : goal.returns
returns g c = ap chars c.new.ensures.bytes ∙ chars-nil
