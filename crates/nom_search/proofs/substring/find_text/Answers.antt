use Rattle.std.proofs.Common.{rules}
use Rattle.nom_search.proofs.TextPlaces.{text_found}
use Rattle.nom_search.proofs.substring.find_text.Goals as goal

pub returns : goal.returns
returns c = let h = c.find_bytes.ensures in text_found c.args.text.now c.args.needle.now c.utf8.text c.utf8.needle c.find_bytes.result (search rules)
