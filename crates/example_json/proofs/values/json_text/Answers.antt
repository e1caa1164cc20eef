use Rattle.example_json.proofs.DescribedTexts.{decides}
use Rattle.example_json.proofs.values.json_text.Goals as goal

pub returns-clause-decided : goal.returns-clause-decided
returns-clause-decided g = decides _ _ g.known.ensures _ g.whole.ensures
