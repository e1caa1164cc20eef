use Rattle.nom_traits.proofs.TextRuns.{text_position}
use Rattle.nom_traits.proofs.text.text_outside.Goals as goal

pub returns : goal.returns
returns c = text_position c.args.set c.args.text c.as_bytes.result c.bytes_outside.result c.requires c.as_bytes.ensures.value c.known.ensures.0
    c.bytes_outside.ensures
