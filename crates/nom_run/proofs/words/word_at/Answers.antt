use Rattle.std.proofs.Common.{◌∙◌, ap, string_bytes, sym}
use Rattle.nom_run.proofs.Numbers.{word-is}
use Rattle.nom_run.proofs.words.word_at.Goals as goal

pub returns : goal.returns
returns c = c.as_str.ensures.value ∙ (ap string_bytes c.index-words-place.is ∙ sym (word-is string_bytes c.args.words.now c.args.place _ c.requires))
