use Rattle.nom_number_text.proofs.WordShown.{IsFound}
use Rattle.nom_number_text.proofs.word.word_at.Given as goal

abbrev pub invariant-loop-k : goal.invariant-loop-k
invariant-loop-k g l = IsFound g.I.Items.model g.I.Item.Value.code l.fn.word l.fn.input l.k l.rest
