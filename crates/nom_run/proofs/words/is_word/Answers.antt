use Rattle.std.proofs.Common.{◌≡◌, ◌≢◌, subst}
use Rattle.std.specs.Prelude.{MatchBool}
use Rattle.nom_run.proofs.words.is_word.Goals as goal

pub returns : goal.returns
returns c = subst (λ w. MatchBool c.is_same.result (w ≡ c.args.text.now) (w ≢ c.args.text.now)) c.word_at.ensures c.is_same.ensures
