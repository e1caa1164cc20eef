use Rattle.std.proofs.Common.{rules, false}
use Rattle.nom_traits.specs.Splits.{Never}
use Rattle.nom_bytes.proofs.RunShown.{split_shown}
use Rattle.nom_bytes.proofs.run.SplitPositionParser.process.Goals as goal

pub returns-clause-shown : goal.returns-clause-shown
returns-clause-shown g c =
    split_shown _ g.met.I.Items.lawful _ _ _ (λ x p. search rules)
    (λ x p. search rules) false (λ _ _. ⊥) ⊥ _ _ Never (λ e h. absurd h) c.split_at_position_mode.result c.split_at_position_mode.ensures
