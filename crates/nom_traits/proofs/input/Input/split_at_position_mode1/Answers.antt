use Rattle.std.proofs.Common.{refl, inr}
use Rattle.nom_traits.proofs.Splitting.{run_empty}
use Rattle.nom_traits.proofs.input.Input.split_at_position_mode1.Goals as goal

pub returns-in-Some : goal.returns-in-Some
returns-in-Some g c =
    inr (refl, run_empty _ _ _ _ _ g.met.Self.Items.lawful c.in-Some.n c.in-Some.ensures c.if-n-eq0.true, c.refusal.ensures)
