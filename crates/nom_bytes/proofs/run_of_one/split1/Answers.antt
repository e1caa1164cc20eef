use Rattle.std.proofs.Common.{refl, inr}
use Rattle.nom_traits.proofs.Splitting.{run_empty}
use Rattle.nom_bytes.proofs.run_of_one.split1.Goals as goal

pub returns-in-Some : goal.returns-in-Some
returns-in-Some g c =
    inr (refl, run_empty _ _ _ _ _ g.met.I.Items.lawful c.in-Some.n c.in-Some.ensures c.if-n-eq0.true, c.refusal.ensures)
