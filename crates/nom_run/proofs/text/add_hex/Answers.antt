use Rattle.nom_run.proofs.Hex.{hex-step}
use Rattle.nom_run.proofs.text.add_hex.Goals as goal

pub loop-byte-preserved : goal.loop-byte-preserved
loop-byte-preserved g c = hex-step _ _ _ c.args.bytes.now c.loop-byte.byte-index c.loop-byte-test.true c.loop-byte.invariant c.in_ok-add_byte.ensures
