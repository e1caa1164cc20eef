use Rattle.std.proofs.Common.{ℕ, arith}
use Rattle.std.proofs.lemmas.List.{length-take, length-drop}
use Rattle.nom_stream.proofs.Buffer.{consumed}
use Rattle.nom_stream.proofs.held.Held.consume.Goals as goal

pub returns-clause-others : goal.returns-clause-others
returns-clause-others g c =
    let h = c.args.self.now in
    consumed h.bytes.items h.start h.end c.args.count (omega (arith, length-take {A = ℕ}, length-drop {A = ℕ}))
