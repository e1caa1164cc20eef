use Rattle.std.proofs.Common.{◌≡◌, ◌+◌, ◌-◌, ap, ◌∙◌, length, slice_range, arith}
use Rattle.nom_stream.proofs.Buffer.{consumed, range_length}
use Rattle.nom_stream.specs.Held.{held_of}
use Rattle.nom_stream.proofs.held.Held.leave.Goals as goal

pub returns-clause-others : goal.returns-clause-others
returns-clause-others g c =
    let h = c.args.self.now in
    let within = c.args.self.now.within in
    let len = range_length h.bytes.items h.start h.end within.0 (omega (arith, within.1)) in
    let used = length (held_of h) - c.args.left in
    let place : h.end - c.args.left ≡ h.start + used = omega (arith, len, within.0, c.requires.left) in
    ap (λ j. slice_range h.bytes.items j h.end) place ∙ consumed h.bytes.items h.start h.end used (omega (arith, len, within.0, c.requires.left))
