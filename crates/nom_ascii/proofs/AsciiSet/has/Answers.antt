use Rattle.nom_ascii.proofs.Bits.{half_holds, high_half, low_half, none_beyond}
use Rattle.std.proofs.Common.{ap, ◌∙◌, ◌%◌}
use Rattle.std.specs.Int.{bit_at}
use Rattle.nom_ascii.proofs.AsciiSet.has.Goals as goal
use Rattle.nom_ascii.proofs.AsciiSet.has.Goals.{then-code-lt64, else-code-lt64}

pub returns-then-code-ge128 : goal.returns-then-code-ge128
returns-then-code-ge128 c = none_beyond c.args.self c.args.code c.if-code-ge128.true

pub returns : goal.returns
returns c =
    let code = c.args.code in
    half_holds c.args.self c.if-code-lt64.half code c.if-code-ge128.false (elim c.if-code-lt64.branch [
      | then-code-lt64 w ↦ ap (λ h. bit_at h (code % 64)) w.half-is ∙ low_half c.args.self.mask code w.if-code-lt64.true
      | else-code-lt64 w ↦ ap (λ h. bit_at h (code % 64)) w.half-is ∙ high_half c.args.self.mask code w.if-code-lt64.false c.if-code-ge128.false
    ])
