use Rattle.std.proofs.Common.{arith, refl}
use Rattle.nom_bits.proofs.Positions.{too_few, none_more, passed}
use Rattle.nom_bits.proofs.field.following.Goals as goal
use Rattle.nom_bits.proofs.field.following.Goals.{else-end-gt0-via-then-end-gt0+else-input_len-eq0, else-end-gt0-via-else-end-gt0}

pub returns-then-input_len-eq0 : goal.returns-then-input_len-eq0
returns-then-input_len-eq0 g c =
    none_more g.I.Items.model g.met.I.Items.lawful c.args.start.0 c.args.start.1 c.args.count c.in-Some.rest c.requires.some c.in-Some.ensures
    c.if-end-gt0.true (omega (arith, c.input_len.ensures, c.if-input_len-eq0.true))

pub returns-else-end-gt0 : goal.returns-else-end-gt0
returns-else-end-gt0 g c = (
  passed g.I.Items.model g.met.I.Items.lawful g.met.I.Items.values c.args.start.0 c.args.start.1 c.args.count c.in-Some.rest c.known.ensures
      c.in-Some.ensures
      (λ h e. elim c.else-end-gt0.branch [
        | else-end-gt0-via-then-end-gt0+else-input_len-eq0 w ↦ w.if-input_len-eq0.false (omega (arith, w.input_len.ensures, e))
        | else-end-gt0-via-else-end-gt0 w ↦ omega (arith, w.if-end-gt0.false, h)
      ]),
  record { none = λ e. absurd (omega (arith, c.requires.some, e)); bytes = λ h. c.in-Some.ensures; bit = λ h. refl },
)

pub returns-in-None : goal.returns-in-None
returns-in-None g c = too_few g.I.Items.model g.met.I.Items.lawful c.args.start.0 c.args.start.1 c.args.count c.requires.some c.in-None.ensures
