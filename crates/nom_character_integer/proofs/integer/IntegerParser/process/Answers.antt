use Rattle.std.proofs.Common.{◌≡◌, false, rules, refl, sym, ◌∙◌, inl, inr}
use Rattle.nom_internal.specs.Prelude.{modes}
use Rattle.nom_internal.proofs.Shown.{undecided, refused}
use Rattle.nom_character_integer.proofs.Shown.{unfit, integer_fits, digits_place, unfollowed, ended, no_digits, integer_shown}
use Rattle.nom_character_integer.proofs.integer.IntegerParser.process.Goals.{then-not-this+else-STREAMING, else-not-this}
use Rattle.nom_character_integer.proofs.integer.IntegerParser.process.Goals as goal

pub take_from-requires : goal.take_from-requires
take_from-requires g c = digits_place g.I.Items.model g.met.I.Items.lawful g.I.Item.Value.code c.args.self.now.signed g.T.Number.value g.T.Number.fits
    c.args.input c.after_sign-after.result c.after_sign-after.ensures c.in-Some.number c.in-Some.ensures

pub returns-in-None-clause-shown : goal.returns-in-None-clause-shown
returns-in-None-clause-shown g c =
    refused c.refusal.ensures (inl
    (unfit g.I.Items.model g.met.I.Items.lawful g.I.Item.Value.code c.args.self.now.signed g.T.Number.value g.T.Number.fits c.args.input
    c.after_sign-after.result c.after_sign-after.ensures c.in-None.ensures))

pub returns-in-Some-clause-shown : goal.returns-in-Some-clause-shown
returns-in-Some-clause-shown g c =
    let fits = integer_fits g.I.Items.model g.met.I.Items.lawful g.I.Item.Value.code c.args.self.now.signed g.T.Number.value g.T.Number.fits c.args.input
    c.after_sign-after.result c.after_sign-after.ensures c.in-Some.number c.in-Some.ensures in
    let none = unfollowed g.I.Items.model g.met.I.Items.lawful g.I.Item.Value.code c.args.self.now.signed g.T.Number.value g.T.Number.fits c.args.input
    c.after_sign-after.result c.after_sign-after.ensures c.in-Some.number c.in-Some.ensures (search rules) in
    undecided refl (sym c.STREAMING.ensures ∙ c.if-STREAMING.true, (fits, none, c.new.ensures.some (search rules)))

pub returns-in-Some-2-clause-shown : goal.returns-in-Some-2-clause-shown
returns-in-Some-2-clause-shown g c =
    let only : c.in-Some.number.followed ≡ false → g.OM.Incomplete.IsStreaming.STREAMING ≡ false =
    λ e. elim c.if-not-this.branch [
      | then-not-this+else-STREAMING w ↦ sym w.STREAMING.ensures ∙ w.if-STREAMING.false
      | else-not-this w ↦ let n =
          w.if-not-this.false in search rules
    ] in
    let none = no_digits g.I.Items.model g.met.I.Items.lawful g.I.Item.Value.code c.args.self.now.signed g.T.Number.value g.T.Number.fits c.args.input
    c.after_sign-after.result c.after_sign-after.ensures c.in-Some.number c.in-Some.ensures c.if-this-eq0.true in
    let closed = ended g.I.Items.model g.met.I.Items.lawful g.I.Item.Value.code c.args.self.now.signed g.T.Number.value g.T.Number.fits c.args.input
    c.after_sign-after.result c.after_sign-after.ensures c.in-Some.number c.in-Some.ensures g.OM.Incomplete.IsStreaming.STREAMING only in
    refused c.refusal-in-Some-2.ensures (inr (none, closed))

pub returns-in-Some-3-clause-shown : goal.returns-in-Some-3-clause-shown
returns-in-Some-3-clause-shown g c =
    let only : c.in-Some.number.followed ≡ false → g.OM.Incomplete.IsStreaming.STREAMING ≡ false =
    λ e. elim c.if-not-this.branch [
      | then-not-this+else-STREAMING w ↦ sym w.STREAMING.ensures ∙ w.if-STREAMING.false
      | else-not-this w ↦ let n =
          w.if-not-this.false in search rules
    ] in
    integer_shown g.I.Items.model g.met.I.Items.lawful g.I.Item.Value.code c.args.self.now.signed g.T.Number.value g.T.Number.fits c.args.input
    c.after_sign-after.result c.after_sign-after.ensures c.in-Some.number c.in-Some.ensures
    (modes g.OM.Output.Mode.BUILDS g.OM.Error.Mode.BUILDS g.OM.Incomplete.IsStreaming.STREAMING) c.take_from.result c.take_from.ensures
    g.E.ParseError.errors c.built.result only c.if-this-eq0.false c.built.ensures
