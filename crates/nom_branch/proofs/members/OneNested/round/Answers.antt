use Rattle.std.specs.Prelude.{Some, refl}
use Rattle.nom_branch.specs.Members.Choice.{NoChoice}
use Rattle.nom_branch.specs.Rounds.{SlotHolds}
use Rattle.nom_branch.proofs.Places.{holds_same, member_step}
use Rattle.nom_branch.proofs.members.OneNested.round.Goals as goal

pub returns-clause-shown : goal.returns-clause-shown
returns-clause-shown g c t h =
    let outputs = g.OM.Output.Mode.BUILDS in
    let state = g.A.Parser.state c.args.self.now.member in
    let o = (g.A.Parser.grammar state).IsOutput in
    let before = c.args.slots.now in
    let after = c.try_slot.new.slot in
    member_step g.I.Items.model o g.A.Error.ParseError.errors.joined g.A.Error.ParseError.errors.grows (g.A.Parser.grammar state).meaning (λ v. Some v)
    outputs g.OM.Error.Mode.BUILDS g.OM.Incomplete.IsStreaming.STREAMING c.args.input t (λ u. SlotHolds outputs o u before) (λ u. SlotHolds outputs o u after)
    before after (λ e u k. holds_same outputs o u before after e k) (λ v k l. k) NoChoice t _ _ h (refl, h) c.try_slot.ensures.shown
