use Rattle.std.specs.Prelude.{Some}
use Rattle.std.proofs.Common.{arith, sym, subst}
use Rattle.nom_internal.specs.Prelude.{modes}
use Rattle.nom_branch.specs.Members.Choice.{NoChoice}
use Rattle.nom_branch.specs.laws.NestedLaws.{others_run, last_runs, or_others, last_tried}
use Rattle.nom_branch.specs.Rounds.{SlotHolds, HasTried}
use Rattle.nom_branch.proofs.Places.{holds_same, member_step, tries_counted}
use Rattle.nom_branch.proofs.Wider.{others_tried}
use Rattle.nom_branch.proofs.members.MoreNested.round.Goals as goal

pub round-round-requires : goal.round-round-requires
round-round-requires g c = others_run _ _ c.requires

pub try_slot-requires : goal.try_slot-requires
try_slot-requires g c = last_runs _ _ c.requires

pub returns-clause-shown : goal.returns-clause-shown
returns-clause-shown g c t h =
    let w = g.I.Items.model in
    let i = c.args.input in
    let joins = g.M.Error.ParseError.errors.joined in
    let grows = g.M.Error.ParseError.errors.grows in
    let outputs = g.OM.Output.Mode.BUILDS in
    let errors = g.OM.Error.Mode.BUILDS in
    let s = g.OM.Incomplete.IsStreaming.STREAMING in
    let mode = modes outputs errors s in
    let others = g.M.Nested.state c.args.self.now.others in
    let last = g.A.Parser.state c.args.self.now.member in
    let o = (g.A.Parser.grammar last).IsOutput in
    let ms = g.M.Nested.members others in
    let m = (g.A.Parser.grammar last).meaning in
    let tried = c.round-round.new.slots in
    let before = c.args.slots.now.1 in
    let after = c.try_slot.new.slot in
    let held = λ (u : g.M.Nested.Tree). g.M.Nested.AreHeld outputs others u tried in
    let first = others_tried w mode i joins grows held (λ u. held u.0 × SlotHolds outputs o u.1 before) t (λ u k. (k, h.1)) ms _
    (c.round-round.ensures.shown t.0 h.0) in
    subst (λ z. HasTried w mode i (λ u. held u.0 × SlotHolds outputs o u.1 after) t z c.try_slot.result) (sym (last_tried joins grows m t NoChoice ms))
    (member_step w o joins grows m (λ v. (t.0, Some v)) outputs errors s i t (λ u. held u.0 × SlotHolds outputs o u.1 before)
    (λ u. held u.0 × SlotHolds outputs o u.1 after) before after (λ e u k. (k.0, holds_same outputs o u.1 before after e k.1)) (λ v k l. (l.0, k))
    (or_others joins grows t NoChoice ms) t.1 _ _ h.1 first c.try_slot.ensures.shown)

pub returns-clause-counted : goal.returns-clause-counted
returns-clause-counted g c =
    let last = g.A.Parser.state c.args.self.now.member in
    let counted = tries_counted g.I.Items.model (g.A.Parser.grammar last).IsOutput g.M.Error.ParseError.errors.joined g.M.Error.ParseError.errors.grows
    (g.A.Parser.grammar last).meaning g.OM.Output.Mode.BUILDS g.OM.Error.Mode.BUILDS g.OM.Incomplete.IsStreaming.STREAMING c.args.input c.try_slot.new.slot
    c.args.slots.now.1 c.round-round.result c.try_slot.result c.try_slot.ensures.shown in
    omega (arith, c.round-round.ensures.counted, counted)

pub returns-clause-kept : goal.returns-clause-kept
returns-clause-kept g c = cc (c.round-round.ensures.kept, c.try_slot.ensures.kept)
