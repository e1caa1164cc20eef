use Rattle.std.specs.Prelude.{◌≡◌, Ok, Err, refl}
use Rattle.std.proofs.Common.{arith, sym, ◌∙◌, subst, suc}
use Rattle.nom_internal.specs.Prelude.{modes}
use Rattle.nom_branch.specs.Members.{AllRun, tried}
use Rattle.nom_branch.specs.Rounds.{HasTried, FlatOutput}
use Rattle.nom_branch.proofs.Places.{flat_built}
use Rattle.nom_branch.proofs.Turns.{ShowsRounds, IsRound, round_over, rounds_over, round_applies, rounds_more, rounds_end}
use Rattle.nom_branch.proofs.rounds.rounds.Given as given
use Rattle.nom_branch.proofs.rounds.rounds.Goals as goal
use Rattle.nom_branch.proofs.rounds.rounds.Goals.{After-round}

-- a round, of the members as they were at first
round_at : (g : given.Over) (c : After-round g) → IsRound g.I.Items.model g.N.Error.ParseError.errors
    (g.N.Nested.members (g.N.Nested.state c.args.members.now)) (FlatOutput (g.N.Nested.AreOutputs (g.N.Nested.state c.args.members.now)) g.N.Outputs.Flat.pairs)
    g.OM.Output.Mode.BUILDS g.OM.Error.Mode.BUILDS g.OM.Incomplete.IsStreaming.STREAMING c.loop-slots.rest
    (λ u. g.N.Nested.AreHeld g.OM.Output.Mode.BUILDS (g.N.Nested.state c.args.members.now) u c.round.new.slots)
    c.loop-slots.invariant.reached.0 c.round.result
round_at g c =
    let i = c.loop-slots.invariant in
    let e = g.N.Error.ParseError.errors in
    let builds = g.OM.Output.Mode.BUILDS in
    let mode = modes builds g.OM.Error.Mode.BUILDS g.OM.Incomplete.IsStreaming.STREAMING in
    record {
      shown = subst (λ z. (t : g.N.Nested.Tree) → g.N.Nested.AreHeld builds z t c.loop-slots.slots → HasTried g.I.Items.model mode c.loop-slots.rest
          (λ u. g.N.Nested.AreHeld builds z u c.round.new.slots) t (tried e.joined e.grows (g.N.Nested.members z) t) c.round.result)
          i.kept c.round.ensures.shown i.reached.0 i.reached.1;
    }

pub loop-slots-init : goal.loop-slots-init
loop-slots-init g c =
    let st = g.N.Nested.state c.args.members.now in
    record {
      kept = refl;
      known = c.known.ensures;
      reached = (
        g.N.Nested.none,
        c.slots-slots.ensures.held g.OM.Output.Mode.BUILDS st,
        λ r h. subst (λ z. ShowsRounds g.I.Items.model g.N.Error.ParseError.errors (g.N.Nested.members st)
            (FlatOutput (g.N.Nested.AreOutputs st) g.N.Outputs.Flat.pairs) g.OM.Output.Mode.BUILDS g.OM.Error.Mode.BUILDS
            g.OM.Incomplete.IsStreaming.STREAMING z g.N.Nested.none c.args.input r) (c.slots-slots.ensures.all st) h,
      );
    }

pub round-requires : goal.round-requires
round-requires g c = subst (λ z. AllRun (g.N.Nested.members z)) (sym c.loop-slots.invariant.kept) c.requires

pub returns-in-None-clause-shown : goal.returns-in-None-clause-shown
returns-in-None-clause-shown g c =
    let i = c.loop-slots.invariant in
    let round = round_at g (goal.at.returns-in-None-clause-shown g c).After-round in
    let over = round_over round c.in-None.is in
    let are = g.N.Nested.AreOutputs (g.N.Nested.state c.args.members.now) i.reached.0 in
    i.reached.2 _ (rounds_over round g.met.I.Items.lawful (g.N.Nested.waiting c.loop-slots.slots) i.known over.0
    (flat_built _ are (λ o. are (g.N.Outputs.Flat.pairs o)) g.N.Outputs.Flat.flatten c.outputs.result c.made_flat.result
    (λ v k. subst are (sym (g.met.N.Outputs.Flat.same v)) k) (c.outputs.ensures _ _ _ over.1 over.0) c.made_flat.ensures.some c.made_flat.ensures.none))

pub loop-slots-preserved : goal.loop-slots-preserved
loop-slots-preserved g c =
    let i = c.loop-slots.invariant in
    let round = round_at g (goal.at.loop-slots-preserved g c).After-round in
    let one = round_applies round c.in-Some.is c.close.ensures c.in-Ok.is in
    let fewer : g.N.Nested.waiting c.loop-slots.slots ≡ suc (g.N.Nested.waiting c.round.new.slots) = omega (arith, c.round.ensures.counted, one) in
    let more = rounds_more round c.in-Some.is c.close.ensures g.met.I.Items.lawful c.in-Ok.is fewer in
    record {
      kept = c.round.ensures.kept ∙ i.kept;
      known = more.0;
      reached = (more.1, more.2, λ r k. i.reached.2 r (more.3 r k));
    }

pub returns-in-Err-clause-shown : goal.returns-in-Err-clause-shown
returns-in-Err-clause-shown g c =
    let i = c.loop-slots.invariant in
    i.reached.2 _ (rounds_end (round_at g (goal.at.returns-in-Err-clause-shown g c).After-round) c.in-Some.is c.close.ensures g.met.I.Items.lawful _
    c.in-Err.is (g.met.N.Nested.over _ _ _ _ i.reached.1))

pub loop-slots-smaller : goal.loop-slots-smaller
loop-slots-smaller g c =
    let one = round_applies (round_at g (goal.at.loop-slots-smaller g c).After-round) c.in-Some.is c.close.ensures c.in-Ok.is in
    omega (arith, c.round.ensures.counted, one)

pub returns-in-None-clause-kept : goal.returns-in-None-clause-kept
returns-in-None-clause-kept g c = c.round.ensures.kept ∙ c.loop-slots.invariant.kept

pub returns-in-Err-clause-kept : goal.returns-in-Err-clause-kept
returns-in-Err-clause-kept g c = c.round.ensures.kept ∙ c.loop-slots.invariant.kept
