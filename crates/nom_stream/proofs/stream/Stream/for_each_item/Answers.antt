use Rattle.std.proofs.Common.{arith, ◌≡◌, ◌∙◌, Some, None, Ok, Err, inl, inr, of_calls, refl, subst}
use Rattle.nom_stream.specs.Streams.{Decides}
use Rattle.nom_stream.proofs.Turns.{none_given, one_given}
use Rattle.nom_stream.proofs.stream.Stream.for_each_item.Goals as goal

pub loop-turn-init : goal.loop-turn-init
loop-turn-init g c = record { callable = c.requires.callable; kept = refl; given = none_given _ _ _ _ _ }

pub returns-in-Ok-None-clause-items : goal.returns-in-Ok-None-clause-items
returns-in-Ok-None-clause-items g c =
    let i = c.loop-turn.invariant in
    let d = subst (λ z. Decides g.R.Read.remaining (g.G.ItemParser.grammar z) c.loop-turn.self c.next_item.new.self (Ok None)) i.kept
    (subst (λ f. Decides g.R.Read.remaining (g.G.ItemParser.grammar (g.G.ItemParser.state c.loop-turn.grammar)) c.loop-turn.self c.next_item.new.self (Ok f))
    c.in-Ok-None.field-0-is c.in-Ok-None.ensures.decides) in
    (c.loop-turn.self, c.loop-turn.f, c.loop-turn.turn, i.given, (refl, inl d))

pub returns-in-Err-clause-items : goal.returns-in-Err-clause-items
returns-in-Err-clause-items g c =
    let i = c.loop-turn.invariant in
    let d = subst (λ z. Decides g.R.Read.remaining (g.G.ItemParser.grammar z) c.loop-turn.self c.next_item.new.self (Err c.in-Err.stop)) i.kept
    c.in-Err.ensures.decides in
    (c.loop-turn.self, c.loop-turn.f, c.loop-turn.turn, i.given, d)

pub returns-clause-items : goal.returns-clause-items
returns-clause-items g c =
    let i = c.loop-turn.invariant in
    let all : c.loop-turn.turn ≡ 18446744073709551615 = omega (arith, c.loop-turn-test.false) in
    (c.loop-turn.self, c.loop-turn.f, c.loop-turn.turn, i.given, (omega (arith, all), inr (refl, all)))

pub loop-turn-preserved : goal.loop-turn-preserved
loop-turn-preserved g c =
    let i = c.loop-turn.invariant in
    let d = subst (λ z. Decides g.R.Read.remaining (g.G.ItemParser.grammar z) c.loop-turn.self c.next_item.new.self
    (Ok (Some (c.in-Ok-Some._used, c.in-Ok-Some.item)))) i.kept
    (subst (λ f. Decides g.R.Read.remaining (g.G.ItemParser.grammar (g.G.ItemParser.state c.loop-turn.grammar)) c.loop-turn.self c.next_item.new.self (Ok f))
    c.in-Ok-Some.field-0-is c.in-Ok-Some.ensures.decides) in
    record {
      callable = search of_calls;
      kept = c.in-Ok-Some.ensures.kept ∙ i.kept;
      given = one_given _ _ _ _ _ _ _ _ _ _ _ _ i.given d c.f.ensures;
    }
