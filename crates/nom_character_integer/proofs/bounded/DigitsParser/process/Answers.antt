use Rattle.std.proofs.Common.{◌≡◌, ◌<◌, false, rules, arith, sym, ◌∙◌, inl, inr, subst}
use Rattle.nom_internal.specs.Prelude.{modes}
use Rattle.nom_internal.proofs.Shown.{undecided, refused}
use Rattle.nom_character_integer.specs.CountedDigits.{counted_digits}
use Rattle.nom_character_integer.specs.laws.DigitsLaws.{digits_place}
use Rattle.nom_character_integer.proofs.CountedShown.{run_below, above, ended, lacks, digits_shown}
use Rattle.nom_character_integer.proofs.bounded.DigitsParser.process.Goals.{then-not-this+else-STREAMING, else-not-this}
use Rattle.nom_character_integer.proofs.bounded.DigitsParser.process.Goals as goal

pub take_from-requires : goal.take_from-requires
take_from-requires g c =
    digits_place g.I.Items.model g.I.Item.Value.code c.args.self.now.radix c.args.self.now.m c.args.self.now.n g.T.Unsigned.GREATEST c.args.input
    c.in-Some.run'.length c.in-Some.ensures.length_is

pub returns-in-None-clause-shown : goal.returns-in-None-clause-shown
unfolding counted_digits
returns-in-None-clause-shown g c = refused c.refusal.ensures (inl (above c.GREATEST.ensures c.in-None.ensures))

pub returns-in-Some-clause-shown : goal.returns-in-Some-clause-shown
unfolding counted_digits
returns-in-Some-clause-shown g c =
    let run = run_below c.GREATEST.ensures c.in-Some.ensures in
    let more = lacks g.I.Items.model g.I.Item.Value.code c.args.self.now.radix c.args.self.now.m c.args.self.now.n g.T.Unsigned.GREATEST c.args.input
    c.in-Some.run' run (search rules) c.lack.result c.lack.ensures in
    undecided (c.new.ensures.some (omega (arith, c.lack.ensures))) (sym c.STREAMING.ensures ∙ c.if-STREAMING.true, more)

pub returns-in-Some-2-clause-shown : goal.returns-in-Some-2-clause-shown
unfolding counted_digits
returns-in-Some-2-clause-shown g c =
    let only : c.in-Some.run'.ended ≡ false → g.OM.Incomplete.IsStreaming.STREAMING ≡ false =
    λ e. elim c.if-not-this.branch [
      | then-not-this+else-STREAMING w ↦ sym w.STREAMING.ensures ∙ w.if-STREAMING.false
      | else-not-this w ↦ let n =
          w.if-not-this.false in search rules
    ] in
    let run = run_below c.GREATEST.ensures c.in-Some.ensures in
    refused c.refusal-in-Some-2.ensures (inr (
      subst (λ k. k < c.args.self.now.m) run.count_is c.if-self.true,
      ended g.I.Items.model g.I.Item.Value.code c.args.self.now.radix
          c.args.self.now.m c.args.self.now.n g.T.Unsigned.GREATEST c.args.input c.in-Some.run' run g.OM.Incomplete.IsStreaming.STREAMING only,
    ))

pub returns-in-Some-3-clause-shown : goal.returns-in-Some-3-clause-shown
returns-in-Some-3-clause-shown g c =
    let only : c.in-Some.run'.ended ≡ false → g.OM.Incomplete.IsStreaming.STREAMING ≡ false =
    λ e. elim c.if-not-this.branch [
      | then-not-this+else-STREAMING w ↦ sym w.STREAMING.ensures ∙ w.if-STREAMING.false
      | else-not-this w ↦ let n =
          w.if-not-this.false in search rules
    ] in
    digits_shown g.I.Items.model g.I.Item.Value.code c.args.self.now.radix c.args.self.now.m c.args.self.now.n g.T.Unsigned.GREATEST c.args.input
    c.in-Some.run' (run_below c.GREATEST.ensures c.in-Some.ensures) g.T.Unsigned.of_number g.E.ParseError.errors
    (modes g.OM.Output.Mode.BUILDS g.OM.Error.Mode.BUILDS g.OM.Incomplete.IsStreaming.STREAMING) c.take_from.result c.built.result c.take_from.ensures only
    (omega (arith, c.if-self.false)) c.built.ensures
