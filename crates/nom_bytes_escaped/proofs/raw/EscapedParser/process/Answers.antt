use Rattle.std.proofs.Common.{◌≡◌, ◌∙◌, refl, arith}
use Rattle.nom_internal.proofs.Shown.{accepts, err_from_residual}
use Rattle.nom_repeat.proofs.Repeated.{collected_none, consumes, is_shorter}
use Rattle.nom_bytes_escaped.proofs.EscapedShown.{escaped_at, escaped_passed, escaped_empty, escaped_none, escaped_other, escaped_dangling, escaped_done}
use Rattle.nom_bytes_escaped.proofs.EscapedShown.{escaped_more}
use Rattle.nom_bytes_escaped.proofs.raw.EscapedParser.process.Goals as goal

pub loop-next-init : goal.loop-next-init
loop-next-init g c = record {
  normal_kept = refl;
  control_kept = refl;
  escapable_kept = refl;
  lack_is = c.new-lack.ensures.some (omega arith);
  collected = collected_none g.met.I.Items.lawful c.known.ensures tt;
}

pub returns-in_err-next-clause-shown : goal.returns-in_err-next-clause-shown
returns-in_err-next-clause-shown g c =
    let i = c.loop-next.invariant in
    escaped_passed (escaped_at g.met.I.Items.lawful g.F.Error.ParseError.errors g.F.Parser.grammar g.G.Parser.grammar (λ y x. g.I.Item.Value.code x ≡ y)
    i.normal_kept i.control_kept i.escapable_kept i.lack_is i.collected c.in_err-next.ensures.shown) _ refl
    (err_from_residual c.from_residual.ensures)

pub returns-then-input_len-clause-shown : goal.returns-then-input_len-clause-shown
returns-then-input_len-clause-shown g c =
    let i = c.loop-next.invariant in
    escaped_empty (escaped_at g.met.I.Items.lawful g.F.Error.ParseError.errors g.F.Parser.grammar g.G.Parser.grammar (λ y x. g.I.Item.Value.code x ≡ y)
    i.normal_kept i.control_kept i.escapable_kept i.lack_is i.collected c.in_ok-next.ensures.shown) _ refl
    c.emitted.ensures c.in-Found.is c.input_len.ensures c.input_len-in-Found.ensures c.if-input_len.true c.before-then-input_len.ensures

pub returns-then-input_len-2-clause-shown : goal.returns-then-input_len-2-clause-shown
returns-then-input_len-2-clause-shown g c =
    let i = c.loop-next.invariant in
    escaped_none (escaped_at g.met.I.Items.lawful g.F.Error.ParseError.errors g.F.Parser.grammar g.G.Parser.grammar (λ y x. g.I.Item.Value.code x ≡ y)
    i.normal_kept i.control_kept i.escapable_kept i.lack_is i.collected c.in_ok-next.ensures.shown) _ refl
    c.emitted.ensures c.in-Other.is c.input_len-in-Other.ensures c.input_len-in-Other-2.ensures c.if-input_len-2.true c.refusal.ensures

pub returns-in-Other-clause-shown : goal.returns-in-Other-clause-shown
returns-in-Other-clause-shown g c =
    let i = c.loop-next.invariant in
    escaped_other (escaped_at g.met.I.Items.lawful g.F.Error.ParseError.errors g.F.Parser.grammar g.G.Parser.grammar (λ y x. g.I.Item.Value.code x ≡ y)
    i.normal_kept i.control_kept i.escapable_kept i.lack_is i.collected c.in_ok-next.ensures.shown) _ refl
    c.emitted.ensures c.in-Other.is c.input_len-in-Other.ensures c.input_len-in-Other-2.ensures c.if-input_len-2.false c.before-in-Other.ensures

pub returns-in-Dangling-clause-shown : goal.returns-in-Dangling-clause-shown
returns-in-Dangling-clause-shown g c =
    let i = c.loop-next.invariant in
    escaped_dangling (escaped_at g.met.I.Items.lawful g.F.Error.ParseError.errors g.F.Parser.grammar g.G.Parser.grammar (λ y x. g.I.Item.Value.code x ≡ y)
    i.normal_kept i.control_kept i.escapable_kept i.lack_is i.collected c.in_ok-next.ensures.shown) _ refl
    c.emitted.ensures c.in-Dangling.is c.refusal-in-Dangling.ensures

pub returns-in-Done-clause-shown : goal.returns-in-Done-clause-shown
returns-in-Done-clause-shown g c =
    let i = c.loop-next.invariant in
    escaped_done (escaped_at g.met.I.Items.lawful g.F.Error.ParseError.errors g.F.Parser.grammar g.G.Parser.grammar (λ y x. g.I.Item.Value.code x ≡ y)
    i.normal_kept i.control_kept i.escapable_kept i.lack_is i.collected c.in_ok-next.ensures.shown) _ refl
    c.emitted.ensures c.in-Done.is c.before-in-Done.ensures

pub loop-next-smaller-else-input_len-2 : goal.loop-next-smaller-else-input_len-2
loop-next-smaller-else-input_len-2 g c =
    let a = accepts c.in_ok-next.ensures.shown in
    is_shorter a.rest_is (consumes a.rest_is c.input_len.ensures c.input_len-in-Found.ensures c.if-input_len.false)

pub loop-next-preserved-else-input_len-2 : goal.loop-next-preserved-else-input_len-2
loop-next-preserved-else-input_len-2 g c =
    let i = c.loop-next.invariant in
    record {
      normal_kept = c.in_ok-next.ensures.normal_kept ∙ i.normal_kept;
      control_kept = i.control_kept;
      escapable_kept = c.in_ok-next.ensures.escapable_kept ∙ i.escapable_kept;
      lack_is = i.lack_is;
      collected = escaped_more (escaped_at g.met.I.Items.lawful g.F.Error.ParseError.errors g.F.Parser.grammar g.G.Parser.grammar
          (λ y x. g.I.Item.Value.code x ≡ y) i.normal_kept i.control_kept i.escapable_kept i.lack_is i.collected c.in_ok-next.ensures.shown)
          g.OM.Output.Mode.BUILDS refl c.emitted.ensures c.in-Found.is c.input_len.ensures c.input_len-in-Found.ensures c.if-input_len.false;
    }

pub loop-next-smaller-else-input_len-4 : goal.loop-next-smaller-else-input_len-4
loop-next-smaller-else-input_len-4 g c =
    let a = accepts c.in_ok-next.ensures.shown in
    is_shorter a.rest_is (consumes a.rest_is c.input_len.ensures c.input_len-in-Found.ensures c.if-input_len.false)

pub loop-next-preserved-else-input_len-4 : goal.loop-next-preserved-else-input_len-4
loop-next-preserved-else-input_len-4 g c =
    let i = c.loop-next.invariant in
    record {
      normal_kept = c.in_ok-next.ensures.normal_kept ∙ i.normal_kept;
      control_kept = i.control_kept;
      escapable_kept = c.in_ok-next.ensures.escapable_kept ∙ i.escapable_kept;
      lack_is = i.lack_is;
      collected = escaped_more (escaped_at g.met.I.Items.lawful g.F.Error.ParseError.errors g.F.Parser.grammar g.G.Parser.grammar
          (λ y x. g.I.Item.Value.code x ≡ y) i.normal_kept i.control_kept i.escapable_kept i.lack_is i.collected c.in_ok-next.ensures.shown)
          g.OM.Output.Mode.BUILDS refl c.emitted.ensures c.in-Found.is c.input_len.ensures c.input_len-in-Found.ensures c.if-input_len.false;
    }
