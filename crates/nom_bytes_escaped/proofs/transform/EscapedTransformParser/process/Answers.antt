use Rattle.std.proofs.Common.{◌≡◌, ◌∙◌, refl}
use Rattle.nom_internal.proofs.Shown.{accepts, err_from_residual}
use Rattle.nom_repeat.proofs.Repeated.{collected_none, consumes, is_shorter}
use Rattle.nom_bytes_escaped.proofs.TransformShown.{transform_at, transform_passed, transform_full, transform_empty, transform_more, transform_none}
use Rattle.nom_bytes_escaped.proofs.TransformShown.{transform_other, transform_dangling, transform_done}
use Rattle.nom_bytes_escaped.proofs.TextsBuilt.{growing_is_some}
use Rattle.nom_bytes_escaped.proofs.transform.EscapedTransformParser.process.Goals as goal

pub loop-text-init : goal.loop-text-init
loop-text-init g c = record {
  normal_kept = refl;
  control_kept = refl;
  transform_kept = refl;
  collected = collected_none g.met.I.Items.lawful c.known.ensures c.no_text-text.ensures;
}

pub returns-in_err-next-clause-shown : goal.returns-in_err-next-clause-shown
returns-in_err-next-clause-shown g c =
    let i = c.loop-text.invariant in
    transform_passed (transform_at g.met.I.Items.lawful g.F.Error.ParseError.errors g.F.Parser.grammar g.G.Parser.grammar g.F.Output.ExtendInto.added
    g.G.Output.ExtendInto.added g.X.Builder.parts (λ y x. g.C.Value.code x ≡ y) i.normal_kept i.control_kept i.transform_kept i.collected
    c.in_err-next.ensures.shown) refl (err_from_residual c.from_residual.ensures)

pub returns-in_err-extend-in-Found-clause-shown : goal.returns-in_err-extend-in-Found-clause-shown
returns-in_err-extend-in-Found-clause-shown g c =
    let i = c.loop-text.invariant in
    rw (err_from_residual c.from_residual-in_err-extend-in-Found.ensures) (
    transform_full (transform_at g.met.I.Items.lawful g.F.Error.ParseError.errors g.F.Parser.grammar g.G.Parser.grammar g.F.Output.ExtendInto.added
    g.G.Output.ExtendInto.added g.X.Builder.parts (λ y x. g.C.Value.code x ≡ y) i.normal_kept i.control_kept i.transform_kept i.collected
    c.in_ok-next.ensures.shown) refl c.emitted.ensures c.in-Found.is (growing_is_some _ _ _ _
    c.in_err-extend-in-Found.ensures.full))

pub returns-then-input_len-clause-shown : goal.returns-then-input_len-clause-shown
returns-then-input_len-clause-shown g c =
    let i = c.loop-text.invariant in
    transform_empty (transform_at g.met.I.Items.lawful g.F.Error.ParseError.errors g.F.Parser.grammar g.G.Parser.grammar g.F.Output.ExtendInto.added
    g.G.Output.ExtendInto.added g.X.Builder.parts (λ y x. g.C.Value.code x ≡ y) i.normal_kept i.control_kept i.transform_kept i.collected
    c.in_ok-next.ensures.shown) refl c.emitted.ensures c.in-Found.is _ c.in_ok-extend-in-Found.ensures.kept c.input_len.ensures
    c.input_len-in-Found.ensures c.if-input_len.true

pub loop-text-smaller : goal.loop-text-smaller
loop-text-smaller g c =
    let a = accepts c.in_ok-next.ensures.shown in
    is_shorter a.rest_is (consumes a.rest_is c.input_len.ensures c.input_len-in-Found.ensures c.if-input_len.false)

pub loop-text-preserved : goal.loop-text-preserved
loop-text-preserved g c =
    let i = c.loop-text.invariant in
    record {
      normal_kept = c.in_ok-next.ensures.normal_kept ∙ i.normal_kept;
      control_kept = i.control_kept;
      transform_kept = c.in_ok-next.ensures.escapable_kept ∙ i.transform_kept;
      collected = transform_more (transform_at g.met.I.Items.lawful g.F.Error.ParseError.errors g.F.Parser.grammar g.G.Parser.grammar
          g.F.Output.ExtendInto.added g.G.Output.ExtendInto.added g.X.Builder.parts (λ y x. g.C.Value.code x ≡ y)
          i.normal_kept i.control_kept i.transform_kept i.collected
          c.in_ok-next.ensures.shown) refl c.emitted.ensures c.in-Found.is _ c.in_ok-extend-in-Found.ensures.kept
          c.input_len.ensures c.input_len-in-Found.ensures c.if-input_len.false;
    }

pub returns-then-input_len-2-clause-shown : goal.returns-then-input_len-2-clause-shown
returns-then-input_len-2-clause-shown g c =
    let i = c.loop-text.invariant in
    transform_none (transform_at g.met.I.Items.lawful g.F.Error.ParseError.errors g.F.Parser.grammar g.G.Parser.grammar g.F.Output.ExtendInto.added
    g.G.Output.ExtendInto.added g.X.Builder.parts (λ y x. g.C.Value.code x ≡ y) i.normal_kept i.control_kept i.transform_kept i.collected
    c.in_ok-next.ensures.shown) refl c.emitted.ensures c.in-Other.is c.input_len-in-Other.ensures c.input_len-in-Other-2.ensures
    c.if-input_len-2.true c.refusal.ensures

pub returns-in-Other-clause-shown : goal.returns-in-Other-clause-shown
returns-in-Other-clause-shown g c =
    let i = c.loop-text.invariant in
    transform_other (transform_at g.met.I.Items.lawful g.F.Error.ParseError.errors g.F.Parser.grammar g.G.Parser.grammar g.F.Output.ExtendInto.added
    g.G.Output.ExtendInto.added g.X.Builder.parts (λ y x. g.C.Value.code x ≡ y) i.normal_kept i.control_kept i.transform_kept i.collected
    c.in_ok-next.ensures.shown) refl c.emitted.ensures c.in-Other.is c.input_len-in-Other.ensures c.input_len-in-Other-2.ensures
    c.if-input_len-2.false

pub returns-in-Dangling-clause-shown : goal.returns-in-Dangling-clause-shown
returns-in-Dangling-clause-shown g c =
    let i = c.loop-text.invariant in
    transform_dangling (transform_at g.met.I.Items.lawful g.F.Error.ParseError.errors g.F.Parser.grammar g.G.Parser.grammar g.F.Output.ExtendInto.added
    g.G.Output.ExtendInto.added g.X.Builder.parts (λ y x. g.C.Value.code x ≡ y) i.normal_kept i.control_kept i.transform_kept i.collected
    c.in_ok-next.ensures.shown) refl c.emitted.ensures c.in-Dangling.is c.refusal-in-Dangling.ensures

pub returns-in-Done-clause-shown : goal.returns-in-Done-clause-shown
returns-in-Done-clause-shown g c =
    let i = c.loop-text.invariant in
    transform_done (transform_at g.met.I.Items.lawful g.F.Error.ParseError.errors g.F.Parser.grammar g.G.Parser.grammar g.F.Output.ExtendInto.added
    g.G.Output.ExtendInto.added g.X.Builder.parts (λ y x. g.C.Value.code x ≡ y) i.normal_kept i.control_kept i.transform_kept i.collected
    c.in_ok-next.ensures.shown) refl c.emitted.ensures c.in-Done.is
