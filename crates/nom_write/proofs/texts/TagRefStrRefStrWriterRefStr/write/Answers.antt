use Rattle.std.proofs.Common.{◌≡◌, ap, sym, ◌∙◌}
use Rattle.std.specs.Cmp.Lexicographic.{same_text}
use Rattle.nom_internal.specs.Prelude.{text_model}
use Rattle.nom_sink.specs.declared.error.WriteError.TheVariants.{Mismatch}
use Rattle.nom_write.specs.Reads.{Holds}
use Rattle.nom_write.specs.Texts.{text_items}
use Rattle.nom_write.specs.laws.TextReads.{valid_items}
use Rattle.nom_write.proofs.Beside.{beside}
use Rattle.nom_write.proofs.texts.TagRefStrRefStrWriterRefStr.write.Goals as goal

pub returns-then-eq-clause-written : goal.returns-then-eq-clause-written
returns-then-eq-clause-written g c =
    let v = c.args.value.now in
    let tag = c.args.self.now.tag.now in
    let holds : Holds text_model v (text_items tag) = record {
      known = c.known.ensures;
      elements_are = sym (valid_items v.now c.known.ensures.0) ∙ ap text_items (same_text v.now tag c.if-eq.ensures);
    } in
    beside (Holds text_model v (text_items tag)) (text_items tag) (λ s e. (v.now ≡ tag → ⊥) × (e ≡ Mismatch s.start)) g.S.Sink.model
    c.args.out.now c.write_tag.new.out c.write_tag.result holds c.write_tag.ensures.written
