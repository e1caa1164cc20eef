use Rattle.std.proofs.Common.{ap, sym, subst, length, ◌∙◌}
use Rattle.std.specs.Prelude.{chars, IsUtf8}
use Rattle.std.proofs.lemmas.Str.{IsUtf8-string_bytes, is_utf8-from_IsUtf8}
use Rattle.nom_sink.proofs.text.TextSink.new.Goals as goal

pub invariant_of-result : goal.invariant_of-result
invariant_of-result g c = record {
  valid = is_utf8-from_IsUtf8 c.into_bytes.result.items (subst (λ v. IsUtf8 v.items) (sym c.into_bytes.ensures.value) (IsUtf8-string_bytes c.args.text));
  counted = c.count_chars-count.ensures ∙ ap (λ z. length (chars z)) (c.as_str.ensures.value ∙ ap (λ v. v.items) (sym c.into_bytes.ensures.value));
}
