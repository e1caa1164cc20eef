-- Forms of tags over texts.
use Rattle.std.specs.Prelude.{◌≡◌, ℕ, Bool, true, List, ◌++◌, length, chars}
use Rattle.std.specs.Borrow.{Bor}
use Rattle.std.specs.Char.{len_utf8}
use Rattle.std.specs.Str.{all_scalars}
use Rattle.std.proofs.Common.{sym, ◌∙◌, ap, subst}
use Rattle.std.proofs.lemmas.Str.{chars-encodes, scalars-chars}
use Rattle.nom_internal.specs.Prelude.{Accept, ComparesText, Errors, IsModelledBy, Slice, same_cut, sliced}
use Rattle.nom_traits.specs.Text.{items_len-text, text_lawful, text_model}
use Rattle.nom_bytes.specs.Tags.{tag_meaning}
use Rattle.nom_write.specs.Reads.{Holds}
use Rattle.nom_write.specs.Texts.{text_items}
use Rattle.nom_write.specs.laws.TextReads.{scalars_front, valid_items}
use Rattle.nom_write_canonical.specs.Forms.{AcceptsForms, AcceptsItems}
use Rattle.nom_write_canonical.specs.laws.LeafForms.{is_held, slice_front}

module _ {E : Type 0} (errs : Errors (Bor (List ℕ)) E) (tag : List ℕ) where
  -- a slice that is accepted is the tag
  found : (s : Bool) (i : Bor (List ℕ)) (n : ℕ) (t : Slice text_model) → text_model.IsKnown i →
      (tag_meaning text_model errs length ComparesText tag).answers s i (Accept n t) → t.items ≡ text_items tag
  found s i n t known a =
      let k = a.2 in
      let all : all_scalars (k.front ++ k.rest) ≡ true = subst (λ z. all_scalars z ≡ true) k.whole (scalars-chars i.now known.0) in
      let scalars : all_scalars k.front ≡ true = scalars_front k.front k.rest all in
      let same = same_cut len_utf8 text_lawful.positive t.items (a.1).rest k.front k.rest (sym (a.1).whole ∙ k.whole)
      ((a.1).length_is ∙ (a.0 ∙ (ap length (sym k.tag_is) ∙ sym (items_len-text k.front)))) in
      same.0 ∙ sym (valid_items tag (k.front, (scalars, k.tag_is)) ∙ (ap chars (sym k.tag_is) ∙ chars-encodes k.front scalars))

  pub text_tag_only : AcceptsItems text_model (sliced text_model (tag_meaning text_model errs length ComparesText tag)) (text_items tag)
  text_tag_only = record {
    accepts = λ s. record { front = λ i n t known a. slice_front text_model (λ xs. xs ≡ text_items tag) i n t a.1 (found s i n t known a) };
  }

  pub text_tag_accepts : AcceptsForms text_model (sliced text_model (tag_meaning text_model errs length ComparesText tag))
      (λ v xs. (xs ≡ text_items tag) × Holds text_model v (text_items tag))
  text_tag_accepts = record {
    accepts = λ s. record {
      front = λ i n t known a.
          let is = found s i n t known a in
          slice_front text_model (λ xs. (v : Bor (List ℕ)) → IsModelledBy text_model t v → (xs ≡ text_items tag) × Holds text_model v (text_items tag))
          i n t a.1 (λ v m. (is, is_held text_model t v (text_items tag) m is));
    };
  }
