-- Lemmas on the comparison of a text, from that of its bytes.
use Rattle.std.proofs.Common.{◌≡◌, ℕ, ◌++◌, ◌∷◌, List, Bor, length, take, sym, ◌∙◌, ap, subst}
use Rattle.std.specs.Prelude.{chars, encode_utf8_all, IsUtf8, IsCharBoundary}
use Rattle.std.proofs.Math.Seq.{take-append_seam}
use Rattle.std.proofs.lemmas.Str.{IsUtf8-take, chars-append, encodes-chars, encodes-append}
use Rattle.nom_traits.specs.declared.compare.CompareResult.TheVariants as Compared
use Rattle.nom_traits.specs.Compares.{IsFound, IsBegun, ComparesAs}
use Rattle.nom_traits.specs.CompareTags.{IsForm, bytes_are_bytes, found_not_begun}
use Rattle.nom_traits.specs.Bytes.{bytes_model, bytes_lawful}
use Rattle.nom_traits.specs.Text.{text_model, items_len-text}
use Rattle.nom_traits.proofs.TextCuts.{place_boundary}

module _ (form : List ℕ → List ℕ) (f : IsForm form) (i : Bor (List ℕ)) (u : text_model.IsKnown i) (t : List ℕ) where
  -- the characters of a front that ends between characters
  pub text_ok : ComparesAs (λ xs. xs) form t i.now Compared.Ok → IsCharBoundary i.now (length t) → ComparesAs encode_utf8_all form t (chars i.now) Compared.Ok
  text_ok k p =
      let size : length k.front ≡ length t = sym (f.size k.front) ∙ (ap length k.tag_is ∙ f.size t) in
      let front : take (length t) i.now ≡ k.front =
      ap (λ xs. take (length t) xs) k.whole ∙ (ap (λ n. take n (k.front ++ k.rest)) (sym size) ∙ take-append_seam k.front k.rest) in
      let is_text : IsUtf8 k.front = subst IsUtf8 front (IsUtf8-take i.now (length t) u.0 p) in
      record {
        front = chars k.front;
        rest = chars k.rest;
        whole = ap chars k.whole ∙ chars-append k.front k.rest is_text;
        tag_is =
            ap form (encodes-chars k.front is_text) ∙ k.tag_is;
      }

  -- a text's front is a front of its bytes, and ends between characters
  pub found_bytes : IsFound encode_utf8_all form t (chars i.now) → IsFound (λ xs. xs) form t i.now
  found_bytes k = record {
    front = encode_utf8_all k.front;
    rest = encode_utf8_all k.rest;
    whole = sym (encodes-chars i.now u.0) ∙
        (ap encode_utf8_all k.whole ∙ encodes-append k.front k.rest);
    tag_is = k.tag_is;
  }

  found_boundary : IsFound encode_utf8_all form t (chars i.now) → IsCharBoundary i.now (length t)
  found_boundary k = place_boundary i (length t) u
      (record {
        front = k.front;
        rest = k.rest;
        whole = k.whole;
        length_is = items_len-text k.front ∙
            (sym (f.size (encode_utf8_all k.front)) ∙ (ap length k.tag_is ∙ f.size t));
      })

  begun_bytes : IsBegun encode_utf8_all form t (chars i.now) → IsBegun (λ xs. xs) form t i.now
  begun_bytes k = record { byte = k.byte; more = k.more; tag_is = k.tag_is ∙ ap (λ xs. form xs ++ (k.byte ∷ k.more)) (encodes-chars i.now u.0) }

  pub text_incomplete : ComparesAs (λ xs. xs) form t i.now Compared.Incomplete → ComparesAs encode_utf8_all form t (chars i.now) Compared.Incomplete
  text_incomplete k = record { byte = k.byte; more = k.more; tag_is = k.tag_is ∙ ap (λ xs. form xs ++ (k.byte ∷ k.more)) (sym (encodes-chars i.now u.0)) }

  pub text_error : ComparesAs (λ xs. xs) form t i.now Compared.Error → ComparesAs encode_utf8_all form t (chars i.now) Compared.Error
  text_error h = (λ k. h.0 (found_bytes k), λ k. h.1 (begun_bytes k))

  -- a tag that ends inside a character
  pub text_inside : ComparesAs (λ xs. xs) form t i.now Compared.Ok → (IsCharBoundary i.now (length t) → ⊥) →
      ComparesAs encode_utf8_all form t (chars i.now) Compared.Error
  text_inside h p = (λ k. p (found_boundary k), λ k. found_not_begun bytes_model bytes_lawful (λ xs. xs) bytes_are_bytes form f t i.now h (begun_bytes k))
