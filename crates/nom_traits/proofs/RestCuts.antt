-- Rests of bytes and of texts, by their lengths.
use Rattle.std.proofs.Common.{◌≡◌, ℕ, ◌-◌, ◌<◌, ◌≤◌, List, Bor, length, take, drop, sym, ◌∙◌, ap, subst, arith}
use Rattle.std.specs.Prelude.{chars, IsUtf8, IsCharBoundary}
use Rattle.std.proofs.lemmas.List.{length-take-le, take-append-drop}
use Rattle.std.proofs.lemmas.Str.{IsUtf8-take, chars-append}
use Rattle.nom_traits.specs.Cuts.{CutsAs, CutsNowhere}
use Rattle.nom_traits.specs.Input.{IsBoundary}
use Rattle.nom_traits.specs.Rests.{items_len-ones}
use Rattle.nom_traits.specs.Bytes.{bytes_model}
use Rattle.nom_traits.specs.Text.{text_model}
use Rattle.nom_traits.proofs.ByteCuts.{byte_place}
use Rattle.nom_traits.proofs.TextCuts.{text_length, place_boundary}

module _ (i left : Bor (List ℕ)) where
  pub bytes_cut : length left.now ≤ length i.now → CutsAs bytes_model i (length i.now - length left.now) left
  bytes_cut h = record {
    length_is = omega (arith, items_len-ones left.now, items_len-ones i.now, h);
    place = byte_place i (length i.now - length left.now) (omega arith);
  }

  pub bytes_nowhere : length i.now < length left.now → CutsNowhere bytes_model i left
  bytes_nowhere h = record { none = λ n c. omega (arith, items_len-ones left.now, items_len-ones i.now, c.length_is, h) }

-- a place between characters is one of the text's
pub text_place : (i : Bor (List ℕ)) (n : ℕ) → IsUtf8 i.now → IsCharBoundary i.now n → IsBoundary text_model i n
text_place i n u p =
    let is_text : IsUtf8 (take n i.now) = IsUtf8-take i.now n u p in
    record {
      front = chars (take n i.now);
      rest = chars (drop n i.now);
      whole = ap chars (sym (take-append-drop n i.now)) ∙ chars-append (take n i.now) (drop n i.now) is_text;
      length_is = text_length (take n i.now) is_text ∙ length-take-le n i.now p.0;
    }

module _ (i left : Bor (List ℕ)) (u : text_model.IsKnown i) (v : text_model.IsKnown left) where
  pub text_cut : length left.now ≤ length i.now → IsCharBoundary i.now (length i.now - length left.now) →
      CutsAs text_model i (length i.now - length left.now) left
  text_cut h p = record {
    length_is = omega (arith, text_length left.now v.0, text_length i.now u.0, h);
    place = text_place i (length i.now - length left.now) u.0 p;
  }

  pub text_longer : length i.now < length left.now → CutsNowhere text_model i left
  text_longer h = record { none = λ n c. omega (arith, text_length left.now v.0, text_length i.now u.0, c.length_is, h) }

  pub text_within : (IsCharBoundary i.now (length i.now - length left.now) → ⊥) → CutsNowhere text_model i left
  text_within f = record {
    none = λ n c.
        let same : n ≡ length i.now - length left.now = omega (arith, text_length left.now v.0, text_length i.now u.0, c.length_is) in
        f (subst (λ m. IsCharBoundary i.now m) same (place_boundary i n u c.place));
  }
