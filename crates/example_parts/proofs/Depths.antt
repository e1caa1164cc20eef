-- The depth after a text, character by character.
use Rattle.std.proofs.Common.{◌≡◌, ℕ, List, [], ◌∷◌, ◌++◌, length, refl, sym, ◌∙◌, ap, arith, chars}
use Rattle.std.specs.Prelude.{encode_utf8, IsUtf8}
use Rattle.std.proofs.lemmas.Str.{chars-nil, chars_past_char, IsUtf8-past_char}
use Rattle.nom.specs.Moving.{moved}
use Rattle.example_parts.specs.Nestings.{depth_after}

-- what is left leads from the depth so far to that after the whole
pub record IsOnWay (whole left : List ℕ) (depth past : ℕ) : Type 0 where
  pub leads : moved depth_after past (chars left) ≡ moved depth_after depth (chars whole)
  pub utf8 : IsUtf8 left

pub goes_on : {whole from left : List ℕ} {depth past next : ℕ} (c : ℕ) → IsOnWay whole from depth past → from ≡ encode_utf8 c ++ left →
    next ≡ depth_after past c → IsOnWay whole left depth next
goes_on {from = from} {left = left} {past = past} c way e d = record {
  leads = ap (λ k. moved depth_after k (chars left)) d ∙ (sym (ap (moved depth_after past) (chars_past_char from left c way.utf8 e)) ∙ way.leads);
  utf8 = IsUtf8-past_char from left c way.utf8 e;
}

no_bytes : (bs : List ℕ) → length bs ≡ 0 → bs ≡ []
no_bytes [] h = refl
no_bytes (b ∷ bs) h = absurd (omega (arith, h))

pub arrives : {whole left : List ℕ} {depth past : ℕ} → IsOnWay whole left depth past → length left ≡ 0 → past ≡ moved depth_after depth (chars whole)
arrives {left = left} {past = past} way h = sym (ap (moved depth_after past) (ap chars (no_bytes left h) ∙ chars-nil)) ∙ way.leads
