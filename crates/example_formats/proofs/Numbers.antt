-- The values of numbers and operators.
use Rattle.std.proofs.Common.{◌≡◌, ℕ, List, Ok, Err, Result, sym, ◌∙◌, subst, ℤ}
use Rattle.std.specs.Prelude.{chars, encode_utf8_all, IsUtf8}
use Rattle.std.specs.Int.{w64}
use Rattle.std.specs.Str.Parse.{IsNumeral, ParsesSigned, signed_digits_value, without_leading_sign}
use Rattle.std.proofs.lemmas.Int.{to_z-of_z}
use Rattle.std.proofs.lemmas.Str.{encodes-chars}
use mir.Val.{SFits, to_z, of_z}
use Rattle.example_formats.specs.Arithmetic.{Joins, Operates, Sign, Worth}

-- digits by their bytes are digits by their characters
pub number_told : (X : Type 0) {d : List ℕ} {z : ℤ} → IsUtf8 d → SFits w64 z → (let r : Result ℤ X = Ok z in ParsesSigned w64 10 d r) →
    ((IsNumeral 10 (without_leading_sign (encode_utf8_all (chars d))) × SFits w64 (signed_digits_value 10 (encode_utf8_all (chars d)))) ×
    (to_z w64 (of_z w64 z) ≡ signed_digits_value 10 (encode_utf8_all (chars d)))) × Unit {0}
number_told X {d} {z} u f p =
    let q = subst (λ b. (IsNumeral 10 (without_leading_sign b) × SFits w64 (signed_digits_value 10 b)) × (z ≡ signed_digits_value 10 b))
    (sym (encodes-chars d u)) p in
    ((q.0, to_z-of_z w64 z f ∙ q.1), tt)

pub number_missing : (X : Type 0) {d : List ℕ} (e : X) → IsUtf8 d → (let r : Result ℤ X = Err e in ParsesSigned w64 10 d r) →
    IsNumeral 10 (without_leading_sign (encode_utf8_all (chars d))) × SFits w64 (signed_digits_value 10 (encode_utf8_all (chars d))) → ⊥
number_missing X {d} e u p = subst (λ b. IsNumeral 10 (without_leading_sign b) × SFits w64 (signed_digits_value 10 b) → ⊥) (sym (encodes-chars d u)) p

pub joins_both : (o : Sign) {x y : Worth} {a b : ℤ} {v : Worth} → SFits w64 a → SFits w64 b → x ≡ Ok a → y ≡ Ok b →
    Operates o (to_z w64 (of_z w64 a)) (to_z w64 (of_z w64 b)) v → Joins o x y v
joins_both o {x} {y} {a} {b} {v} f g d e h =
    let own = subst (λ z. Operates o z b v) (to_z-of_z w64 a f) (subst (λ z. Operates o (to_z w64 (of_z w64 a)) z v) (to_z-of_z w64 b g) h) in
    subst (λ z. Joins o z y v) (sym d) (subst (λ z. Joins o (Ok a) z v) (sym e) own)
