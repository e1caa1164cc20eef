-- Texts that are added one after another.
use Rattle.std.proofs.Common.{arith, ◌≡◌, ℕ, ◌==◌, true, false, ◌/◌, ◌%◌, ◌-◌, length, take, drop, List, [], ◌∷◌, ◌++◌}
use Rattle.std.proofs.Common.{refl, sym, ◌∙◌, ap, append_assoc}
use Rattle.std.proofs.lemmas.Bool.{eqb-true}
use Rattle.std.proofs.lemmas.List.{length-drop}
use Rattle.std.proofs.Math.Seq.{take-length}
use Rattle.std.specs.Prelude.{codes}
use Rattle.nom_run.specs.Texts.{digits_text, hex_digit, hex_of, lines_text}

-- the digits of bytes, one after another
pub hex_lines : (bytes : List ℕ) → lines_text (λ byte. hex_digit (byte / 16) ∷ hex_digit (byte % 16) ∷ []) bytes ≡ hex_of bytes
hex_lines [] = refl
hex_lines (byte ∷ bytes) = ap (λ z. hex_digit (byte / 16) ∷ hex_digit (byte % 16) ∷ z) (hex_lines bytes)

none_of : (bytes : List ℕ) → length bytes ≡ 0 → digits_text bytes ≡ []
none_of [] e = refl
none_of (byte ∷ bytes) e = absurd (omega (arith, e))

pub no_digits : (bytes : List ℕ) → (length bytes == 0) ≡ true → digits_text bytes ≡ []
no_digits bytes e = none_of bytes (eqb-true (length bytes) 0 e)

pub some_digits : (bytes : List ℕ) → (length bytes == 0) ≡ false → codes " " ++ hex_of bytes ≡ digits_text bytes
some_digits [] e = absurd (cc (e))
some_digits (byte ∷ bytes) e = refl

-- texts, one after another
pub in_turn : (w x y z : List ℕ) → w ++ (x ++ (y ++ z)) ≡ w ++ x ++ y ++ z
in_turn w x y z = sym (append_assoc (w ++ x) y z ∙ append_assoc w x (y ++ z))

-- all that stands from a place on
pub all_after : (bytes : List ℕ) (at : ℕ) → take (length bytes - at) (drop at bytes) ≡ drop at bytes
all_after bytes at = ap (λ n. take n (drop at bytes)) (sym (length-drop at bytes)) ∙ take-length (drop at bytes)
