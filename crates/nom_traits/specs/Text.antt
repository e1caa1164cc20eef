-- The model of a text.
use Rattle.std.specs.Prelude.{◌≡◌, ℕ, ◌<◌, ◌^◌, Bool, true, false, List, [], ◌∷◌, length, refl, chars, encode_utf8, encode_utf8_all, IsUtf8, ◌&&◌}
use Rattle.std.specs.Borrow.{Bor}
use Rattle.std.specs.Char.{len_utf8, IsScalar}
use Rattle.std.specs.Str.{all_scalars}
use Rattle.std.proofs.Common.{arith, length-append}
use Rattle.std.proofs.Math.Utf8.{scalar}
use Rattle.std.proofs.lemmas.Str.{len_utf8_bounds, scalars-chars, length-encode}
use Rattle.nom_traits.specs.Input.{Model, AreValues, InputLaws, items_len}

-- A text's model is its characters, each as long as its UTF-8 form. That these spell its bytes follows from UTF-8; it is said so
-- that texts of equal characters are found to be equal.
abbrev pub text_model : Model (Bor (List ℕ)) ℕ
text_model = record {
  elements = λ s. chars s.now;
  item_len = len_utf8;
  Mark = Unit {0};
  mark = λ _. tt;
  mark_after = λ m _. m;
  IsKnown = λ s. IsUtf8 s.now × (length s.now < 2 ^ 63) × (encode_utf8_all (chars s.now) ≡ s.now);
  IsMore = λ _. Unit {0};
}

pub text_lawful : InputLaws text_model
text_lawful = record {
  positive = λ c. omega (arith, (len_utf8_bounds c).0);
  mark_none = λ _. refl;
  mark_more = λ _ _ _. refl;
}

pub both : (x y : Bool) → (x && y) ≡ true → (x ≡ true) × (y ≡ true)
both true y h = (refl, h)
both false y h = (h, absurd (cc))

scalars_are_values : (cs : List ℕ) → all_scalars cs ≡ true → AreValues IsScalar cs
scalars_are_values [] h = tt
scalars_are_values (c ∷ cs) h = let b = both (scalar c) (all_scalars cs) h in (b.0, scalars_are_values cs b.1)

pub text_values : (i : Bor (List ℕ)) → text_model.IsKnown i → AreValues IsScalar (chars i.now)
text_values i h = scalars_are_values (chars i.now) (scalars-chars i.now h.0)

-- the length of characters is that of their bytes
pub items_len-text : (cs : List ℕ) → items_len len_utf8 cs ≡ length (encode_utf8_all cs)
items_len-text [] = refl
items_len-text (c ∷ cs) = omega (arith, items_len-text cs, length-append (encode_utf8 c) (encode_utf8_all cs), length-encode c)
