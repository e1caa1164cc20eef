-- The words of this crate's parsers. `code` is the code point of an item.
use Rattle.std.specs.Prelude.{◌≡◌, ℕ, ℤ, Bool}
use Rattle.std.proofs.Common.{refl, ap}
use Rattle.nom_internal.specs.Prelude.{Errors, Model, sliced, valued}
use Rattle.nom_internal.specs.Word.{Word, word}
use Rattle.nom_number_text.specs.declared.word.Exception.{Exception}
use Rattle.nom_number_text.specs.Exceptions as Exceptions
use Rattle.nom_number_text.specs.Exceptions.{letters_of, word_meaning}
use Rattle.nom_number_text.specs.Floats.{float_meaning}
use Rattle.nom_number_text.specs.Hex.{hex_meaning}
use Rattle.nom_number_text.specs.Parts.{IsParts, parts_meaning}

module _ {I A E : Type 0} (w : Model I A) (errs : Errors I E) (code : A → ℕ) where
  pub hex_u32_of : Word I ℕ E
  hex_u32_of = word (valued (hex_meaning w code errs))

  pub hex_u32_worded : hex_u32_of ≡ word (valued (hex_meaning w code errs))
  unfolding hex_u32_of
  hex_u32_worded = refl

  pub recognize_float_of : Word I I E
  recognize_float_of = word (sliced w (float_meaning w code errs))

  pub recognize_float_worded : recognize_float_of ≡ word (sliced w (float_meaning w code errs))
  unfolding recognize_float_of
  recognize_float_worded = refl

  -- the parts of a decimal fraction
  pub float_parts_of : Word I (Bool × I × I × ℤ) E
  float_parts_of = word (record { meaning = parts_meaning w code errs; IsOutput = IsParts w code })

  pub float_parts_worded : float_parts_of ≡ word (record { meaning = parts_meaning w code errs; IsOutput = IsParts w code })
  unfolding float_parts_of
  float_parts_worded = refl

  -- one of `nan`, `infinity` and `inf`
  pub exception_of : Exception → Word I I E
  exception_of which = word (sliced w (word_meaning w code errs (letters_of which)))

  pub exception_worded : (which : Exception) → exception_of which ≡ word (sliced w (word_meaning w code errs (letters_of which)))
  unfolding exception_of
  exception_worded which = refl

  pub exception_same : {a b : Exception} → a ≡ b → exception_of a ≡ exception_of b
  exception_same p = ap exception_of p

  -- a part, and each of these in turn where it refuses
  pub exceptions_of : Word I I E → Word I I E
  exceptions_of g = word (Exceptions.exceptions_of w code errs g.grammar)

  module _ {g h : Word I I E} where
    pub exceptions_worded : g ≡ h → exceptions_of g ≡ word (Exceptions.exceptions_of w code errs h.grammar)
    unfolding exceptions_of
    exceptions_worded p = ap exceptions_of p

    pub exceptions_same : g ≡ h → exceptions_of g ≡ exceptions_of h
    exceptions_same p = ap exceptions_of p

-- a part whose errors become those of `Float` at the start
module _ {I O E : Type 0} (errs : Errors I E) where
  pub as_float_of : Word I O E → Word I O E
  as_float_of g = word (Exceptions.as_float_of errs g.grammar)

  module _ {g h : Word I O E} where
    pub as_float_worded : g ≡ h → as_float_of g ≡ word (Exceptions.as_float_of errs h.grammar)
    unfolding as_float_of
    as_float_worded p = ap as_float_of p

    pub as_float_same : g ≡ h → as_float_of g ≡ as_float_of h
    as_float_same p = ap as_float_of p
