-- The word of the parser of integers.
use Rattle.std.specs.Prelude.{◌≡◌, ℕ, ℤ, Bool}
use Rattle.std.proofs.Common.{refl, ap}
use Rattle.nom_internal.specs.Prelude.{Errors, Model}
use Rattle.nom_internal.specs.Word.{Word, word}
use Rattle.nom_character_integer.specs.Integers.{integer_meaning}

-- of a type of integers, `fits` are those that it has, and `value` is what one stands for; `code` is the code point of an item
module _ {I A T E : Type 0} (w : Model I A) (errs : Errors I E) (code : A → ℕ) (value : T → ℤ) (fits : ℤ → Type 0) where
  -- an integer in decimal digits, by whether a sign may stand first
  pub integer_of : (signed : Bool) → Word I T E
  integer_of signed = word (record { meaning = integer_meaning w code signed fits errs; IsOutput = λ z x. value x ≡ z })

  pub integer_worded : (signed : Bool) → integer_of signed ≡
      word (record { meaning = integer_meaning w code signed fits errs; IsOutput = λ z x. value x ≡ z })
  unfolding integer_of
  integer_worded signed = refl

  pub integer_same : {a b : Bool} → a ≡ b → integer_of a ≡ integer_of b
  integer_same p = ap integer_of p
