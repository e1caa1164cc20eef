-- The word of the parser of numbers in a count of digits.
use Rattle.std.specs.Prelude.{◌≡◌, ℕ}
use Rattle.std.proofs.Common.{refl, ap, ap₂, ◌∙◌}
use Rattle.nom_internal.specs.Prelude.{Errors, Model}
use Rattle.nom_internal.specs.Word.{Word, word}
use Rattle.nom_character_integer.specs.CountedDigits.{digits_meaning}

-- of a type of numbers up to the greatest, `of_number` is the value of a number; `code` is the code point of an item
module _ {I A T E : Type 0} (w : Model I A) (errs : Errors I E) (code : A → ℕ) (of_number : ℕ → T) (greatest : ℕ) where
  -- a number in m to n digits of a base
  pub digits_of : (base m n : ℕ) → Word I T E
  digits_of base m n = word (record { meaning = digits_meaning w code base m n greatest errs; IsOutput = λ v x. x ≡ of_number v })

  pub digits_worded : (base m n : ℕ) → digits_of base m n ≡
      word (record { meaning = digits_meaning w code base m n greatest errs; IsOutput = λ v x. x ≡ of_number v })
  unfolding digits_of
  digits_worded base m n = refl

  pub digits_same : {a b k l m n : ℕ} → a ≡ b → k ≡ l → m ≡ n → digits_of a k m ≡ digits_of b l n
  digits_same {b = b} {k = k} {m = m} p q e = ap (λ x. digits_of x k m) p ∙ ap₂ (λ y z. digits_of b y z) q e
