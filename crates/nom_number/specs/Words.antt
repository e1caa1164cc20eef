-- The words of this crate's parsers.
use Rattle.std.specs.Prelude.{◌≡◌, ℕ}
use Rattle.std.proofs.Common.{refl, ap₂}
use Rattle.nom_internal.specs.Prelude.{Errors, Model, valued}
use Rattle.nom_internal.specs.Word.{Word, word}
use Rattle.nom_number.specs.declared.order.Endianness.{Endianness}
use Rattle.nom_number.specs.Numbers.{binary_number, number_meaning}

-- `of_bits` is the number that bits stand for
module _ {I E N : Type 0} (w : Model I ℕ) (errs : Errors I E) (of_bits : ℕ → N) where
  -- a number of that many bytes, in an order
  pub number_of : Endianness → ℕ → Word I N E
  number_of endian count = word (valued (number_meaning w errs (λ bytes. of_bits (binary_number endian bytes)) count))

  pub number_worded : (endian : Endianness) (count : ℕ) → number_of endian count ≡
      word (valued (number_meaning w errs (λ bytes. of_bits (binary_number endian bytes)) count))
  unfolding number_of
  number_worded endian count = refl

  pub number_same : {a b : Endianness} {m n : ℕ} → a ≡ b → m ≡ n → number_of a m ≡ number_of b n
  number_same p q = ap₂ number_of p q
