-- The words of parsers of the bits of a slice of bytes, with those of `bits` and `bytes`. Those of combinators stand in `Words`.
use Rattle.std.specs.Prelude.{◌≡◌, ℕ, Bool, List}
use Rattle.std.specs.Borrow.{Bor}
use Rattle.nom_error.specs.declared.value.Error.{Error}
use Rattle.nom_error.specs.Errors.{Errors}
use Rattle.nom_error.specs.PlainErrors.{plain_errors}
use Rattle.nom_internal.specs.Prelude.{bits_model, bytes_model}
use Rattle.nom_bits.specs.Words as Bits
use Rattle.nom.specs.Words.{Kit, Word, bytes, item_kit}

-- bytes, and the place of a bit in the first of them
abbrev pub BitInput : Type 0
BitInput = Bor (List ℕ) × ℕ

abbrev pub bits_with : {E : Type 0} → Errors BitInput E → Kit BitInput E
bits_with = item_kit (bits_model bytes_model)

abbrev pub bits : Kit BitInput (Error BitInput)
bits = bits_with plain_errors

module _ {E : Type 0} where
  -- a number of that many bits, for a type of numbers of `width` bits: 8 for `u8`
  abbrev pub take_of : (width count : ℕ) → Word BitInput ℕ E
  take_of width count = record { at = λ K. Bits.take_of bytes_model K.errors width (λ n. n) count }

  abbrev pub tag_of : (width pattern count : ℕ) → Word BitInput ℕ E
  tag_of width pattern count = record { at = λ K. Bits.tag_of bytes_model K.errors width (λ n. n) pattern count }

  abbrev pub bool_of : Word BitInput Bool E
  bool_of = record { at = λ K. Bits.bool_of bytes_model K.errors }

-- What begins at a byte, and leaves the rest of the last byte that it looked at: with `Error`, and by how an error type of bits converts.
abbrev pub bits_of : {O : Type 0} → Word BitInput O (Error BitInput) → Word (Bor (List ℕ)) O (Error (Bor (List ℕ)))
bits_of g = record { at = λ K. Bits.bits_of bytes_model (λ e f. f ≡ record { input = e.input.0; code = e.code }) (g.at bits) }

abbrev pub bits_by : {O D E : Type 0} → Errors BitInput D → (D → E → Type 0) → Word BitInput O D → Word (Bor (List ℕ)) O E
bits_by errs Converts g = record { at = λ K. Bits.bits_of bytes_model Converts (g.at (bits_with errs)) }

-- A parser of bytes among those of bits, from the next byte on.
abbrev pub bytes_of : {O : Type 0} → Word (Bor (List ℕ)) O (Error (Bor (List ℕ))) → Word BitInput O (Error BitInput)
bytes_of g = record { at = λ K. Bits.bytes_of bytes_model K.errors (λ e f. f ≡ record { input = (e.input, 0); code = e.code }) (g.at bytes) }
