-- The words of this crate's parsers.
use Rattle.std.specs.Prelude.{◌≡◌, ℕ, Bool}
use Rattle.std.proofs.Common.{refl, ap, ap₂}
use Rattle.nom_internal.specs.Prelude.{Errors, Model, valued}
use Rattle.nom_internal.specs.Word.{Word, word}
use Rattle.nom_bits.specs.Bridges as Bridges
use Rattle.nom_bits.specs.Fields.{bool_meaning, tag_meaning, take_meaning}

-- `width` is how many bits a type of numbers has, and `of_bits` its number for what bits spell
module _ {I N E : Type 0} (w : Model I ℕ) (errs : Errors (I × ℕ) E) (width : ℕ) (of_bits : ℕ → N) where
  pub take_of : ℕ → Word (I × ℕ) N E
  take_of count = word (record { meaning = take_meaning w errs width count; IsOutput = λ t v. v ≡ of_bits t })

  pub take_worded : (count : ℕ) → take_of count ≡ word (record { meaning = take_meaning w errs width count; IsOutput = λ t v. v ≡ of_bits t })
  unfolding take_of
  take_worded count = refl

  pub take_same : {m n : ℕ} → m ≡ n → take_of m ≡ take_of n
  take_same p = ap take_of p

  pub tag_of : (wanted count : ℕ) → Word (I × ℕ) N E
  tag_of wanted count = word (record { meaning = tag_meaning w errs width wanted count; IsOutput = λ t v. v ≡ of_bits t })

  pub tag_worded : (wanted count : ℕ) → tag_of wanted count ≡
      word (record { meaning = tag_meaning w errs width wanted count; IsOutput = λ t v. v ≡ of_bits t })
  unfolding tag_of
  tag_worded wanted count = refl

  pub tag_same : {k l m n : ℕ} → k ≡ l → m ≡ n → tag_of k m ≡ tag_of l n
  tag_same p q = ap₂ tag_of p q

module _ {I E : Type 0} (w : Model I ℕ) (errs : Errors (I × ℕ) E) where
  pub bool_of : Word (I × ℕ) Bool E
  bool_of = word (valued (bool_meaning w errs))

  pub bool_worded : bool_of ≡ word (valued (bool_meaning w errs))
  unfolding bool_of
  bool_worded = refl

-- a parser of bits among parsers of bytes; `Converts` is how their errors are converted
module _ {I O E F : Type 0} (w : Model I ℕ) (Converts : E → F → Type 0) where
  pub bits_of : Word (I × ℕ) O E → Word I O F
  bits_of g = word (Bridges.bits_of w Converts g.grammar)

  module _ {g h : Word (I × ℕ) O E} where
    pub bits_worded : g ≡ h → bits_of g ≡ word (Bridges.bits_of w Converts h.grammar)
    unfolding bits_of
    bits_worded p = ap bits_of p

    pub bits_same : g ≡ h → bits_of g ≡ bits_of h
    bits_same p = ap bits_of p

-- a parser of bytes among parsers of bits
module _ {I O E F : Type 0} (w : Model I ℕ) (errs : Errors (I × ℕ) F) (Converts : E → F → Type 0) where
  pub bytes_of : Word I O E → Word (I × ℕ) O F
  bytes_of g = word (Bridges.bytes_of w errs Converts g.grammar)

  module _ {g h : Word I O E} where
    pub bytes_worded : g ≡ h → bytes_of g ≡ word (Bridges.bytes_of w errs Converts h.grammar)
    unfolding bytes_of
    bytes_worded p = ap bytes_of p

    pub bytes_same : g ≡ h → bytes_of g ≡ bytes_of h
    bytes_same p = ap bytes_of p
