-- A pair of an input of bytes and a position, as an input of bits.
use Rattle.std.specs.Prelude.{◌≡◌, ℕ, ◌+◌, ◌*◌, ◌/◌, ◌%◌, ◌<◌, ◌^◌, Bool, cond, nat_eq, List, [], ◌∷◌, ◌++◌, refl}
use Rattle.std.specs.List.{flat_map}
use Rattle.std.proofs.Common.{zero, suc, lit<, drop, take, append_assoc, ap}
use Rattle.std.proofs.Math.Path.{fun_ext}
use Rattle.nom_traits.specs.Input.{Model, AreValues, InputLaws}

-- the bit of weight 2 ^ k
abbrev pub is_bit : ℕ → ℕ → Bool
is_bit b k = nat_eq (b / 2 ^ k % 2) 1

-- the k low bits of a number, highest first
abbrev pub low_bits : ℕ → ℕ → List Bool
low_bits zero b = []
low_bits (suc k) b = is_bit b k ∷ low_bits k b

-- the bits of a byte, highest first
unfoldable pub byte_bits : ℕ → List Bool
byte_bits b = low_bits 8 b

-- the bits of bytes
abbrev pub all_bits : List ℕ → List Bool
all_bits bytes = flat_map byte_bits bytes

-- the number spelled by a, and then by bits
abbrev pub spelled_after : ℕ → List Bool → ℕ
spelled_after a [] = a
spelled_after a (b ∷ bs) = spelled_after (2 * a + cond b 1 0) bs

-- the number spelled by bits, highest first
abbrev pub spelled : List Bool → ℕ
spelled bs = spelled_after 0 bs

-- the whole bytes at the front of a list of bits
unfoldable pub whole_bytes : List Bool → List ℕ
whole_bytes (a ∷ b ∷ c ∷ d ∷ e ∷ f ∷ g ∷ h ∷ bs) = spelled (a ∷ b ∷ c ∷ d ∷ e ∷ f ∷ g ∷ h ∷ []) ∷ whole_bytes bs
whole_bytes _ = []

-- the bits after the whole bytes, fewer than 8
unfoldable pub bits_over : List Bool → List Bool
bits_over (a ∷ b ∷ c ∷ d ∷ e ∷ f ∷ g ∷ h ∷ bs) = bits_over bs
bits_over bs = bs

abbrev pub AreBytes : List ℕ → Type 0
AreBytes xs = AreValues (λ b. b < 256) xs

module _ {I : Type 0} (w : Model I ℕ) where
  -- the marks of I can differ: not all are equal
  abbrev pub HasMarks : Type 0
  HasMarks = ((m n : w.Mark) → m ≡ n) → ⊥

  -- What is told of a place among the bits: the mark of I at the last place between two bytes, and the bits passed
  -- since. Those bits are told only where the marks of I can differ: so bits of a slice of bytes, whose mark says
  -- nothing, have none either, whatever bits stand before them. Whether the marks can differ follows from their
  -- type, so Model needn't say it.
  abbrev pub BitPlace : Type 0
  BitPlace = w.Mark × (HasMarks → List Bool)

  -- the place that bits lead to, from a place between two bytes with the mark m
  abbrev pub past_bits : w.Mark → List Bool → BitPlace
  past_bits m bs = (w.mark_after m (whole_bytes bs), λ _. bits_over bs)

  -- whole bytes that may follow an input of I, as bits
  pub record AreMoreBytes (bs : List Bool) : Type 0 where
    pub bytes : List ℕ
    pub more : w.IsMore bytes
    pub are_bytes : AreBytes bytes
    pub bits_are : bs ≡ all_bits bytes

  -- The model of (x, o) is the bits of x without the first o.
  -- Its mark is the place that the first o bits of x lead to, or all where there are fewer: the mark of x without
  -- its first o / 8 bytes, and the o % 8 bits passed of the next. Bits that are passed take part in the mark of I
  -- once their byte is whole, told or not; so the mark is a function, from the bits that follow to the place that
  -- they lead to.
  abbrev pub bits_model : Model (I × ℕ) Bool
  bits_model = record {
    elements = λ x. drop x.1 (all_bits (w.elements x.0));
    item_len = λ _. 1;
    Mark = List Bool → BitPlace;
    mark = λ x bs. past_bits (w.mark x.0) (take x.1 (all_bits (w.elements x.0)) ++ bs);
    mark_after = λ m xs bs. m (xs ++ bs);
    IsKnown = λ x. w.IsKnown x.0;
    IsMore = AreMoreBytes;
  }

  pub bits_lawful : InputLaws bits_model
  bits_lawful = record {
    positive = λ _. lit< tt;
    mark_none = λ _. refl;
    mark_more = λ m xs ys. fun_ext (λ bs. ap m (append_assoc xs ys bs));
  }

-- each bit is a value
pub bits_are_values : (bs : List Bool) → AreValues (λ _. Unit {0}) bs
bits_are_values [] = tt
bits_are_values (b ∷ bs) = (tt, bits_are_values bs)
