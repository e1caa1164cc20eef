-- Numbers that are written as items of an input.
use Rattle.std.specs.Prelude.{ℕ, ◌-◌, ◌*◌, ◌^◌, nat_lt, cond, List, reverse, Option, Some, None, suc, zero, ℤ, pos, ◌-ℤ◌}
use Rattle.nom_internal.specs.Prelude.{Errors, value_of, Model, items_len, Meaning, labelled_meaning}
use Rattle.nom_bytes.specs.Takes.{take_meaning}
use Rattle.nom_number.specs.declared.order.Endianness.{Endianness}
use Rattle.nom_number.specs.Orders.{is_big}

-- a size that lacks; where it is 0, it is unknown
abbrev pub lacking : ℕ → Option ℕ
lacking zero = None
lacking (suc n) = Some (suc n)

-- what lacks of that many bytes is their number less the input's length
abbrev pub bytes_lack : {I A : Type 0} → Model I A → ℕ → List A → Option ℕ
bytes_lack w count xs = lacking (count - items_len w.item_len xs)

-- the first items, as many as count, and the number that they write; where there are fewer, more is needed, or they are refused
abbrev pub number_meaning : {I A N E : Type 0} → (w : Model I A) → Errors I E → (List A → N) → ℕ → Meaning I N E
number_meaning w errs value count = labelled_meaning (λ t. value t.items) (take_meaning w errs (bytes_lack w) count)

-- the number that bytes write in an order
abbrev pub binary_number : Endianness → List ℕ → ℕ
binary_number endian bytes = value_of 256 (cond (is_big endian) bytes (reverse bytes))

-- the signed number of that many bits: less 2^bits, where the highest of them is set
abbrev pub signed_of : (bits : ℕ) → ℕ → ℤ
signed_of bits n = cond (nat_lt n (2 ^ (bits - 1))) (pos n) (pos n -ℤ pos (2 ^ bits))

-- a number of that many bytes
abbrev pub unsigned_meaning : {I E : Type 0} → Model I ℕ → Errors I E → Endianness → ℕ → Meaning I ℕ E
unsigned_meaning w errs endian count = number_meaning w errs (binary_number endian) count

abbrev pub signed_meaning : {I E : Type 0} → Model I ℕ → Errors I E → Endianness → ℕ → Meaning I ℤ E
signed_meaning w errs endian count = number_meaning w errs (λ bytes. signed_of (8 * count) (binary_number endian bytes)) count
