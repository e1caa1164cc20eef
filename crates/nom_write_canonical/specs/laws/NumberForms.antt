-- Bytes that write one number are one list of bytes.
use Rattle.std.specs.Prelude.{◌≡◌, ℕ, ◌+◌, ◌*◌, ◌^◌, ◌<◌, Bool, true, false, cond, nat_lt, List, [], ◌∷◌, ◌++◌, length, reverse, suc, refl, pos, ◌-◌, ◌-ℤ◌}
use Rattle.std.proofs.Common.{arith, sym, ◌∙◌, ap, subst}
use Rattle.std.proofs.lemmas.Int.{ints}
use Rattle.std.proofs.lemmas.List.{length-reverse, reverse-append, reverse-reverse}
use Rattle.std.proofs.lemmas.Nat.{pow-add}
use Rattle.nom_internal.specs.Prelude.{AreBytes, Errors, Model, digits_after, value_of, valued}
use Rattle.nom_number.specs.declared.order.Endianness.{Endianness}
use Rattle.nom_number.specs.Numbers.{binary_number, number_meaning, signed_of}
use Rattle.nom_number.specs.Orders.{is_big}
use Rattle.nom_write_canonical.specs.Forms.{AcceptsForms, IsOneForm}
use Rattle.nom_write_canonical.specs.laws.LeafForms.{number_accepts}
use Rattle.nom_write_canonical.specs.laws.SequenceForms.{renamed_accepts}

-- the digits of one number, after those of others
same_digits : (u v : ℕ) (xs ys : List ℕ) → AreBytes xs → AreBytes ys → length xs ≡ length ys → digits_after 256 u xs ≡ digits_after 256 v ys →
    (u ≡ v) × (xs ≡ ys)
same_digits u v [] [] h k e n = (n, refl)
same_digits u v [] (y ∷ ys) h k e n = absurd (omega (arith, e))
same_digits u v (x ∷ xs) [] h k e n = absurd (omega (arith, e))
same_digits u v (x ∷ xs) (y ∷ ys) h k e n =
    let r = same_digits (256 * u + x) (256 * v + y) xs ys h.1 k.1 (omega (arith, e)) n in
    let above : u ≡ v = omega (arith, r.0, h.0, k.0) in
    let here : x ≡ y = omega (arith, r.0, h.0, k.0) in
    (above, ap (λ z. z ∷ xs) here ∙ ap (λ zs. y ∷ zs) r.1)

bytes_joined : (xs ys : List ℕ) → AreBytes xs → AreBytes ys → AreBytes (xs ++ ys)
bytes_joined [] ys h k = k
bytes_joined (x ∷ xs) ys h k = (h.0, bytes_joined xs ys h.1 k)

bytes_reversed : (xs : List ℕ) → AreBytes xs → AreBytes (reverse xs)
bytes_reversed [] h = tt
bytes_reversed (x ∷ xs) h = subst AreBytes (sym (reverse-append (x ∷ []) xs)) (bytes_joined (reverse xs) (x ∷ []) (bytes_reversed xs h.1) (h.0, tt))

-- in either order
same_in_order : (big : Bool) (xs ys : List ℕ) → AreBytes xs → AreBytes ys → length xs ≡ length ys →
    value_of 256 (cond big xs (reverse xs)) ≡ value_of 256 (cond big ys (reverse ys)) → xs ≡ ys
same_in_order true xs ys h k e n = (same_digits 0 0 xs ys h k e n).1
same_in_order false xs ys h k e n =
    let turned = same_digits 0 0 (reverse xs) (reverse ys) (bytes_reversed xs h) (bytes_reversed ys k) (length-reverse xs ∙ (e ∙ sym (length-reverse ys))) n in
    sym (reverse-reverse xs) ∙ (ap reverse turned.1 ∙ reverse-reverse ys)

power_more : (n : ℕ) → 2 ^ (8 * suc n) ≡ 256 * 2 ^ (8 * n)
power_more n = ap (λ m. 2 ^ m) {x = 8 * suc n} {y = 8 + 8 * n} (omega arith) ∙ omega (arith, pow-add 2 8 (8 * n))

-- digits after a number below a bound
digits_below : (u bound : ℕ) (xs : List ℕ) → AreBytes xs → u < bound → digits_after 256 u xs < bound * 2 ^ (8 * length xs)
digits_below u bound [] h e = omega (arith, e)
digits_below u bound (x ∷ xs) h e =
    let r = digits_below (256 * u + x) (256 * bound) xs h.1 (omega (arith, h.0, e)) in
    subst (λ z. digits_after 256 (256 * u + x) xs < bound * z) (sym (power_more (length xs))) (omega (arith, r, spread bound (2 ^ (8 * length xs))))
  where
    spread : (k p : ℕ) → 256 * k * p ≡ k * (256 * p)
    spread k p = omega arith

below_in_order : (big : Bool) (xs : List ℕ) → AreBytes xs → value_of 256 (cond big xs (reverse xs)) < 2 ^ (8 * length xs)
below_in_order true xs h = omega (arith, digits_below 0 1 xs h (omega arith))
below_in_order false xs h = subst (λ n. value_of 256 (reverse xs) < 2 ^ (8 * n)) (length-reverse xs)
    (omega (arith, digits_below 0 1 (reverse xs) (bytes_reversed xs h) (omega arith)))

-- bits of a number are told by it
abbrev pub BitsOfNumber : {N : Type 0} → (ℕ → N) → ℕ → Type 0
BitsOfNumber of_bits count = (a b : ℕ) → a < 2 ^ (8 * count) → b < 2 ^ (8 * count) → of_bits a ≡ of_bits b → a ≡ b

pub binary_one : {N : Type 0} (of_bits : ℕ → N) (endian : Endianness) (count : ℕ) → BitsOfNumber of_bits count → (v : N) →
    IsOneForm (λ b. b < 256) (λ xs. (length xs ≡ count) × (of_bits (binary_number endian xs) ≡ v))
binary_one of_bits endian count same v = record {
  one = λ xs ys h k a b.
      let x = subst (λ n. binary_number endian xs < 2 ^ (8 * n)) a.0 (below_in_order (is_big endian) xs h) in
      let y = subst (λ n. binary_number endian ys < 2 ^ (8 * n)) b.0 (below_in_order (is_big endian) ys k) in
      same_in_order (is_big endian) xs ys h k (a.0 ∙ sym b.0) (same (binary_number endian xs) (binary_number endian ys) x y (a.1 ∙ sym b.1));
}

-- numbers whose bits are read with a sign
pub signed_bits : (bits a b : ℕ) → a < 2 ^ bits → b < 2 ^ bits → signed_of bits a ≡ signed_of bits b → a ≡ b
signed_bits bits a b h k e = signed (nat_lt a (2 ^ (bits - 1))) (nat_lt b (2 ^ (bits - 1))) e
  where
    signed : (x y : Bool) → cond x (pos a) (pos a -ℤ pos (2 ^ bits)) ≡ cond y (pos b) (pos b -ℤ pos (2 ^ bits)) → a ≡ b
    signed true true e = omega (arith, ints, e)
    signed true false e = absurd (omega (arith, ints, e, h, k))
    signed false true e = absurd (omega (arith, ints, e, h, k))
    signed false false e = omega (arith, ints, e)

one_byte : (xs : List ℕ) (v : ℕ) → length xs ≡ 1 → value_of 256 xs ≡ v → xs ≡ v ∷ []
one_byte [] v h e = absurd (omega (arith, h))
one_byte (x ∷ []) v h e = let same : x ≡ v = omega (arith, e) in ap (λ z. z ∷ []) same
one_byte (x ∷ y ∷ xs) v h e = absurd (omega (arith, h))

-- a byte is its own form
pub byte_accepts : {I E : Type 0} (w : Model I ℕ) (errs : Errors I E) → AcceptsForms w (valued (number_meaning w errs (value_of 256) 1)) (λ v xs. xs ≡ v ∷ [])
byte_accepts w errs = renamed_accepts (λ v xs f. one_byte xs v f.0 f.1) (number_accepts w errs (value_of 256) 1)
