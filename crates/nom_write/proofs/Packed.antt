-- Numbers in bits, and bits in bytes.
use Rattle.std.proofs.Common.{◌≡◌, ℕ, ◌+◌, ◌-◌, ◌*◌, ◌/◌, ◌%◌, ◌^◌, ◌<◌, ◌≤◌, ◌⊎◌, inl, inr, Bool, true, false, cond, zero, suc, min, List, []}
use Rattle.std.proofs.Common.{◌∷◌, ◌++◌, length, get_or, take, drop, append-nil, append_assoc, refl, sym, ◌∙◌, ap, subst, arith, length-append, length-drop}
use Rattle.std.specs.Prelude.{replicate}
use Rattle.std.proofs.Math.ListN.{drop_of_length-le}
use Rattle.std.proofs.Math.Nat.{pow-suc, div-add-mod}
use Rattle.std.proofs.Math.Pow.{pow_mono}
use Rattle.std.proofs.Math.Seq.{take-add}
use Rattle.std.proofs.lemmas.Grind.{flat_map-append}
use Rattle.std.proofs.lemmas.List.{drop_more, length-replicate, length-take-le, take_all}
use Rattle.std.proofs.lemmas.Nat.{mod_below}
use mir.Val.{bool_byte}
use Rattle.nom_internal.specs.Prelude.{is_bit, low_bits, byte_bits, all_bits, spelled_after, spelled}
use Rattle.nom_traits.specs.BitLists.{length-all_bits}
use Rattle.nom_bits.proofs.Spellings.{spelled-append, spelled_from, spelled_below}
use Rattle.nom_write.specs.BitForms.{IsPadded}
use Rattle.nom_write.specs.laws.BitReads.{bits_spelled}

-- one bit more
pub next_bit : (count done n : ℕ) → done < count → low_bits (count - done) n ≡ is_bit n (count - 1 - done) ∷ low_bits (count - (done + 1)) n
next_bit count done n h = of_left (count - done) (count - 1 - done) (count - (done + 1)) (omega (arith, h)) (omega (arith, h))
  where
    of_left : (a b c : ℕ) → a ≡ suc b → b ≡ c → low_bits a n ≡ is_bit n b ∷ low_bits c n
    of_left a b c e f = ap (λ m. low_bits m n) e ∙ ap (λ m. is_bit n b ∷ low_bits m n) f

-- a bit as a number, as the code computes it
as_number : (b : Bool) → bool_byte b ≡ cond b 1 0
as_number true = refl
as_number false = refl

-- zeros after a number
spelled_zeros : (v k : ℕ) → spelled_after v (replicate k false) ≡ v * 2 ^ k
spelled_zeros v zero = omega arith
spelled_zeros v (suc k) = spelled_zeros (2 * v + 0) k ∙ doubled v (2 ^ k) (2 ^ suc k) (pow-suc 2 k)
  where
    twice : (v p : ℕ) → (2 * v + 0) * p ≡ v * (p * 2)
    twice v p = omega arith

    doubled : (v p q : ℕ) → q ≡ p * 2 → (2 * v + 0) * p ≡ v * q
    doubled v p q e = twice v p ∙ ap (λ m. v * m) (sym e)

-- the byte of some bits, with zeros after them
pub byte_of_bits : (bs : List Bool) (v : ℕ) → length bs ≤ 8 → v ≡ spelled bs →
    (v * 2 ^ (8 - length bs) < 2 ^ 8) × (byte_bits (v * 2 ^ (8 - length bs)) ≡ bs ++ replicate (8 - length bs) false)
unfolding byte_bits
byte_of_bits bs v h e =
    let k = 8 - length bs in
    let cs = bs ++ replicate k false in
    let value : spelled cs ≡ v * 2 ^ k = spelled-append 0 bs (replicate k false) ∙ (spelled_zeros (spelled bs) k ∙ ap (λ m. m * 2 ^ k) (sym e)) in
    let count : length cs ≡ 8 = omega (arith, length-append bs (replicate k false), length-replicate k false, h) in (
      subst (λ m. m < 2 ^ 8) value (omega (arith, spelled_below 0 cs, ap (λ m. 2 ^ m) count)),
      ap (low_bits 8) (sym value) ∙ (ap (λ m. low_bits m (spelled cs)) (sym count) ∙ bits_spelled 0 cs),
    )

below_byte : (bs : List Bool) → length bs ≤ 8 → spelled bs < 256
below_byte bs h = omega (arith, spelled_below 0 bs, pow_mono {i = length bs} {j = 8} h)

-- one bit more is read of those of a byte
pub read_bit : (v i : ℕ) (bs : List Bool) → length bs ≤ 8 → i < length bs → spelled_after v (drop i bs) ≡ spelled bs →
    (2 * v + bool_byte (get_or bs i false) < 256) × (spelled_after (2 * v + bool_byte (get_or bs i false)) (drop (i + 1) bs) ≡ spelled bs)
read_bit v i bs h k e =
    let b = get_or bs i false in
    let next : spelled_after (2 * v + bool_byte b) (drop (i + 1) bs) ≡ spelled bs =
    ap (λ m. spelled_after (2 * v + m) (drop (i + 1) bs)) (as_number b) ∙ (ap (spelled_after v) (sym (drop_more bs i false k)) ∙ e) in
    (omega (arith, next, below_byte bs h, spelled_from (2 * v + bool_byte b) (drop (i + 1) bs)), next)

-- all bits of a byte are read
pub all_read : (v i : ℕ) (bs : List Bool) → length bs ≤ i → i ≤ length bs → spelled_after v (drop i bs) ≡ spelled bs → v ≡ spelled bs
all_read v i bs h k e = ap (spelled_after v) (sym (drop_of_length-le bs h)) ∙ e

-- no zeros stand after bits that fill their bytes
full : (bs : List Bool) (ys : List ℕ) → length bs ≡ 8 * length ys → IsPadded bs ys → all_bits ys ≡ bs
full bs ys e p =
    let none : p.zeros ≡ 0 =
    omega (arith, length-all_bits ys, ap length p.bits_are, length-append bs (replicate p.zeros false), length-replicate p.zeros false, e) in
    p.bits_are ∙ (ap (λ k. bs ++ replicate k false) none ∙ append-nil bs)

-- as many as there are, and no more than n
first : {A : Type 0} (xs : List A) (n k : ℕ) → k ≤ n → k ≡ n ⊎ k ≡ length xs → take k xs ≡ take n xs
first xs n k h (inl e) = ap (λ m. take m xs) e
first xs n k h (inr e) = take_all k xs (omega (arith, e)) ∙ sym (take_all n xs (omega (arith, e, h)))

least : (a b k d : ℕ) → a - b ≡ d → k ≡ min a b → k ≡ a ⊎ k ≡ b
least a b k zero h e = inl (omega (arith, h, e))
least a b k (suc d) h e = inr (omega (arith, h, e))

within_rest : (a b k e n : ℕ) → e ≡ k + a ⊎ e ≡ b → k < b → n ≡ e - k → n ≡ a ⊎ n ≡ b - k
within_rest a b k e n (inl h) more size = inl (omega (arith, h, size))
within_rest a b k e n (inr h) more size = inr (omega (arith, h, size))

-- a byte more
pub padded_more : (bs : List Bool) (ys : List ℕ) (b k e : ℕ) → length ys ≡ k → 8 * k < length bs → e ≡ min (8 * k + 8) (length bs) →
    byte_bits b ≡ take (e - 8 * k) (drop (8 * k) bs) ++ replicate (8 - length (take (e - 8 * k) (drop (8 * k) bs))) false →
    IsPadded (take (8 * k) bs) ys → IsPadded (take (8 * (k + 1)) bs) (ys ++ b ∷ [])
padded_more bs ys b k e count more end byte so_far =
    let front = take (8 * k) bs in
    let rest = drop (8 * k) bs in
    let n = e - 8 * k in
    let chunk = take n rest in
    let left : length rest ≡ length bs - 8 * k = length-drop (8 * k) bs in
    let within : n ≤ length rest = omega (arith, end, left) in
    let size : length chunk ≡ n = length-take-le n rest within in
    let whole : all_bits ys ≡ front = full front ys (omega (arith, length-take-le (8 * k) bs (omega (arith, more)), count)) so_far in
    let which : n ≡ 8 ⊎ n ≡ length bs - 8 * k =
    within_rest 8 (length bs) (8 * k) e n (least (8 * k + 8) (length bs) e _ refl end) more refl in
    let bits : take (8 * (k + 1)) bs ≡ front ++ chunk = ap (λ m. take m bs) {x = 8 * (k + 1)} {y = 8 * k + 8} (omega arith) ∙
    (take-add (8 * k) 8 bs ∙ ap (λ cs. front ++ cs) (sym (first rest 8 n (omega (arith, end)) (subst (λ m. n ≡ 8 ⊎ n ≡ m) (sym left) which)))) in
    record {
      zeros = 8 - length chunk;
      few = omega (arith, size, end, more);
      bits_are = flat_map-append byte_bits ys (b ∷ []) ∙ (ap (λ zs. zs ++ (byte_bits b ++ [])) whole ∙ (ap (λ zs. front ++ zs) (append-nil (byte_bits b) ∙
          byte) ∙ (sym (append_assoc front chunk (replicate (8 - length chunk) false)) ∙ ap (λ zs. zs ++ replicate (8 - length chunk) false) (sym bits))));
    }

below_of : (n p q r : ℕ) → p * q + r ≡ n → q ≤ 0 → r < p → n < p
below_of n p zero r e h k = omega (arith, e, k)
below_of n p (suc q) r e h k = absurd (omega (arith, h))

-- a number of which nothing is left without its lowest bits
pub fits_below : (n count : ℕ) → n / 2 ^ count ≤ 0 → n < 2 ^ count
fits_below n count h = below_of n (2 ^ count) (n / 2 ^ count) (n % 2 ^ count) (div-add-mod n (2 ^ count)) h
    (mod_below n (2 ^ count) (omega (arith, pow_mono {i = 0} {j = count} (omega arith))))
