-- The bytes of a number, and the number that they write.
use Rattle.std.proofs.Common.{arith, ◌≡◌, ℕ, ◌+◌, ◌-◌, ◌*◌, ◌^◌, ◌<◌, ◌≤◌, ◌/◌, ◌%◌, zero, suc, List, [], ◌∷◌, ◌++◌, length, reverse, take, drop}
use Rattle.std.proofs.Common.{true, false, refl, sym, ◌∙◌, ap, subst, Result}
use Rattle.std.proofs.lemmas.List.{reverse-append}
use Rattle.std.proofs.lemmas.Nat.{div-mul-add, pow-add}
use Rattle.std.proofs.Math.Nat.{div-add-mod, mul-le-mul, pow-suc}
use Rattle.nom_number.specs.Orders.{is_big}
use Rattle.std.specs.Int.{byte_at, bytes_high_first, bytes_low_first}
use Rattle.nom_internal.specs.Prelude.{digits_after, value_of}
use Rattle.nom_number.specs.declared.order.Endianness.TheVariants.{Big, Little, Native}
use Rattle.nom_number.specs.declared.order.Endianness.{Endianness}
use Rattle.nom_sink.specs.Digits.{AreBytesOf}
use Rattle.nom_sink.specs.Written.{LacksRoom, SinkModel, Written}
use Rattle.nom_sink.specs.declared.error.WriteError.{WriteError}
use Rattle.nom_sink.proofs.Adding.{written_as}

-- the digits after a number add theirs
leading : (v : ℕ) (ds : List ℕ) → digits_after 256 v ds ≡ v * 256 ^ length ds + value_of 256 ds
leading v [] = omega arith
leading v (d ∷ ds) = spread v d (256 ^ length ds) (256 ^ suc (length ds)) _ _ (value_of 256 ds) (leading (256 * v + d) ds) (leading (256 * 0 + d) ds)
    (pow-suc 256 (length ds))
  where
    apart : (v d p : ℕ) → (256 * v + d) * p ≡ v * (p * 256) + d * p
    apart v d p = omega arith

    spread : (v d p q x y z : ℕ) → x ≡ (256 * v + d) * p + z → y ≡ (256 * 0 + d) * p + z → q ≡ p * 256 → x ≡ v * q + y
    spread v d p q x y z h k e = omega (arith, h, k, apart v d p, ap (λ m. v * m) e)

high_length : (k n : ℕ) → length (bytes_high_first k n) ≡ k
high_length zero n = refl
high_length (suc k) n = ap suc (high_length k n)

low_length : (i k n : ℕ) → length (bytes_low_first i k n) ≡ k
low_length i zero n = refl
low_length i (suc k) n = ap suc (low_length (suc i) k n)

more : (j k : ℕ) → suc j + k ≡ suc (j + k)
more j k = omega arith

-- the last bytes of more
drop_high : (j k n : ℕ) → drop j (bytes_high_first (j + k) n) ≡ bytes_high_first k n
drop_high zero k n = ap (λ j. bytes_high_first j n) (omega arith)
drop_high (suc j) k n = ap (λ m. drop (suc j) (bytes_high_first m n)) (more j k) ∙ drop_high j k n

-- the first bytes of more
take_low : (i j k n : ℕ) → take j (bytes_low_first i (j + k) n) ≡ bytes_low_first i j n
take_low i zero k n = refl
take_low i (suc j) k n = ap (λ m. take (suc j) (bytes_low_first i m n)) (more j k) ∙ ap (λ xs. byte_at i n ∷ xs) (take_low (suc i) j k n)

-- one byte more
low_more : (i k n : ℕ) → bytes_low_first i (suc k) n ≡ bytes_low_first i k n ++ byte_at (i + k) n ∷ []
low_more i zero n = ap (λ j. byte_at j n ∷ []) (omega arith)
low_more i (suc k) n = ap (λ xs. byte_at i n ∷ xs) (low_more (suc i) k n ∙ ap (λ j. bytes_low_first (suc i) k n ++ byte_at j n ∷ []) (omega arith))

-- the one order is the other, turned around
turned : (k n : ℕ) → reverse (bytes_low_first 0 k n) ≡ bytes_high_first k n
turned zero n = refl
turned (suc k) n = ap reverse (low_more 0 k n ∙ ap (λ j. bytes_low_first 0 k n ++ byte_at j n ∷ []) (omega arith)) ∙ (reverse-append
    (bytes_low_first 0 k n) (byte_at k n ∷ []) ∙ ap (λ xs. byte_at k n ∷ xs) (turned k n))

byte_is : (k n : ℕ) → byte_at k n ≡ n / 256 ^ k % 256
byte_is zero n = omega arith
byte_is (suc k) n = refl

-- the number of the lowest bytes, and what is above them
record Splits (k n : ℕ) : Type 0 where
  high : ℕ
  below : value_of 256 (bytes_high_first k n) < 256 ^ k
  whole : n ≡ high * 256 ^ k + value_of 256 (bytes_high_first k n)

times_most : (b p : ℕ) → b < 256 → b * p ≤ 255 * p
times_most b p h = mul-le-mul (omega (arith, h)) (omega arith)

-- one byte more
splits_more : (k n high p q v b : ℕ) → v < p → n ≡ high * p + v → q ≡ p * 256 → b ≡ n / p % 256 → (b * p + v < q) × (n ≡ high / 256 * q + (b * p + v))
splits_more k n high p q v b below whole q_is b_is =
    let above : n / p ≡ high = ap (λ m. m / p) whole ∙ div-mul-add high p v below in
    let low : b ≡ high % 256 = b_is ∙ ap (λ m. m % 256) above in
    let parts : high ≡ high / 256 * 256 + b = omega (arith, div-add-mod high 256, low) in
    let small : b < 256 = omega (arith, low) in
    let most : b * p ≤ 255 * p = times_most b p small in (
      omega (arith, most, below, q_is),
      omega (arith, whole, ap (λ m. m * p) parts, spread (high / 256) b p, ap (λ m. high / 256 * m) q_is),
    )
  where
    spread : (h b p : ℕ) → (h * 256 + b) * p ≡ h * (p * 256) + b * p
    spread h b p = omega arith

splits : (k n : ℕ) → Splits k n
splits zero n = record { high = n; below = omega arith; whole = omega arith }
splits (suc k) n =
    let s = splits k n in
    let v = value_of 256 (bytes_high_first k n) in
    let r = splits_more k n s.high (256 ^ k) (256 ^ suc k) v (byte_at k n) s.below s.whole (pow-suc 256 k) (byte_is k n) in
    let value : value_of 256 (bytes_high_first (suc k) n) ≡ byte_at k n * 256 ^ k + v =
    leading (256 * 0 + byte_at k n) (bytes_high_first k n) ∙ ap (λ j. (256 * 0 + byte_at k n) * 256 ^ j + v) (high_length k n) ∙ omega arith in
    record {
      high = s.high / 256;
      below = subst (λ z. z < 256 ^ suc k) (sym value) r.0;
      whole = subst (λ z. n ≡ s.high / 256 * 256 ^ suc k + z) (sym value) r.1;
    }

none_above : (high p v n : ℕ) → n ≡ high * p + v → n < p → v ≡ n
none_above zero p v n e h = omega (arith, e)
none_above (suc high) p v n e h = absurd (omega (arith, e, h, once high p))
  where
    once : (h p : ℕ) → suc h * p ≡ h * p + p
    once h p = omega arith

as_power : (k : ℕ) → 256 ^ k ≡ 2 ^ (8 * k)
as_power zero = refl
as_power (suc k) = pow-suc 256 k ∙ (omega (arith, as_power k, pow-add 2 8 (8 * k)) ∙ ap (λ m. 2 ^ m) {x = 8 + 8 * k} (omega arith))

-- the bytes of a number that fits into them write it
high_value : (k n : ℕ) → n < 2 ^ (8 * k) → value_of 256 (bytes_high_first k n) ≡ n
high_value k n h = let s = splits k n in none_above s.high (256 ^ k) (value_of 256 (bytes_high_first k n)) n s.whole (omega (arith, h, as_power k))

take_all : (k n : ℕ) → take k (bytes_high_first k n) ≡ bytes_high_first k n
take_all zero n = refl
take_all (suc k) n = ap (λ xs. byte_at k n ∷ xs) (take_all k n)

-- as the code cuts them from the bytes of a wider number
pub big_bytes : (endian : Endianness) (width count n : ℕ) → is_big endian ≡ true → count ≤ width → n < 2 ^ (8 * count) →
    AreBytesOf endian count n (take (width - (width - count)) (drop (width - count) (bytes_high_first width n)))
big_bytes Big width count n is below fits =
    let dropped : drop (width - count) (bytes_high_first width n) ≡ bytes_high_first count n =
    ap (λ m. drop (width - count) (bytes_high_first m n)) {x = width} {y = width - count + count} (omega (arith, below)) ∙ drop_high (width - count) count n in
    let left : width - (width - count) ≡ count = omega (arith, below) in
    let same : take (width - (width - count)) (drop (width - count) (bytes_high_first width n)) ≡ bytes_high_first count n =
    ap (λ xs. take (width - (width - count)) xs) dropped ∙ (ap (λ m. take m (bytes_high_first count n)) left ∙ take_all count n) in
    (ap length same ∙ high_length count n, ap (value_of 256) same ∙ high_value count n fits)
big_bytes Little width count n is below fits = absurd (cc (is))
big_bytes Native width count n is below fits = absurd (cc (is))

low_value : (width count n : ℕ) → count ≤ width → n < 2 ^ (8 * count) → (length (take count (bytes_low_first 0 width n)) ≡ count) ×
    (value_of 256 (reverse (take count (bytes_low_first 0 width n))) ≡ n)
low_value width count n below fits =
    let same : take count (bytes_low_first 0 width n) ≡ bytes_low_first 0 count n =
    ap (λ m. take count (bytes_low_first 0 m n)) {x = width} {y = count + (width - count)} (omega (arith, below)) ∙ take_low 0 count (width - count) n in
    (ap length same ∙ low_length 0 count n, ap (λ xs. value_of 256 (reverse xs)) same ∙ (ap (value_of 256) (turned count n) ∙ high_value count n fits))

pub little_bytes : (endian : Endianness) (width count n : ℕ) → is_big endian ≡ false → count ≤ width → n < 2 ^ (8 * count) →
    AreBytesOf endian count n (take count (bytes_low_first 0 width n))
little_bytes Big width count n is below fits = absurd (cc (is))
little_bytes Little width count n is below fits = low_value width count n below fits
little_bytes Native width count n is below fits = low_value width count n below fits

-- and as they are added
module _ {S : Type 0} (m : SinkModel S ℕ) (old new : S) (r : Result (Unit {0}) WriteError) (endian : Endianness) (width count n : ℕ) (bytes : List ℕ) where
  added : (xs : List ℕ) → AreBytesOf endian count n xs → Written (λ ys. ys ≡ xs) (LacksRoom (length xs)) m old new r →
      Written (AreBytesOf endian count n) (LacksRoom count) m old new r
  added xs a w = written_as m old new r (λ ys e. subst (AreBytesOf endian count n) (sym e) a) (λ s e h. subst (λ k. LacksRoom k s e) a.0 h) w

  pub big_added : bytes ≡ bytes_high_first width n → is_big endian ≡ true → count ≤ width → n < 2 ^ (8 * count) →
      Written (λ ys. ys ≡ take (width - (width - count)) (drop (width - count) bytes))
      (LacksRoom (length (take (width - (width - count)) (drop (width - count) bytes)))) m old new r →
      Written (AreBytesOf endian count n) (LacksRoom count) m old new r
  big_added e is below fits w = added _ (subst (λ xs. AreBytesOf endian count n (take (width - (width - count)) (drop (width - count) xs))) (sym e)
      (big_bytes endian width count n is below fits)) w

  pub little_added : bytes ≡ bytes_low_first 0 width n → is_big endian ≡ false → count ≤ width → n < 2 ^ (8 * count) →
      Written (λ ys. ys ≡ take count bytes) (LacksRoom (length (take count bytes))) m old new r →
      Written (AreBytesOf endian count n) (LacksRoom count) m old new r
  little_added e is below fits w = added _ (subst (λ xs. AreBytesOf endian count n (take count xs)) (sym e)
      (little_bytes endian width count n is below fits)) w
