-- Bits of bytes, and bytes of bits.
use Rattle.std.specs.Prelude.{◌≡◌, ℕ, ◌+◌, ◌*◌, ◌/◌, ◌%◌, ◌<◌, ◌^◌, Bool, cond, nat_eq, List, [], ◌∷◌, ◌++◌, length, refl}
use Rattle.std.proofs.Common.{zero, suc, arith, sym, ◌∙◌, ap, lit<, drop, take, append_assoc, length-append}
use Rattle.std.proofs.Math.Nat.{add-mul, mul_assoc, pow-suc, mod-lt, mod-eq_of_lt}
use Rattle.std.proofs.Math.Numerals.{one-add}
use Rattle.std.proofs.Math.Seq.{take-append-add, drop-append-add}
use Rattle.std.proofs.lemmas.Nat.{mod-pow-add}
use Rattle.nom_traits.specs.Bits.{is_bit, low_bits, byte_bits, all_bits, spelled_after, spelled, whole_bytes, bits_over, AreBytes}

bit_of_two : (n : ℕ) → n < 2 → cond (nat_eq n 1) 1 0 ≡ n
bit_of_two zero h = refl
bit_of_two (suc zero) h = refl
bit_of_two (suc (suc n)) h = absurd (omega arith)

-- the k low bits of b, after a, spell a * 2 ^ k and the k low digits of b
pub spelled-low_bits : (k a b : ℕ) → spelled_after a (low_bits k b) ≡ a * 2 ^ k + b % 2 ^ k
spelled-low_bits zero a b = omega arith
spelled-low_bits (suc k) a b =
    let v = cond (is_bit b k) 1 0 in
    let two : v ≡ b / 2 ^ k % 2 = bit_of_two (b / 2 ^ k % 2) (mod-lt (b / 2 ^ k) (lit< tt)) in
    let here : b % 2 ^ suc k ≡ (b / 2 ^ k % 2) * 2 ^ k + b % 2 ^ k = ap (λ n. b % 2 ^ n) (sym (one-add k)) ∙ mod-pow-add b 1 k in
    let past : (2 * a + v) * 2 ^ k ≡ 2 * a * 2 ^ k + v * 2 ^ k = add-mul (2 * a) v (2 ^ k) in
    let twice : 2 * a * 2 ^ k ≡ 2 * (a * 2 ^ k) = mul_assoc 2 a (2 ^ k) in
    let power : a * 2 ^ suc k ≡ a * 2 ^ k * 2 = ap (λ n. a * n) (pow-suc 2 k) ∙ sym (mul_assoc a (2 ^ k) 2) in
    let bit : v * 2 ^ k ≡ (b / 2 ^ k % 2) * 2 ^ k = ap (λ n. n * 2 ^ k) two in
    omega (arith, spelled-low_bits k (2 * a + v) b)

-- the bits of a byte spell it
pub spelled-byte : (b : ℕ) → b < 256 → spelled (byte_bits b) ≡ b
unfolding byte_bits
spelled-byte b h = spelled-low_bits 8 0 b ∙ omega (arith, mod-eq_of_lt {n = b} {m = 256} h)

pub length-byte_bits : (b : ℕ) → length (byte_bits b) ≡ 8
unfolding byte_bits
length-byte_bits b = refl

pub length-all_bits : (xs : List ℕ) → length (all_bits xs) ≡ 8 * length xs
length-all_bits [] = refl
length-all_bits (x ∷ xs) = omega (arith, length-append (byte_bits x) (all_bits xs), length-byte_bits x, length-all_bits xs)

-- bits after those of bytes
whole-byte : (b : ℕ) (bs : List Bool) → whole_bytes (byte_bits b ++ bs) ≡ spelled (byte_bits b) ∷ whole_bytes bs
unfolding byte_bits whole_bytes
whole-byte b bs = refl

over-byte : (b : ℕ) (bs : List Bool) → bits_over (byte_bits b ++ bs) ≡ bits_over bs
unfolding byte_bits bits_over
over-byte b bs = refl

pub whole-all_bits : (xs : List ℕ) (bs : List Bool) → AreBytes xs → whole_bytes (all_bits xs ++ bs) ≡ xs ++ whole_bytes bs
whole-all_bits [] bs h = refl
whole-all_bits (x ∷ xs) bs h =
    ap whole_bytes (append_assoc (byte_bits x) (all_bits xs) bs)
    ∙ whole-byte x (all_bits xs ++ bs)
    ∙ ap (λ b. b ∷ whole_bytes (all_bits xs ++ bs)) (spelled-byte x h.0)
    ∙ ap (λ ys. x ∷ ys) (whole-all_bits xs bs h.1)

pub over-all_bits : (xs : List ℕ) (bs : List Bool) → bits_over (all_bits xs ++ bs) ≡ bits_over bs
over-all_bits [] bs = refl
over-all_bits (x ∷ xs) bs =
    ap bits_over (append_assoc (byte_bits x) (all_bits xs) bs) ∙ over-byte x (all_bits xs ++ bs) ∙ over-all_bits xs bs

-- fewer bits than a byte has
pub few_bits : (bs : List Bool) → length bs < 8 → (whole_bytes bs ≡ []) × (bits_over bs ≡ bs)
unfolding whole_bytes bits_over
few_bits [] l = (refl, refl)
few_bits (a ∷ []) l = (refl, refl)
few_bits (a ∷ b ∷ []) l = (refl, refl)
few_bits (a ∷ b ∷ c ∷ []) l = (refl, refl)
few_bits (a ∷ b ∷ c ∷ d ∷ []) l = (refl, refl)
few_bits (a ∷ b ∷ c ∷ d ∷ e ∷ []) l = (refl, refl)
few_bits (a ∷ b ∷ c ∷ d ∷ e ∷ f ∷ []) l = (refl, refl)
few_bits (a ∷ b ∷ c ∷ d ∷ e ∷ f ∷ g ∷ []) l = (refl, refl)
few_bits (a ∷ b ∷ c ∷ d ∷ e ∷ f ∷ g ∷ h ∷ bs) l = absurd (omega (arith, l))

-- the first bits: those of the first bytes, and those of the next
take_nil : {A : Type 0} (n : ℕ) → let none : List A = [] in take n none ≡ none
take_nil zero = refl
take_nil (suc n) = refl

drop_nil : {A : Type 0} (n : ℕ) → let none : List A = [] in drop n none ≡ none
drop_nil zero = refl
drop_nil (suc n) = refl

more_bits : (k r b : ℕ) → 8 * suc k + r ≡ length (byte_bits b) + (8 * k + r)
more_bits k r b = omega (arith, length-byte_bits b)

pub take-all_bits : (k r : ℕ) (xs : List ℕ) → take (8 * k + r) (all_bits xs) ≡ all_bits (take k xs) ++ take r (all_bits (drop k xs))
take-all_bits zero r xs = let e : 8 * 0 + r ≡ r = omega arith in ap (λ n. take n (all_bits xs)) e
take-all_bits (suc k) r [] = take_nil (8 * suc k + r) ∙ sym (take_nil r)
take-all_bits (suc k) r (x ∷ xs) =
    ap (λ n. take n (byte_bits x ++ all_bits xs)) (more_bits k r x)
    ∙ take-append-add (byte_bits x) (all_bits xs) (8 * k + r)
    ∙ ap (λ bs. byte_bits x ++ bs) (take-all_bits k r xs)
    ∙ sym (append_assoc (byte_bits x) (all_bits (take k xs)) (take r (all_bits (drop k xs))))

pub drop-all_bits : (k r : ℕ) (xs : List ℕ) → drop (8 * k + r) (all_bits xs) ≡ drop r (all_bits (drop k xs))
drop-all_bits zero r xs = let e : 8 * 0 + r ≡ r = omega arith in ap (λ n. drop n (all_bits xs)) e
drop-all_bits (suc k) r [] = drop_nil (8 * suc k + r) ∙ sym (drop_nil r)
drop-all_bits (suc k) r (x ∷ xs) =
    ap (λ n. drop n (byte_bits x ++ all_bits xs)) (more_bits k r x)
    ∙ drop-append-add (byte_bits x) (all_bits xs) (8 * k + r)
    ∙ drop-all_bits k r xs

pub bytes_taken : (k : ℕ) (xs : List ℕ) → AreBytes xs → AreBytes (take k xs)
bytes_taken zero xs h = tt
bytes_taken (suc k) [] h = tt
bytes_taken (suc k) (x ∷ xs) h = (h.0, bytes_taken k xs h.1)
