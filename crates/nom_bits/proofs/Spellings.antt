-- Numbers that bits spell, byte by byte.
use Rattle.std.proofs.Common.{◌≡◌, ℕ, ◌+◌, ◌-◌, ◌*◌, ◌/◌, ◌%◌, ◌^◌, ◌<◌, ◌≤◌, ◌⊎◌, inl, inr, Bool, true, false, cond, nat_eq, zero, suc, List, []}
use Rattle.std.proofs.Common.{◌∷◌, ◌++◌, length, Option, Some, None, take, drop, append-nil, min, refl, sym, ◌∙◌, ap, subst, arith}
use Rattle.std.specs.Iterator.{AlwaysYields}
use Rattle.std.proofs.lemmas.List.{drop-append-le, take-append-le, length-drop, length-take-le}
use Rattle.std.proofs.lemmas.Nat.{pow-add, one_shl}
use Rattle.std.proofs.Math.Nat.{pow-suc, mul-le-mul_left, div-div-eq-div-mul, mod-eq_of_lt}
use Rattle.std.proofs.Math.Seq.{take-append-add, take-length}
use Rattle.nom_internal.specs.Prelude.{is_bit, low_bits, byte_bits, all_bits, spelled_after, spelled}
use Rattle.nom_traits.specs.BitLists.{spelled-low_bits, length-byte_bits, length-all_bits}

-- bits after those of a number
pub spelled-append : (a : ℕ) (bs cs : List Bool) → spelled_after a (bs ++ cs) ≡ spelled_after (spelled_after a bs) cs
spelled-append a [] cs = refl
spelled-append a (b ∷ bs) cs = spelled-append (2 * a + cond b 1 0) bs cs

bit_small : (b : Bool) → cond b 1 0 ≤ 1
bit_small true = omega arith
bit_small false = omega arith

-- more bits make no number smaller
pub spelled_from : (a : ℕ) (bs : List Bool) → a ≤ spelled_after a bs
spelled_from a [] = omega arith
spelled_from a (b ∷ bs) = omega (arith, spelled_from (2 * a + cond b 1 0) bs)

once_more : (a c p : ℕ) → (2 * a + c + 1) * p ≡ 2 * (a * p) + p * c + p
once_more a c p = omega arith

doubled : (a p : ℕ) → (a + 1) * (p * 2) ≡ 2 * (a * p) + 2 * p
doubled a p = omega arith

power_step : (a c p q x : ℕ) → c ≤ 1 → q ≡ p * 2 → x < (2 * a + c + 1) * p → x < (a + 1) * q
power_step a c p q x h e k = subst (λ m. x < (a + 1) * m) (sym e) (omega (arith, k, once_more a c p, doubled a p, mul-le-mul_left p h))

-- and that many bits spell a number below their power of 2
pub spelled_below : (a : ℕ) (bs : List Bool) → spelled_after a bs < (a + 1) * 2 ^ length bs
spelled_below a [] = omega arith
spelled_below a (b ∷ bs) = power_step a (cond b 1 0) (2 ^ length bs) (2 ^ suc (length bs)) _ (bit_small b) (pow-suc 2 (length bs))
    (spelled_below (2 * a + cond b 1 0) bs)

-- the bits of a byte without the first
low-dropped : (p m b : ℕ) → drop p (low_bits (p + m) b) ≡ low_bits m b
low-dropped zero m b = let e : 0 + m ≡ m = omega arith in ap (λ k. low_bits k b) e
low-dropped (suc p) m b = let e : suc p + m ≡ suc (p + m) = omega arith in ap (λ k. drop (suc p) (low_bits k b)) e ∙ low-dropped p m b

-- and of those the first
low-taken : (n k b : ℕ) → take n (low_bits (n + k) b) ≡ low_bits n (b / 2 ^ k)
low-taken zero k b = refl
low-taken (suc n) k b =
    let e : suc n + k ≡ suc (n + k) = omega arith in
    let turned : n + k ≡ k + n = omega arith in
    let power : 2 ^ (n + k) ≡ 2 ^ k * 2 ^ n = ap (λ m. 2 ^ m) turned ∙ pow-add 2 k n in
    let there : b / 2 ^ (n + k) ≡ b / 2 ^ k / 2 ^ n = ap (λ m. b / m) power ∙ sym (div-div-eq-div-mul b (2 ^ k) (2 ^ n)) in
    ap (λ m. take (suc n) (low_bits m b)) e
    ∙ ap (λ m. nat_eq (m % 2) 1 ∷ take n (low_bits (n + k) b)) there
    ∙ ap (λ bs. is_bit (b / 2 ^ k) n ∷ bs) (low-taken n k b)

-- some bits of a byte, after those of a number
pub spelled-part : (value b p n : ℕ) → p + n ≤ 8 → spelled_after value (take n (drop p (byte_bits b))) ≡ value * 2 ^ n + b / 2 ^ (8 - p - n) % 2 ^ n
unfolding byte_bits
spelled-part value b p n h =
    let k = 8 - p - n in
    let whole : 8 ≡ p + (n + k) = omega (arith, h) in
    ap (λ m. spelled_after value (take n (drop p (low_bits m b)))) whole
    ∙ ap (λ bs. spelled_after value (take n bs)) (low-dropped p (n + k) b)
    ∙ ap (spelled_after value) (low-taken n k b)
    ∙ spelled-low_bits n value (b / 2 ^ k)

-- a number with a part of a byte after it, as it is computed
pub extends_to : (value b p n : ℕ) → p + n ≤ 8 → spelled_after value (take n (drop p (byte_bits b))) < 2 ^ 128 →
    value * 2 ^ n % 2 ^ 128 + b / 2 ^ (8 - p - n) % (1 * 2 ^ n % 2 ^ 16) ≡ spelled_after value (take n (drop p (byte_bits b)))
extends_to value b p n h f =
    let part = spelled-part value b p n h in
    let below : value * 2 ^ n < 2 ^ 128 = omega (arith, part, f) in
    ap (λ m. m + b / 2 ^ (8 - p - n) % (1 * 2 ^ n % 2 ^ 16)) (mod-eq_of_lt {n = value * 2 ^ n} {m = 2 ^ 128} below)
    ∙ ap (λ m. value * 2 ^ n + b / 2 ^ (8 - p - n) % m) (one_shl n 16 (omega (arith, h)))
    ∙ sym part

-- The number that all the bits spell, and how far it is read: what is read, and after it the bits that are left, spell it.
pub record IsSpelling {S : Type 0} (steps : S → Option ℕ → S → Type 0) (total left passed value : ℕ) (s : S) : Type 0 where
  pub rest : List ℕ
  pub gives : AlwaysYields steps (λ x. x) s rest
  pub to_come : spelled_after value (take left (drop passed (all_bits rest))) ≡ total
  pub offset : 0 < left → passed < 8
  pub enough : 0 < left → passed + left ≤ 8 * length rest

-- that many bits of a byte are read: those that are left, or all of the byte's
pub reads_byte : (value left p n b : ℕ) (xs : List ℕ) → p < 8 → n ≡ left ⊎ p + n ≡ 8 → n ≤ left → p + n ≤ 8 →
    spelled_after value (take left (drop p (all_bits (b ∷ xs)))) ≡ spelled_after (spelled_after value (take n (drop p (byte_bits b))))
    (take (left - n) (all_bits xs))
reads_byte value left p n b xs h which most within =
    let bits = drop p (byte_bits b) in
    let room : length bits ≡ 8 - p = length-drop p (byte_bits b) ∙ ap (λ m. m - p) (length-byte_bits b) in
    let split : drop p (all_bits (b ∷ xs)) ≡ bits ++ all_bits xs = drop-append-le p (byte_bits b) (all_bits xs) (omega (arith, h, length-byte_bits b)) in
    ap (λ bs. spelled_after value (take left bs)) split
    ∙ ap (spelled_after value) (taken bits (all_bits xs) left n (omega (arith, room, within)) most (ends which room))
    ∙ spelled-append value (take n bits) (take (left - n) (all_bits xs))
  where
    ends : n ≡ left ⊎ p + n ≡ 8 → length (drop p (byte_bits b)) ≡ 8 - p → n ≡ left ⊎ length (drop p (byte_bits b)) ≡ n
    ends (inl e) r = inl e
    ends (inr e) r = inr (omega (arith, e, r, within))

    taken : (ys zs : List Bool) (left n : ℕ) → n ≤ length ys → n ≤ left → n ≡ left ⊎ length ys ≡ n → take left (ys ++ zs) ≡ take n ys ++ take (left - n) zs
    taken ys zs left n f g (inl e) =
        let none : 0 ≡ left - n = omega (arith, e) in
        take-append-le left ys zs (omega (arith, e, f))
        ∙ ap (λ m. take m ys) (sym e)
        ∙ sym (append-nil (take n ys))
        ∙ ap (λ m. take n ys ++ take m zs) none
    taken ys zs left n f g (inr e) =
        let whole : left ≡ length ys + (left - n) = omega (arith, e, g) in
        ap (λ m. take m (ys ++ zs)) whole
        ∙ take-append-add ys zs (left - n)
        ∙ ap (λ bs. bs ++ take (left - n) zs) (sym (take-length ys) ∙ ap (λ m. take m ys) e)

-- what an iterator that has some items left gives next
next_given : {S : Type 0} (steps : S → Option ℕ → S → Type 0) (s t : S) (x : ℕ) (xs : List ℕ) → AlwaysYields steps (λ x. x) s xs → steps s (Some x) t →
    (ys : List ℕ) × (xs ≡ x ∷ ys) × AlwaysYields steps (λ x. x) t ys
next_given steps s t x [] h k = absurd (h x t k)
next_given steps s t x (y ∷ ys) h k = (ys, ap (λ z. z ∷ ys) (sym (h.1 x t k).0), (h.1 x t k).1)

none_left : {S : Type 0} (steps : S → Option ℕ → S → Type 0) (s t : S) (xs : List ℕ) → AlwaysYields steps (λ x. x) s xs → steps s None t → xs ≡ []
none_left steps s t [] h k = refl
none_left steps s t (y ∷ ys) h k = absurd (h.0 t k)

-- the number that the next bits spell
pub total_below : (count : ℕ) (bs : List Bool) → count ≤ length bs → spelled (take count bs) < 2 ^ count
total_below count bs h = omega (arith, spelled_below 0 (take count bs), ap (λ m. 2 ^ m) (length-take-le count bs h))

-- as many bits of a byte are read as are left, or as the byte has
some_of : (left p n k : ℕ) → left - (8 - p) ≡ k → p < 8 → n ≡ min left (8 - p) → n ≡ left ⊎ p + n ≡ 8
some_of left p n zero d h e = inl (omega (arith, d, e))
some_of left p n (suc k) d h e = inr (omega (arith, d, e, h))

pub some_or_all : (left p n : ℕ) → p < 8 → n ≡ min left (8 - p) → n ≡ left ⊎ p + n ≡ 8
some_or_all left p n h e = some_of left p n (left - (8 - p)) refl h e

module _ {S : Type 0} (steps : S → Option ℕ → S → Type 0) where
  pub begins : (xs : List ℕ) (o count : ℕ) (s : S) → AlwaysYields steps (λ x. x) s xs → (0 < count → o < 8) → count ≤ length (drop o (all_bits xs)) →
      IsSpelling steps (spelled (take count (drop o (all_bits xs)))) count o 0 s
  begins xs o count s g h f = record {
    rest = xs;
    gives = g;
    to_come = refl;
    offset = h;
    enough =
        λ some. omega (arith, f, some, length-drop o (all_bits xs), length-all_bits xs);
  }

  module _ (total left p value : ℕ) (s t : S) (r : IsSpelling steps total left p value s) where
    -- no bits are left
    pub all_read : left ≡ 0 → value ≡ total
    all_read e = ap (λ m. spelled_after value (take m (drop p (all_bits r.rest)))) (sym e) ∙ r.to_come

    none_to_read : (n : ℕ) → left ≡ n → steps s None t → left ≡ 0
    none_to_read zero e k = e
    none_to_read (suc n) e k = absurd (omega (arith, r.enough (omega (arith, e)), ap length (none_left steps s t r.rest r.gives k), e))

    pub ends : steps s None t → value ≡ total
    ends k = all_read (none_to_read left refl k)

    module _ (x n : ℕ) (k : steps s (Some x) t) (some : 0 < left) (e : n ≡ min left (8 - p)) where
      next : (ys : List ℕ) × (r.rest ≡ x ∷ ys) × AlwaysYields steps (λ x. x) t ys
      next = next_given steps s t x r.rest r.gives k

      reads : total ≡ spelled_after (spelled_after value (take n (drop p (byte_bits x)))) (take (left - n) (all_bits next.0))
      reads =
          let h = r.offset some in
          sym r.to_come
          ∙ ap (λ xs. spelled_after value (take left (drop p (all_bits xs)))) next.1
          ∙ reads_byte value left p n x next.0 h (some_or_all left p n h e) (omega (arith, e)) (omega (arith, e, h))

      pub part_below : total < 2 ^ 128 → spelled_after value (take n (drop p (byte_bits x))) < 2 ^ 128
      part_below h = omega (arith, h, reads, spelled_from (spelled_after value (take n (drop p (byte_bits x)))) (take (left - n) (all_bits next.0)))

      enough_left : n ≡ left ⊎ p + n ≡ 8 → 0 < left - n → 0 + (left - n) ≤ 8 * length next.0
      enough_left (inl f) h = absurd (omega (arith, f, h))
      enough_left (inr f) h = omega (arith, f, r.enough some, ap length next.1)

      pub goes_on : (more : ℕ) → more ≡ spelled_after value (take n (drop p (byte_bits x))) → IsSpelling steps total (left - n) 0 more t
      goes_on more f = record {
        rest = next.0;
        gives = next.2;
        to_come = ap (λ m. spelled_after m (take (left - n) (all_bits next.0))) f ∙ sym reads;
        offset = λ _. omega arith;
        enough = enough_left (some_or_all left p n (r.offset some) e);
      }
