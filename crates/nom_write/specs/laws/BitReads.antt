-- Laws of reading back bits, and bits among bytes.
use Rattle.std.specs.Prelude.{◌≡◌, ℕ, ◌+◌, ◌*◌, ◌/◌, ◌%◌, ◌<◌, ◌≤◌, ◌^◌, Bool, true, false, eqb, nat_eq, cond}
use Rattle.std.specs.Prelude.{List, [], ◌∷◌, ◌++◌, length, map, replicate, refl}
use Rattle.std.proofs.Common.{zero, suc, arith, sym, ◌∙◌, ap, subst, append_assoc, length-append}
use Rattle.std.proofs.Math.Nat.{mod-eq_of_lt, pow-suc}
use Rattle.std.proofs.lemmas.Bool.{eq-eqb}
use Rattle.std.proofs.lemmas.List.{length-map, length-replicate}
use Rattle.std.proofs.lemmas.Nat.{div-mul-add}
use Rattle.nom_internal.specs.Prelude.{Errors, Model, items_len, items_len-ones, same_cut, all_bits, bits_model, is_bit, low_bits, spelled, spelled_after}
use Rattle.nom_internal.specs.Prelude.{Accept, Fails, Grammar, IsCount, Needs, Refuse, Stop, valued}
use Rattle.nom_traits.specs.BitLists.{length-all_bits, spelled-low_bits}
use Rattle.nom_bits.proofs.Spellings.{spelled_below}
use Rattle.nom_bits.specs.BitRests.{all_bits-append}
use Rattle.nom_bits.specs.Bridges.{BitsBecome, bits_of, rounded_up}
use Rattle.nom_bits.specs.Fields.{bool_meaning, tag_meaning, take_meaning}
use Rattle.nom_bits.specs.laws.FieldLaws.{tag_lawful, take_lawful}
use Rattle.nom_write.specs.BitForms.{AreBitsOf, InWholeBytes, IsPadded}
use Rattle.nom_write.specs.FirstSets.{StartsWith, is_as_long, is_unlike, whole_first}
use Rattle.nom_write.specs.Reads.{Anything, NoItem, Reads, ReadsBefore, ReadsSome}
use Rattle.nom_write.specs.laws.FirstSetLaws.{whole_starts}
use Rattle.nom_write.specs.laws.LeafReads.{labelled_reads, lawful_reads, no_errors}

length-low_bits : (k n : ℕ) → length (low_bits k n) ≡ k
length-low_bits zero n = refl
length-low_bits (suc k) n = ap suc (length-low_bits k n)

-- the lowest bits of a number that fits into them spell it
pub bits_of_number : (count n : ℕ) → n < 2 ^ count → AreBitsOf count n (low_bits count n)
bits_of_number count n h = (length-low_bits count n, spelled-low_bits count 0 n ∙ omega (arith, mod-eq_of_lt {n = n} {m = 2 ^ count} h))

last_bit : (a p v : ℕ) (b : Bool) → v < p → nat_eq (((2 * a + cond b 1 0) * p + v) / p % 2) 1 ≡ b
last_bit a p v b h = ap (λ m. nat_eq (m % 2) 1) (div-mul-add (2 * a + cond b 1 0) p v h) ∙ low a b
  where
    low : (a : ℕ) (b : Bool) → nat_eq ((2 * a + cond b 1 0) % 2) 1 ≡ b
    low a true = ap (λ m. nat_eq m 1) {x = (2 * a + 1) % 2} {y = 1} (omega arith)
    low a false = ap (λ m. nat_eq m 1) {x = (2 * a + 0) % 2} {y = 0} (omega arith)

-- what bits spell after a number
spelled_apart : (a : ℕ) (bs : List Bool) → spelled_after a bs ≡ a * 2 ^ length bs + spelled bs
spelled_apart a [] = omega arith
spelled_apart a (b ∷ bs) = spread a (cond b 1 0) (2 ^ length bs) (2 ^ suc (length bs)) _ _ (spelled bs) (spelled_apart (2 * a + cond b 1 0) bs)
    (spelled_apart (2 * 0 + cond b 1 0) bs) (pow-suc 2 (length bs))
  where
    apart : (a d p : ℕ) → (2 * a + d) * p ≡ a * (p * 2) + d * p
    apart a d p = omega arith

    spread : (a d p q x y z : ℕ) → x ≡ (2 * a + d) * p + z → y ≡ (2 * 0 + d) * p + z → q ≡ p * 2 → x ≡ a * q + y
    spread a d p q x y z h k e = omega (arith, h, k, apart a d p, ap (λ m. a * m) e)

-- the lowest bits of the number that bits spell are these bits
pub bits_spelled : (a : ℕ) (bs : List Bool) → low_bits (length bs) (spelled_after a bs) ≡ bs
bits_spelled a [] = refl
bits_spelled a (b ∷ bs) =
    let here : is_bit (spelled_after (2 * a + cond b 1 0) bs) (length bs) ≡ b =
    ap (λ n. nat_eq (n / 2 ^ length bs % 2) 1) (spelled_apart (2 * a + cond b 1 0) bs) ∙
    last_bit a (2 ^ length bs) (spelled bs) b (omega (arith, spelled_below 0 bs)) in
    ap (λ c. c ∷ low_bits (length bs) (spelled_after (2 * a + cond b 1 0) bs)) here ∙ ap (λ cs. b ∷ cs) (bits_spelled (2 * a + cond b 1 0) bs)

one_bit : (v : Bool) → nat_eq (cond v 1 0) 1 ≡ v
one_bit true = refl
one_bit false = refl

module _ {I : Type 0} (w : Model I ℕ) (count number : ℕ) (bs : List Bool) (are : AreBitsOf count number bs) (s : Bool) (IsTree : ℕ → Type 0)
    (stands : IsTree number) where
  -- the bits of a number
  field_reads : (width : ℕ) → ReadsBefore (bits_model w) ((take_meaning w no_errors width count).answers s) IsTree Anything bs
  field_reads width = lawful_reads (bits_model w) (take_meaning w no_errors width count) (take_lawful w no_errors width count) s IsTree bs (λ i rest known e.
      (number, (items_len-ones bs ∙ are.0, record { field = bs; rest = rest; whole = e; count_is = are.0; number_is = are.1 }), stands))

  -- and of the one that is wanted
  wanted_reads : (width : ℕ) → ReadsBefore (bits_model w) ((tag_meaning w no_errors width number count).answers s) IsTree Anything bs
  wanted_reads width = lawful_reads (bits_model w) (tag_meaning w no_errors width number count) (tag_lawful w no_errors width number count) s IsTree bs
      (λ i rest known e. (
        number,
        (items_len-ones bs ∙ are.0, record { field = bs; rest = rest; whole = e; count_is = are.0; number_is = are.1 }, refl),
        stands,
      ))

module _ {I E : Type 0} (w : Model I ℕ) (errs : Errors (I × ℕ) E) where
  -- of a type whose values are those of their numbers
  module _ {O : Type 0} (of_bits : ℕ → O) (bits : O → ℕ) (exact : (v : O) → of_bits (bits v) ≡ v) (width : ℕ) where
    pub take_bits_reads : (count : ℕ) → Reads (bits_model w) (record { meaning = take_meaning w errs width count; IsOutput = λ t v. v ≡ of_bits t })
        (λ v. AreBitsOf count (bits v)) Anything
    take_bits_reads count = record { reads = λ v bs f s. field_reads w count (bits v) bs f s (λ t. v ≡ of_bits t) (sym (exact v)) width }

    pub tag_bits_reads : (pattern count : ℕ) →
        Reads (bits_model w) (record { meaning = tag_meaning w errs width pattern count; IsOutput = λ t v. v ≡ of_bits t })
        (λ v bs. (bits v ≡ pattern) × AreBitsOf count pattern bs) Anything
    tag_bits_reads pattern count = record {
      reads = λ v bs f s. wanted_reads w count pattern bs f.1 s (λ t. v ≡ of_bits t) (sym (exact v) ∙ ap of_bits f.0) width;
    }

    pub tag_bits_reads_some : (pattern count : ℕ) → pattern < 2 ^ count →
        ReadsSome (bits_model w) (record { meaning = tag_meaning w errs width pattern count; IsOutput = λ t v. v ≡ of_bits t }) (low_bits count pattern)
    tag_bits_reads_some pattern count fits = record {
      reads = λ s. wanted_reads w count pattern (low_bits count pattern) (bits_of_number count pattern fits) s (λ _. Unit {0}) tt width;
    }

  pub bool_reads : Reads (bits_model w) (valued (bool_meaning w errs)) (λ v bs. bs ≡ v ∷ []) Anything
  bool_reads = record {
    reads = λ v bs e s. labelled_reads (bits_model w) (λ number. nat_eq number 1) ((take_meaning w no_errors 1 1).answers s) (λ n. n ≡ cond v 1 0)
        (λ t. v ≡ t) Anything bs (λ n h. sym (ap (λ m. nat_eq m 1) h ∙ one_bit v))
        (field_reads w 1 (cond v 1 0) bs (ap length e, ap spelled e ∙ omega arith) s (λ n. n ≡ cond v 1 0) refl 1);
  }

-- a form of a tag is the tag
pub bits_are_low : (pattern count : ℕ) (bs : List Bool) → AreBitsOf count pattern bs → bs ≡ low_bits count pattern
bits_are_low pattern count bs f = sym (ap (λ m. low_bits m pattern) (sym f.0) ∙ (ap (low_bits (length bs)) (sym f.1) ∙ bits_spelled 0 bs))

-- the code of a bit
abbrev pub bit_code : Bool → ℕ
bit_code b = cond b 1 0

-- codes that a word is unlike are as many, or more
long_enough : (word codes : List ℕ) → is_as_long word codes ≡ true → length word ≤ length codes
long_enough [] cs h = omega arith
long_enough (b ∷ bs) [] h = absurd (cc (h))
long_enough (b ∷ bs) (c ∷ cs) h = omega (arith, long_enough bs cs h)

unlike_long : (word codes : List ℕ) → is_unlike word codes ≡ true → length word ≤ length codes
unlike_long [] cs h = omega arith
unlike_long (b ∷ bs) [] h = absurd (cc (h))
unlike_long (b ∷ bs) (c ∷ cs) h = by (eqb b c) h (unlike_long bs cs)
  where
    by : (same : Bool) → cond same (is_unlike bs cs) (is_as_long bs cs) ≡ true → (is_unlike bs cs ≡ true → length bs ≤ length cs) →
        suc (length bs) ≤ suc (length cs)
    by true h more = omega (arith, more h)
    by false h more = omega (arith, long_enough bs cs h)

-- and are those of other items
unlike_apart : {A : Type 0} (code : A → ℕ) (word front more rest : List A) → is_unlike (map code word) (map code front) ≡ true →
    word ++ more ≡ front ++ rest → ⊥
unlike_apart code [] front more rest h e = absurd (cc (h))
unlike_apart code (b ∷ bs) [] more rest h e = absurd (cc (h))
unlike_apart code (b ∷ bs) (c ∷ cs) more rest h e =
    let head : b ≡ c = cc (e) in
    let same : eqb (code b) (code c) ≡ true = eq-eqb (code b) (code c) (ap code head) in
    let on = ap (λ z. cond z (is_unlike (map code bs) (map code cs)) (is_as_long (map code bs) (map code cs))) (sym same) ∙ h in
    unlike_apart code bs cs more rest on (cc (e))

module _ {I E : Type 0} (w : Model I ℕ) (errs : Errors (I × ℕ) E) (width pattern count : ℕ) where
  -- A tag refuses as many bits that are others. Of fewer bits it would need more.
  tag_bits_refuse : (front rest : List Bool) → is_unlike (map bit_code (low_bits count pattern)) (map bit_code front) ≡ true →
      NoItem (bits_model w) (tag_meaning w errs width pattern count) (front ++ rest)
  tag_bits_refuse front rest h s i (Accept n t) known e k =
      let f = k.1 in
      let is : low_bits count pattern ≡ f.field = sym (bits_are_low pattern count f.field (f.count_is, f.number_is ∙ k.2)) in
      absurd (unlike_apart bit_code (low_bits count pattern) front f.rest rest h (ap (λ z. z ++ f.rest) is ∙ (sym f.whole ∙ e)))
  tag_bits_refuse front rest h s i Refuse known e k = refl
  tag_bits_refuse front rest h s i (Stop (Fails cause)) known e k = absurd k
  tag_bits_refuse front rest h s i (Stop (Needs m)) known e k = absurd (omega (
    arith,
    k.1.0,
    ap length e,
    length-append front rest,
    unlike_long (map bit_code (low_bits count pattern)) (map bit_code front) h,
    length-map (low_bits count pattern) bit_code,
    length-map front bit_code,
    length-low_bits count pattern,
  ))

  pub tag_bits_starts : StartsWith (bits_model w) bit_code (tag_meaning w errs width pattern count) (low_bits count pattern)
      (whole_first bit_code (low_bits count pattern))
  tag_bits_starts = whole_starts bit_code (tag_meaning w errs width pattern count) (low_bits count pattern) tag_bits_refuse

-- whole bytes, as many as bits with zeros after them fill
module _ {I : Type 0} (w : Model I ℕ) where
  counted : (i : I) (xs rest : List ℕ) (c m : ℕ) → w.elements i ≡ xs ++ rest → c ≡ length xs → IsCount w i c m → m ≡ items_len w.item_len xs
  counted i xs rest c m e f k =
      let p = k.place in
      let cut = same_cut (λ _. 1) (λ _. omega arith) p.front p.rest xs rest (sym p.whole ∙ e)
      (items_len-ones p.front ∙ (k.count_is ∙ (f ∙ sym (items_len-ones xs)))) in
      sym p.length_is ∙ ap (λ ys. items_len w.item_len ys) cut.0

pub rounded : (bs : List Bool) (xs : List ℕ) → IsPadded bs xs → rounded_up (length bs) ≡ length xs
rounded bs xs p = omega (
  arith,
  length-all_bits xs,
  ap length p.bits_are,
  length-append bs (replicate p.zeros false),
  length-replicate p.zeros false,
  p.few,
)

module _ {I V O E F : Type 0} (w : Model I ℕ) (Converts : E → F → Type 0) {g : Grammar (I × ℕ) V O E} {Form : O → List Bool → Type 0}
    {Follow : List Bool → Type 0} (all : (rest : List Bool) → Follow rest) (p : Reads (bits_model w) g Form Follow) where
  -- a part in bits, in whole bytes
  pub bits_reads : Reads w (bits_of w Converts g) (λ v. InWholeBytes (Form v)) Anything
  bits_reads = record { reads = reads }
    where
      reads : (v : O) (xs : List ℕ) → InWholeBytes (Form v) xs → (s : Bool) →
          ReadsBefore w ((bits_of w Converts g).meaning.answers s) (λ t. g.IsOutput t v) Anything xs
      reads v xs f s = record {
        read = λ i rest o known e k a.
            let bs = f.bits in
            let zs : List Bool = replicate f.padded.zeros false in
            let more : all_bits (w.elements i) ≡ bs ++ (zs ++ all_bits rest) = ap all_bits e ∙ (all_bits-append xs rest ∙
            (ap (λ ys. ys ++ all_bits rest) f.padded.bits_are ∙ append_assoc bs zs (all_bits rest))) in
            let r = (p.reads v bs f.form true).read (i, 0) (zs ++ all_bits rest) a.outcome known more (all (zs ++ all_bits rest))
            (subst (λ z. g.meaning.answers true z a.outcome) a.at_is.0 a.answered) in
            let b = subst (λ z. BitsBecome w i z o) r.1 a.fact in
            let count : rounded_up (items_len (λ _. 1) bs) ≡ length xs = ap rounded_up (items_len-ones bs) ∙ rounded bs xs f.padded in
            (r.0, b.2 ∙ ap (λ m. Accept m r.0) (counted w i xs rest _ b.0 e count b.1), r.2);
      }
