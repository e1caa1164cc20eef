-- Forms of bits among bytes.
use Rattle.std.specs.Prelude.{◌≡◌, ℕ, ◌%◌, ◌<◌, Bool, true, false, List, [], ◌∷◌, ◌++◌, length, replicate}
use Rattle.std.proofs.Common.{arith, sym, ◌∙◌, ap, subst, append-nil, length-append}
use Rattle.std.proofs.lemmas.List.{length-replicate}
use Rattle.nom_internal.specs.Prelude.{Accept, AreBytes, AreValues, Fails, Grammar, Model, Needs, Outcome, Refuse, Stop}
use Rattle.nom_internal.specs.Prelude.{all_bits, bits_model, items_len-ones, same_cut}
use Rattle.nom_traits.specs.BitLists.{length-all_bits}
use Rattle.nom_bits.specs.BitRests.{all_bits-append, same_bytes}
use Rattle.nom_bits.specs.Bridges.{BitsBecome, bits_of, rounded_up}
use Rattle.nom_write.specs.BitForms.{InWholeBytes}
use Rattle.nom_write_canonical.specs.Forms.{AcceptsForms, HasFront, IsOneForm}

-- bits that fill whole bytes are those of the bytes
filled : (xs rest : List ℕ) (bs more : List Bool) → length bs % 8 ≡ 0 → length xs ≡ rounded_up (length bs) → bs ++ more ≡ all_bits (xs ++ rest) →
    all_bits xs ≡ bs
filled xs rest bs more whole count e =
    let size : length (all_bits xs) ≡ length bs = omega (arith, length-all_bits xs, count, whole) in
    (same_cut (λ _. 1) (λ _. omega arith) (all_bits xs) (all_bits rest) bs more (sym (all_bits-append xs rest) ∙ sym e)
    (items_len-ones (all_bits xs) ∙ (size ∙ sym (items_len-ones bs)))).0

module _ {I V O E F : Type 0} (w : Model I ℕ) (Converts : E → F → Type 0) {g : Grammar (I × ℕ) V O E} {Form : O → List Bool → Type 0} where
  -- a part each form of which fills whole bytes, so that no bits are ignored
  pub bits_accepts : ((v : O) (bs : List Bool) → Form v bs → length bs % 8 ≡ 0) → AcceptsForms (bits_model w) g Form →
      AcceptsForms w (bits_of w Converts g) (λ v. InWholeBytes (Form v))
  bits_accepts fills p = record {
    accepts = λ s. record {
      front = λ i n t known a. front i n t known a.outcome (subst (λ z. g.meaning.answers true z a.outcome) a.at_is.0 a.answered) a.fact;
    };
  }
    where
      Whole : V → List ℕ → Type 0
      Whole t xs = (v : O) → g.IsOutput t v → InWholeBytes (Form v) xs

      front : (i : I) (n : ℕ) (t : V) → w.IsKnown i → (o : Outcome V) → g.meaning.answers true (i, 0) o → BitsBecome w i o (Accept n t) →
          HasFront w (Whole t) i n
      front i n t known (Accept m u) a b =
          let same : u ≡ t = cc (sym b.2) in
          let size : b.0 ≡ n = cc (sym b.2) in
          let count = b.1 in
          let place = count.place in
          let part = (p.accepts true).front (i, 0) m u known a in
          let bits : length part.front ≡ m = sym (items_len-ones part.front) ∙ part.length_is in
          let many : length place.front ≡ rounded_up (length part.front) = count.count_is ∙ ap rounded_up (sym bits) in
          subst (λ z. HasFront w (Whole z) i n) same (record {
            front = place.front;
            rest = place.rest;
            whole = place.whole;
            length_is = place.length_is ∙ size;
            fact = λ v o. record {
              bits = part.front;
              form = part.fact v o;
              padded = record {
                zeros = 0;
                few = omega arith;
                bits_are = filled place.front place.rest part.front part.rest (fills v part.front (part.fact v o)) many
                    (sym part.whole ∙ ap all_bits place.whole) ∙ sym (append-nil part.front);
              };
            };
          })
      front i n t known Refuse a b = absurd (cc (b))
      front i n t known (Stop (Fails cause)) a b = absurd (cc (b))
      front i n t known (Stop (Needs k)) a b = absurd (cc (b))

-- all bits are values
bit_values : (bs : List Bool) → AreValues (λ _. Unit {0}) bs
bit_values [] = tt
bit_values (b ∷ bs) = (tt, bit_values bs)

-- one form in bits is one in whole bytes
pub group_one : {Form : List Bool → Type 0} → IsOneForm (λ _. Unit {0}) Form → IsOneForm (λ b. b < 256) (InWholeBytes Form)
group_one p = record {
  one = λ xs ys h k a b.
      let bits : a.bits ≡ b.bits = p.one a.bits b.bits (bit_values a.bits) (bit_values b.bits) a.form b.form in
      let x = a.padded in
      let y = b.padded in
      let zeros : x.zeros ≡ y.zeros = omega (
        arith,
        length-all_bits xs,
        length-all_bits ys,
        ap length x.bits_are,
        ap length y.bits_are,
        length-append a.bits (replicate x.zeros false),
        length-append b.bits (replicate y.zeros false),
        length-replicate x.zeros false,
        length-replicate y.zeros false,
        ap length bits,
        x.few,
        y.few,
      ) in
      same_bytes xs ys h k (x.bits_are ∙ (ap (λ bs. bs ++ replicate x.zeros false) bits ∙ (ap (λ n. b.bits ++ replicate n false) zeros ∙ sym y.bits_are)));
}
