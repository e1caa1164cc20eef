-- Forms of bit fields.
use Rattle.std.specs.Prelude.{◌≡◌, ℕ, ◌<◌, ◌≤◌, ◌^◌, Bool, true, false, nat_eq, List, [], ◌∷◌, length, refl}
use Rattle.std.proofs.Common.{arith, sym, ◌∙◌, ap}
use Rattle.std.proofs.Math.Pow.{pow_mono}
use Rattle.nom_internal.specs.Prelude.{Errors, Model, bits_model, items_len-ones, labelled, low_bits, spelled, valued}
use Rattle.nom_bits.proofs.Spellings.{spelled_below}
use Rattle.nom_bits.specs.Fields.{IsField, bool_meaning, tag_meaning, take_meaning}
use Rattle.nom_write.specs.BitForms.{AreBitsOf}
use Rattle.nom_write.specs.laws.BitReads.{bits_are_low}
use Rattle.nom_write_canonical.specs.Forms.{AcceptsForms, AcceptsItems, AcceptsOnly, HasFront, IsOneForm}
use Rattle.nom_write_canonical.specs.laws.CaseForms.{become_accepts, labelled_only}

-- bits spell a number that so many bits have
field_below : (bs : List Bool) (count width : ℕ) → length bs ≡ count → count ≤ width → spelled bs < 2 ^ width
field_below bs count width e h = omega (arith, spelled_below 0 bs, ap (λ n. 2 ^ n) e, pow_mono {i = count} {j = width} h)

one_bit_form : (bs : List Bool) → length bs ≡ 1 → bs ≡ nat_eq (spelled bs) 1 ∷ []
one_bit_form [] e = absurd (omega (arith, e))
one_bit_form (true ∷ []) e = refl
one_bit_form (false ∷ []) e = refl
one_bit_form (b ∷ c ∷ bs) e = absurd (omega (arith, e))

module _ {I : Type 0} (w : Model I ℕ) where
  -- a field that is accepted, with its bits
  field_front : (Fact : List Bool → Type 0) (i : I × ℕ) (n count number : ℕ) → n ≡ count → (f : IsField w i count number) → Fact f.field →
      HasFront (bits_model w) Fact i n
  field_front Fact i n count number e f p = record {
    front = f.field;
    rest = f.rest;
    whole = f.whole;
    length_is = items_len-ones f.field ∙ (f.count_is ∙ sym e);
    fact = p;
  }

  module _ {E : Type 0} (errs : Errors (I × ℕ) E) where
    field_only : (width count : ℕ) (s : Bool) → AcceptsOnly (bits_model w) ((take_meaning w errs width count).answers s)
        (λ number bs. (length bs ≡ count) × (spelled bs ≡ number))
    field_only width count s = record {
      front = λ i n number known a. field_front (λ bs. (length bs ≡ count) × (spelled bs ≡ number)) i n count number a.0 a.1 ((a.1).count_is, (a.1).number_is);
    }

    pub bool_accepts : AcceptsForms (bits_model w) (valued (bool_meaning w errs)) (λ v bs. bs ≡ v ∷ [])
    bool_accepts = record {
      accepts = λ s. become_accepts (bits_model w) (labelled (λ number. nat_eq number 1)) (λ number. nat_eq number 1)
          (labelled_only (λ number. nat_eq number 1)) ((take_meaning w errs 1 1).answers s)
          (λ number bs. (length bs ≡ 1) × (spelled bs ≡ number)) (λ b bs. (v : Bool) → v ≡ b → bs ≡ v ∷ [])
          (λ number bs f v e. one_bit_form bs f.0 ∙ ap (λ b. b ∷ []) (ap (λ m. nat_eq m 1) f.1 ∙ sym e)) (field_only 1 1 s);
    }

    -- of a type whose values are those of their numbers
    module _ {O : Type 0} (of_bits : ℕ → O) (bits : O → ℕ) (width : ℕ) (kept : (n : ℕ) → n < 2 ^ width → bits (of_bits n) ≡ n) (count : ℕ) where
      spelled_kept : (bs : List Bool) (v : O) (number : ℕ) → count ≤ width → length bs ≡ count → spelled bs ≡ number → v ≡ of_bits number →
          spelled bs ≡ bits v
      spelled_kept bs v number room e n o =
          sym (kept (spelled bs) (field_below bs count width e room)) ∙ ap bits (ap of_bits n ∙ sym o)

      pub take_bits_accepts : count ≤ width → AcceptsForms (bits_model w)
          (record { meaning = take_meaning w errs width count; IsOutput = λ t v. v ≡ of_bits t })
          (λ v. AreBitsOf count (bits v))
      take_bits_accepts room = record {
        accepts = λ s. record {
          front = λ i n number known a. field_front (λ bs. (v : O) → v ≡ of_bits number → AreBitsOf count (bits v) bs) i n count number a.0 a.1
              (λ v o. ((a.1).count_is, spelled_kept (a.1).field v number room (a.1).count_is (a.1).number_is o));
        };
      }

      module _ (pattern : ℕ) where
        pub tag_bits_accepts : count ≤ width → AcceptsForms (bits_model w)
            (record { meaning = tag_meaning w errs width pattern count; IsOutput = λ t v. v ≡ of_bits t })
            (λ v bs. (bits v ≡ pattern) × AreBitsOf count pattern bs)
        tag_bits_accepts room = record {
          accepts = λ s. record {
            front = λ i n number known a. field_front (λ bs. (v : O) → v ≡ of_bits number → (bits v ≡ pattern) × AreBitsOf count pattern bs) i n count number
                a.0 a.1 (λ v o. (
                  sym (spelled_kept (a.1).field v number room (a.1).count_is (a.1).number_is o) ∙ ((a.1).number_is ∙ a.2),
                  ((a.1).count_is, (a.1).number_is ∙ a.2),
                ));
          };
        }

        pub tag_bits_only : AcceptsItems (bits_model w) (record { meaning = tag_meaning w errs width pattern count; IsOutput = λ t v. v ≡ of_bits t })
            (low_bits count pattern)
        tag_bits_only = record {
          accepts = λ s. record {
            front = λ i n number known a. field_front (λ bs. bs ≡ low_bits count pattern) i n count number a.0 a.1
                (bits_are_low pattern count (a.1).field ((a.1).count_is, (a.1).number_is ∙ a.2));
          };
        }

-- as many bits spell a number in one way
pub bits_one : {IsValue : Bool → Type 0} (count number : ℕ) → IsOneForm IsValue (AreBitsOf count number)
bits_one count number = record { one = λ xs ys h k a b. bits_are_low number count xs a ∙ sym (bits_are_low number count ys b) }
