-- The laws of bit fields.
use Rattle.std.specs.Prelude.{◌≡◌, ℕ, ◌<◌, Bool, true, false, length, refl}
use Rattle.std.proofs.Common.{sym, ◌∙◌, ap, subst, inl, inr, arith, length-append}
use Rattle.nom_internal.specs.Prelude.{Errors, Model, IsBoundary, Related, same_cut, items_len-ones, Slice, IsFirst, first_related, bits_model, spelled}
use Rattle.nom_internal.specs.Prelude.{IsLawful, IsSteady, LeafLaws, leaf_lawful, leaf_steady, premised_lawful, premised_steady}
use Rattle.nom_internal.specs.laws.CaseLaws.{labelled_lawful, labelled_steady}
use Rattle.nom_bits.specs.Fields.{IsField, IsShort, fields, tagged_fields, take_meaning, tag_meaning, bool_meaning}

module _ {I : Type 0} (w : Model I ℕ) where
  field_place : (i : I × ℕ) (n count number : ℕ) → n ≡ count → IsField w i count number → IsBoundary (bits_model w) i n
  field_place i n count number e f = record { front = f.field; rest = f.rest; whole = f.whole; length_is = items_len-ones f.field ∙ (f.count_is ∙ sym e) }

  one_number : (i : I × ℕ) (count m n : ℕ) → IsField w i count m → IsField w i count n → m ≡ n
  one_number i count m n f g =
      let ones : length f.field ≡ length g.field = f.count_is ∙ sym g.count_is in
      let cut = same_cut (λ _. 1) (λ _. omega arith) f.field f.rest g.field g.rest (sym f.whole ∙ g.whole)
      (items_len-ones f.field ∙ (ones ∙ sym (items_len-ones g.field))) in
      sym f.number_is ∙ (ap spelled cut.0 ∙ g.number_is)

  field_fits : (i : I × ℕ) (count number : ℕ) → IsField w i count number → IsShort w i count → ⊥
  field_fits i count number f h = omega (arith, ap length f.whole, length-append f.field f.rest, f.count_is)

  field_stays : (longer : Bool) (x y : I × ℕ) (count number : ℕ) → Related (bits_model w) longer x y → IsField w x count number → IsField w y count number
  field_stays longer x y count number r f =
      let t : Slice (bits_model w) = record { items = f.field; mark = (bits_model w).mark x } in
      let first : IsFirst (bits_model w) x count t = record
      { rest = f.rest; whole = f.whole; length_is = items_len-ones f.field ∙ f.count_is; mark_is = refl } in
      let there = first_related (bits_model w) longer x y count t r first in
      record { field = f.field; rest = there.rest; whole = there.whole; count_is = f.count_is; number_is = f.number_is }

  -- bits that lack in the complete mode lack on inputs that are equal as models
  short_consistent : (longer s : Bool) → (longer ≡ true → s ≡ true) → (x y : I × ℕ) (count : ℕ) → Related (bits_model w) longer x y → s ≡ false →
      IsShort w x count → IsShort w y count
  short_consistent true true only x y count r e h = absurd (cc (e))
  short_consistent true false only x y count r e h = let no : false ≡ true = only cc in absurd (cc (no))
  short_consistent false s only x y count r e h = subst (λ bs. length bs < count) r.elements_are h

  module _ (count : ℕ) where
    pub field_laws : LeafLaws (bits_model w) (fields w count)
    field_laws = record {
      place = λ s i n v h a. field_place i n count v a.0 a.1;
      one_accepted = λ s i n m u v h a b. (a.0 ∙ sym b.0, one_number i count u v a.1 b.1);
      one_lack = λ i j k h a b. a.1 ∙ sym b.1;
      accepted_refused = λ s i n v h a b. field_fits i count v a.1 b.1;
      accepted_lacks = λ i n v k h a b. field_fits i count v a.1 b.0;
      refused_lacks = λ i k h a b. absurd (cc (a.0));
      accepted_stays = λ longer s only x y n v kx ky r a. (a.0, field_stays longer x y count v r a.1);
      refused_stays = λ longer s only x y kx ky r a. (a.0, short_consistent longer s only x y count r a.0 a.1);
      lack_consistent = λ x y k kx ky r a. (subst (λ bs. length bs < count) r.elements_are a.0, a.1);
      accepted_settles = λ i n v h a. a;
      refused_settles = λ i h a. absurd (cc (a.0));
    }

  module _ (wanted count : ℕ) where
    tag_refused : (i : I × ℕ) (n v : ℕ) (s : Bool) → (tagged_fields w wanted count).Accepts s i n v → (tagged_fields w wanted count).Refuses s i → ⊥
    tag_refused i n v s a (inl b) = field_fits i count v a.1 b.1
    tag_refused i n v s a (inr b) = b.2 (one_number i count b.0 v b.1 a.1 ∙ a.2)

    tag_short : (i : I × ℕ) → (tagged_fields w wanted count).Refuses true i → IsShort w i count → ⊥
    tag_short i (inl a) b = absurd (cc (a.0))
    tag_short i (inr a) b = field_fits i count a.0 a.1 b

    tag_stays : (longer s : Bool) → (longer ≡ true → s ≡ true) → (x y : I × ℕ) → Related (bits_model w) longer x y →
        (tagged_fields w wanted count).Refuses s x → (tagged_fields w wanted count).Refuses s y
    tag_stays longer s only x y r (inl a) = inl (a.0, short_consistent longer s only x y count r a.0 a.1)
    tag_stays longer s only x y r (inr a) = inr (a.0, field_stays longer x y count a.0 r a.1, a.2)

    tag_settles : (i : I × ℕ) → (tagged_fields w wanted count).Refuses true i → (tagged_fields w wanted count).Refuses false i
    tag_settles i (inl a) = absurd (cc (a.0))
    tag_settles i (inr a) = inr a

    pub tag_laws : LeafLaws (bits_model w) (tagged_fields w wanted count)
    tag_laws = record {
      place = λ s i n v h a. field_place i n count v a.0 a.1;
      one_accepted = λ s i n m u v h a b. (a.0 ∙ sym b.0, one_number i count u v a.1 b.1);
      one_lack = λ i j k h a b. a.1 ∙ sym b.1;
      accepted_refused = λ s i n v h a b. tag_refused i n v s a b;
      accepted_lacks = λ i n v k h a b. field_fits i count v a.1 b.0;
      refused_lacks = λ i k h a b. tag_short i a b.0;
      accepted_stays = λ longer s only x y n v kx ky r a. (a.0, field_stays longer x y count v r a.1, a.2);
      refused_stays = λ longer s only x y kx ky r a. tag_stays longer s only x y r a;
      lack_consistent = λ x y k kx ky r a. (subst (λ bs. length bs < count) r.elements_are a.0, a.1);
      accepted_settles = λ i n v h a. a;
      refused_settles = λ i h a. tag_settles i a;
    }

  module _ {E : Type 0} (errs : Errors (I × ℕ) E) where
    pub take_lawful : (width count : ℕ) → IsLawful (bits_model w) (take_meaning w errs width count)
    take_lawful width count = premised_lawful (leaf_lawful (field_laws count))

    pub take_steady : (width count : ℕ) → IsSteady (bits_model w) (take_meaning w errs width count)
    take_steady width count = premised_steady (leaf_steady (field_laws count))

    pub tag_lawful : (width wanted count : ℕ) → IsLawful (bits_model w) (tag_meaning w errs width wanted count)
    tag_lawful width wanted count = premised_lawful (leaf_lawful (tag_laws wanted count))

    pub tag_steady : (width wanted count : ℕ) → IsSteady (bits_model w) (tag_meaning w errs width wanted count)
    tag_steady width wanted count = premised_steady (leaf_steady (tag_laws wanted count))

    pub bool_lawful : IsLawful (bits_model w) (bool_meaning w errs)
    bool_lawful = labelled_lawful (leaf_lawful (field_laws 1))

    pub bool_steady : IsSteady (bits_model w) (bool_meaning w errs)
    bool_steady = labelled_steady (leaf_steady (field_laws 1))
