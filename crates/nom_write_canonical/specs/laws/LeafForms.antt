-- Forms of leaves.
use Rattle.std.specs.Prelude.{◌≡◌, ℕ, Bool, List, length, Option, refl}
use Rattle.std.proofs.Common.{arith, sym, ◌∙◌, ap}
use Rattle.std.specs.Borrow.{Bor}
use Rattle.nom_internal.specs.Prelude.{Accept, ComparesBytes, Errors, IsFirst, Model, Slice, bytes_model, items_len}
use Rattle.nom_internal.specs.Prelude.{items_len-ones, labelled, same_cut, sliced, valued, IsModelledBy}
use Rattle.nom_bytes.specs.Takes.{take_meaning}
use Rattle.nom_bytes.specs.Tags.{tag_meaning}
use Rattle.nom_number.specs.Numbers.{bytes_lack, number_meaning}
use Rattle.nom_write.specs.Reads.{Holds}
use Rattle.nom_write_canonical.specs.Forms.{AcceptsForms, AcceptsItems, AcceptsOnly, FormOf, HasFront}
use Rattle.nom_write_canonical.specs.laws.CaseForms.{become_accepts, labelled_only}

-- a slice that is accepted
pub slice_front : {I A : Type 0} (w : Model I A) (Fact : List A → Type 0) (i : I) (n : ℕ) (t : Slice w) → IsFirst w i n t → Fact t.items → HasFront w Fact i n
slice_front w Fact i n t p f = record { front = t.items; rest = p.rest; whole = p.whole; length_is = p.length_is; fact = f }

-- a value that holds the items of a tree
pub is_held : {I A : Type 0} (w : Model I A) (t : Slice w) (v : I) (xs : List A) → IsModelledBy w t v → t.items ≡ xs → Holds w v xs
is_held w t v xs m e = record { known = m.known; elements_are = m.elements_are ∙ e }

module _ {I A E : Type 0} (w : Model I A) (errs : Errors I E) where
  -- as many items as are taken
  pub take_only : (lack : ℕ → List A → Option ℕ) (count : ℕ) (s : Bool) → AcceptsOnly w ((take_meaning w errs lack count).answers s)
      (λ t xs. (length xs ≡ count) × (t.items ≡ xs))
  take_only lack count s = record { front = λ i n t known a. slice_front w (λ xs. (length xs ≡ count) × (t.items ≡ xs)) i n t a.0 (a.1, refl) }

  pub take_accepts : (lack : ℕ → List A → Option ℕ) (count : ℕ) → AcceptsForms w (sliced w (take_meaning w errs lack count))
      (λ v xs. (length xs ≡ count) × Holds w v xs)
  take_accepts lack count = record {
    accepts = λ s. record {
      front = λ i n t known a. slice_front w (FormOf (sliced w (take_meaning w errs lack count)) (λ v xs. (length xs ≡ count) × Holds w v xs) t) i n t a.0
          (λ v m. (a.1, is_held w t v t.items m refl));
    };
  }

module _ {I E : Type 0} (w : Model I ℕ) (errs : Errors I E) where
  -- the items of a number
  pub number_accepts : {N : Type 0} (value : List ℕ → N) (count : ℕ) → AcceptsForms w (valued (number_meaning w errs value count))
      (λ v xs. (length xs ≡ count) × (value xs ≡ v))
  number_accepts value count = record {
    accepts = λ s. become_accepts w (labelled (λ t. value t.items)) (λ t. value t.items) (labelled_only (λ t. value t.items))
        ((take_meaning w errs (bytes_lack w) count).answers s) (λ t xs. (length xs ≡ count) × (t.items ≡ xs))
        (λ n xs. (v : _) → v ≡ n → (length xs ≡ count) × (value xs ≡ v))
        (λ t xs f v e. (f.0, ap value (sym f.1) ∙ sym e)) (take_only w errs (bytes_lack w) count s);
  }

module _ {E : Type 0} (errs : Errors (Bor (List ℕ)) E) (tag : List ℕ) where
  -- a slice that is accepted is the tag
  found : (s : Bool) (i : Bor (List ℕ)) (n : ℕ) (t : Slice bytes_model) → (tag_meaning bytes_model errs length ComparesBytes tag).answers s i (Accept n t) →
      t.items ≡ tag
  found s i n t a =
      let front = a.2 in
      let ones : (xs : List ℕ) → items_len (λ _. 1) xs ≡ length xs = items_len-ones in
      let same = same_cut (λ _. 1) (λ _. omega arith) t.items (a.1).rest front.front front.rest (sym (a.1).whole ∙ front.whole)
      ((a.1).length_is ∙ (a.0 ∙ (ap length (sym front.tag_is) ∙ sym (ones front.front)))) in
      same.0 ∙ front.tag_is

  pub tag_only : AcceptsItems bytes_model (sliced bytes_model (tag_meaning bytes_model errs length ComparesBytes tag)) tag
  tag_only = record {
    accepts = λ s. record { front = λ i n t known a. slice_front bytes_model (λ xs. xs ≡ tag) i n t a.1 (found s i n t a) };
  }

  pub tag_accepts : AcceptsForms bytes_model (sliced bytes_model (tag_meaning bytes_model errs length ComparesBytes tag))
      (λ v xs. (xs ≡ tag) × Holds bytes_model v tag)
  tag_accepts = record {
    accepts = λ s. record {
      front = λ i n t known a.
          let is = found s i n t a in
          slice_front bytes_model (λ xs. (v : Bor (List ℕ)) → IsModelledBy bytes_model t v → (xs ≡ tag) × Holds bytes_model v tag) i n t a.1
          (λ v m. (is, is_held bytes_model t v tag m is));
    };
  }
