-- Laws of reading back leaves.
use Rattle.std.specs.Prelude.{◌≡◌, ℕ, Bool, List, [], ◌∷◌, ◌++◌, length, Option, refl}
use Rattle.std.proofs.Common.{arith, sym, ◌∙◌, ap, subst}
use Rattle.nom_internal.specs.Prelude.{Errors, Model, items_len, items_len-ones, same_self, Slice, IsFirst, Meaning, IsLawful, Outcome}
use Rattle.nom_internal.specs.Prelude.{Accept, OnPart, labelled}
use Rattle.nom_internal.specs.Prelude.{bytes_model, bytes_lawful, bytes_comparing, ComparesBytes}
use Rattle.std.specs.Borrow.{Bor}
use Rattle.nom_internal.specs.Prelude.{IsModelledBy, sliced, success_lawful, success_meaning, valued}
use Rattle.nom_bytes.specs.Takes.{take_meaning}
use Rattle.nom_bytes.specs.laws.TakeLaws.{take_lawful}
use Rattle.nom_bytes.specs.Tags.{tag_meaning}
use Rattle.nom_bytes.specs.laws.TagLaws.{tag_lawful}
use Rattle.nom_internal.specs.Prelude.{value_of}
use Rattle.nom_number.specs.declared.order.Endianness.{Endianness}
use Rattle.nom_number.specs.Numbers.{binary_number, bytes_lack, number_meaning}
use Rattle.nom_write.specs.Reads.{Anything, Holds, Reads, ReadsBefore, ReadsSome}

-- what a lawful meaning accepts on each input that begins with the items is what it answers there
pub lawful_reads : {I A V E : Type 0} (w : Model I A) (m : Meaning I V E) → IsLawful w m → (s : Bool) (IsTree : V → Type 0) (xs : List A) →
    ((i : I) (rest : List A) → w.IsKnown i → w.elements i ≡ xs ++ rest → (t : V) × m.answers s i (Accept (items_len w.item_len xs) t) × IsTree t) →
    ReadsBefore w (m.answers s) IsTree Anything xs
lawful_reads w m l s IsTree xs f = record {
  read = λ i rest o known e h a.
      let k = f i rest known e in
      (k.0, l.one_outcome s i i o (Accept (items_len w.item_len xs) k.0) known known (same_self w i) a tt k.1, k.2);
}

-- nothing, which stands for a value
pub success_reads : {I A V : Type 0} (E : Type 0) (w : Model I A) (v : V) (s : Bool) (IsTree : V → Type 0) (Follow : List A → Type 0) → IsTree v →
    ReadsBefore w ((success_meaning {E = E} v).answers s) IsTree Follow []
success_reads E w v s IsTree Follow h =
    let p = lawful_reads w (success_meaning {E = E} v) success_lawful s IsTree [] (λ i rest known e. (v, (refl, refl), h)) in
    record { read = λ i rest o known e k a. p.read i rest o known e tt a }

-- a part with its trees labelled
pub labelled_reads : {I A P T : Type 0} (w : Model I A) (label : P → T) (F : I → Outcome P → Type 0) (IsPart : P → Type 0) (IsTree : T → Type 0)
    (Follow : List A → Type 0) (xs : List A) → ((u : P) → IsPart u → IsTree (label u)) → ReadsBefore w F IsPart Follow xs →
    ReadsBefore w (λ i o. OnPart (λ (x y : I). x ≡ y) F (λ _ a. o ≡ labelled label a) i) IsTree Follow xs
labelled_reads w label F IsPart IsTree Follow xs h p = record {
  read = λ i rest o known e f a.
      let k = p.read i rest a.outcome known e f (subst (λ z. F z a.outcome) (sym a.at_is) a.answered) in
      (label k.0, a.fact ∙ ap (λ z. labelled label z) k.1, h k.0 k.2);
}

-- errors that no parser makes: what is accepted tells nothing of errors
abbrev pub no_errors : {I : Type 0} → Errors I (Unit {0})
no_errors = record {
  of_kind = λ i k e. ⊥;
  appended = λ i k x e. ⊥;
  of_char = λ i c e. ⊥;
  joined = λ x y e. ⊥;
  grows = ⊥;
}

module _ {I A : Type 0} (w : Model I A) (s : Bool) (xs : List A) where
  -- as many items as are taken
  pub take_reads : (IsTree : Slice w → Type 0) → ((t : Slice w) → t.items ≡ xs → IsTree t) → (lack : ℕ → List A → Option ℕ) (count : ℕ) →
      length xs ≡ count → ReadsBefore w ((take_meaning w no_errors lack count).answers s) IsTree Anything xs
  take_reads IsTree stands lack count n = lawful_reads w (take_meaning w no_errors lack count) (take_lawful w no_errors lack count) s IsTree xs
      (λ i rest known e.
      let t : Slice w = record { items = xs; mark = w.mark i } in
      let first : IsFirst w i (items_len w.item_len xs) t = record { rest = rest; whole = e; length_is = refl; mark_is = refl } in
      (t, (first, n), stands t refl))

  -- the items of a number
  pub number_reads : {N : Type 0} (value : List A → N) (count : ℕ) (v : N) → length xs ≡ count → v ≡ value xs →
      ReadsBefore w ((number_meaning w no_errors value count).answers s) (λ t. v ≡ t) Anything xs
  number_reads value count v n e = labelled_reads w (λ t. value t.items) ((take_meaning w no_errors (bytes_lack w) count).answers s) (λ t. t.items ≡ xs)
      (λ t. v ≡ t) Anything xs (λ t h. e ∙ ap value (sym h)) (take_reads (λ t. t.items ≡ xs) (λ t h. h) (bytes_lack w) count n)

-- the bytes of a tag
tag_items : (tag : List ℕ) (s : Bool) (IsTree : Slice bytes_model → Type 0) → ((t : Slice bytes_model) → t.items ≡ tag → IsTree t) →
    ReadsBefore bytes_model ((tag_meaning bytes_model no_errors length ComparesBytes tag).answers s) IsTree Anything tag
tag_items tag s IsTree stands = lawful_reads bytes_model (tag_meaning bytes_model no_errors length ComparesBytes tag)
    (tag_lawful bytes_model bytes_lawful no_errors length ComparesBytes bytes_comparing tag) s IsTree tag (λ i rest known e.
    let t : Slice bytes_model = record { items = tag; mark = tt } in
    let first : IsFirst bytes_model i (items_len bytes_model.item_len tag) t = record { rest = rest; whole = e; length_is = refl; mark_is = refl } in
    (t, (items_len-ones tag, first, record { front = tag; rest = rest; whole = e; tag_is = refl }), stands t refl))

module _ {E : Type 0} (errs : Errors (Bor (List ℕ)) E) (tag : List ℕ) where
  pub tag_reads_some : ReadsSome bytes_model (sliced bytes_model (tag_meaning bytes_model errs length ComparesBytes tag)) tag
  tag_reads_some = record { reads = λ s. tag_items tag s (λ _. Unit {0}) (λ t h. tt) }

  pub tag_reads : Reads bytes_model (sliced bytes_model (tag_meaning bytes_model errs length ComparesBytes tag)) (λ v xs.
      (xs ≡ tag) × Holds bytes_model v tag) Anything
  tag_reads = record {
    reads = λ v xs f s. subst (ReadsBefore bytes_model ((tag_meaning bytes_model no_errors length ComparesBytes tag).answers s)
        (λ t. IsModelledBy bytes_model t v) Anything) (sym f.0) (tag_items tag s (λ t. IsModelledBy bytes_model t v)
        (λ t h. record { known = f.1.known; elements_are = f.1.elements_are ∙ sym h; mark_is = refl }));
  }

module _ {I E : Type 0} (w : Model I ℕ) (errs : Errors I E) where
  pub byte_reads : Reads w (valued (number_meaning w errs (value_of 256) 1)) (λ v xs. xs ≡ v ∷ []) Anything
  byte_reads = record { reads = λ v xs e s. number_reads w s xs (value_of 256) 1 v (ap length e) (omega arith ∙ ap (value_of 256) (sym e)) }

  -- a number in some bytes
  pub binary_reads : {N : Type 0} (of_bits : ℕ → N) (endian : Endianness) (count : ℕ) →
      Reads w (valued (number_meaning w errs (λ bytes. of_bits (binary_number endian bytes)) count))
      (λ v xs. (length xs ≡ count) × (of_bits (binary_number endian xs) ≡ v)) Anything
  binary_reads of_bits endian count = record {
    reads = λ v xs f s. number_reads w s xs (λ bytes. of_bits (binary_number endian bytes)) count v f.0 (sym f.1);
  }

-- a piece of that many items
pub take_value_reads : {I A E : Type 0} (w : Model I A) (errs : Errors I E) (lack : ℕ → List A → Option ℕ) (count : ℕ) → ((m n : w.Mark) → m ≡ n) →
    Reads w (sliced w (take_meaning w errs lack count)) (λ v xs. (length xs ≡ count) × Holds w v xs) Anything
take_value_reads w errs lack count one_mark = record {
  reads = λ v xs f s. take_reads w s xs (λ t. IsModelledBy w t v) (λ t e. record {
    known = f.1.known;
    elements_are = f.1.elements_are ∙ sym e;
    mark_is = one_mark _ _;
  }) lack count f.0;
}
