-- Laws of reading back a length and what it counts.
use Rattle.std.specs.Prelude.{◌≡◌, ℕ, Bool, true, false, List, [], ◌∷◌, ◌++◌, length, Vec, Option, refl}
use Rattle.std.specs.List.{AllZip}
use Rattle.std.proofs.Common.{arith, sym, ◌∙◌, ap, subst, append-nil}
use Rattle.nom_internal.specs.Bounded.{bounded_family, held}
use Rattle.nom_internal.specs.Prelude.{Errors, Model, InputLaws, IsModelledBy, Outcome, Accept, Refuse, Stop, Fails, Needs, Grammar, IsOne, OfValue}
use Rattle.nom_internal.specs.Prelude.{LeafAnswers, Slice, items_len, items_len-append}
use Rattle.nom_traits.specs.Rests.{same_cut}
use Rattle.nom_bytes.specs.Takes.{take_meaning}
use Rattle.nom_repeat.specs.Items.{items_meaning}
use Rattle.nom_repeat.specs.Bounds.{exact_limits}
use Rattle.nom_multi.specs.Lengths.{HasSize, length_count_of, length_data_of}
use Rattle.nom_multi.specs.Values.{cuts, length_value_of, settled, settled_meaning, values_by_length, window_meaning}
use Rattle.nom_write.specs.Lengths.{FormOfSize}
use Rattle.nom_sink.specs.Lists.{EachForm, ItemForm}
use Rattle.nom_sink.specs.Parts.{AfterLength, Both}
use Rattle.nom_write.specs.Reads.{Anything, Holds, Reads, ReadsBefore}
use Rattle.nom_write.specs.laws.LeafReads.{no_errors, take_reads}
use Rattle.nom_write.specs.laws.ListReads.{exact_reads}
use Rattle.nom_write.specs.laws.SequenceReads.{as_whole, then_reads}

-- what is meant by the one value that a tree stands for
pub of_value_reads : {I A V Q : Type 0} (w : Model I A) (IsValue : V → Type 0) (N : V → I → Outcome Q → Type 0) (n : V) →
    ((k : V) → IsValue k → k ≡ n) → (IsTree : Q → Type 0) (Follow : List A → Type 0) (xs : List A) → ReadsBefore w (N n) IsTree Follow xs →
    ReadsBefore w (λ i o. OfValue IsValue (λ v. N v i o)) IsTree Follow xs
of_value_reads w IsValue N n one IsTree Follow xs p = record {
  read = λ i rest o known e f a. p.read i rest o known e f (subst (λ z. N z i o) (one a.value a.is_value) a.fact);
}

module _ {I A P O E : Type 0} {w : Model I A} (l : InputLaws w) (errs : Errors I E) (size : O → ℕ) {g : Grammar I P O E} (one : IsOne (HasSize g.IsOutput size))
    {Form : O → List A → Type 0} {Follow : List A → Type 0} (all : (rest : List A) → Follow rest) (p : Reads w g Form Follow) where
  -- a length, and as many items
  pub length_data_reads : (lack : ℕ → List A → Option ℕ) → ((m n : w.Mark) → m ≡ n) →
      Reads w (length_data_of w errs lack size g) (λ v. Both (FormOfSize size Form (length (w.elements v))) (Holds w v)) Anything
  length_data_reads lack one_mark = record { reads = reads }
    where
      reads : (v : I) (xs : List A) → Both (FormOfSize size Form (length (w.elements v))) (Holds w v) xs → (s : Bool) →
          ReadsBefore w ((length_data_of w errs lack size g).meaning.answers s) (λ t. IsModelledBy w t.1 v) Anything xs
      reads v xs f s =
          let n = f.first.0 in
          let ys = f.back in
          let count : length ys ≡ size n = sym (f.first.1 ∙ ap length f.second.elements_are) in
          as_whole w f.whole (then_reads w l (λ u t. (u, t)) (g.meaning.answers s)
          (λ u j o. OfValue (HasSize g.IsOutput size u) (λ k. (take_meaning w no_errors lack k).answers s j o)) (λ u. g.IsOutput u n) (λ t. IsModelledBy w t v)
          (λ t. IsModelledBy w t.1 v) (λ u t h k. k) Follow Anything f.front ys (λ rest h. all (ys ++ rest)) (p.reads n f.front f.first.2 s) (λ u h.
          of_value_reads w (HasSize g.IsOutput size u) (λ k. (take_meaning w no_errors lack k).answers s) (size n)
          (λ k is. one u k (size n) is (record { output = n; is_output = h; size_is = refl })) (λ t. IsModelledBy w t v) Anything ys
          (take_reads w s ys (λ t. IsModelledBy w t v) (λ t e. record {
            known = f.second.known;
            elements_are = f.second.elements_are ∙ sym e;
            mark_is = one_mark _ _;
          }) lack (size n) count)))

  -- a number, and as many items of another grammar
  pub length_count_reads : {U X M : Type 0} {h : Grammar I U X E} {NextForm : X → List A → Type 0} {NextFollow : List A → Type 0} →
      ((rest : List A) → NextFollow rest) → Reads w h NextForm NextFollow →
      Reads w (length_count_of {M = M} w errs size g h)
      (λ v. Both (FormOfSize size Form (length v.items)) (EachForm (ItemForm false NextForm) v.items)) Anything
  length_count_reads {U} {X} {M} {h} {NextForm} {NextFollow} next_all q = record { reads = reads }
    where
      reads : (v : Vec X M) (xs : List A) → Both (FormOfSize size Form (length v.items)) (EachForm (ItemForm false NextForm) v.items) xs → (s : Bool) →
          ReadsBefore w ((length_count_of {M = M} w errs size g h).meaning.answers s) (λ ts. AllZip h.IsOutput ts v.items) Anything xs
      reads v xs f s =
          let n = f.first.0 in
          let ys = f.back in
          as_whole w f.whole (then_reads w l (λ u t. t) (g.meaning.answers s)
          (λ u j o. OfValue (HasSize g.IsOutput size u) (λ k. (items_meaning w errs (exact_limits k) (Unit {0}) h.meaning).answers s j o))
          (λ u. g.IsOutput u n) (λ ts. AllZip h.IsOutput ts v.items) (λ ts. AllZip h.IsOutput ts v.items) (λ u t x k. k) Follow Anything f.front ys
          (λ rest k. all (ys ++ rest)) (p.reads n f.front f.first.2 s) (λ u x.
          of_value_reads w (HasSize g.IsOutput size u) (λ k. (items_meaning w errs (exact_limits k) (Unit {0}) h.meaning).answers s) (length v.items)
          (λ k is. one u k (size n) is (record { output = n; is_output = x; size_is = refl }) ∙ f.first.1) (λ ts. AllZip h.IsOutput ts v.items) Anything ys
          (exact_reads w l errs h NextForm NextFollow next_all q s v.items ys f.second)))

  -- a length, and a part in a window of that length
  module _ {U X : Type 0} {h : Grammar I U X E} {PartForm : X → List A → Type 0} {PartFollow : List A → Type 0} (units : (x : A) → w.item_len x ≡ 1)
      (ends : PartFollow []) (q : Reads w h PartForm PartFollow) where
    unit_len : (xs : List A) → items_len w.item_len xs ≡ length xs
    unit_len [] = refl
    unit_len (x ∷ xs) = omega (arith, units x, unit_len xs)

    window_read : (n : ℕ) (ys rest : List A) (i : I) → w.elements i ≡ ys ++ rest → items_len w.item_len ys ≡ n → (a : Outcome (Slice w)) →
        LeafAnswers (cuts w n) true i a → (t : Slice w) × (a ≡ Accept n t) × (t.items ≡ ys)
    window_read n ys rest i e c (Accept m t) k = (
      t,
      ap (λ z. Accept z t) k.1,
      (same_cut w.item_len l.positive t.items k.0.rest ys rest (sym k.0.whole ∙ e) (k.0.length_is ∙ (k.1 ∙ sym c))).0,
    )
    window_read n ys rest i e c Refuse k = absurd (k.1 (record { front = ys; rest = rest; whole = e; length_is = c }))
    window_read n ys rest i e c (Stop (Fails cause)) k = absurd k
    window_read n ys rest i e c (Stop (Needs m)) k =
        absurd (omega (arith, k.1.0, ap (λ z. items_len w.item_len z) e, items_len-append w.item_len ys rest, c))

    window_reads : (n : ℕ) (ys : List A) (s : Bool) → items_len w.item_len ys ≡ n →
        ReadsBefore w ((window_meaning w errs n).answers s) (λ t. t.items ≡ ys) Anything ys
    window_reads n ys s c = record {
      read = λ i rest o known e k a.
          let r = window_read n ys rest i e c a.outcome (subst (λ z. LeafAnswers (cuts w n) true z a.outcome) (sym a.at_is) a.answered) in
          (r.0, a.fact ∙ (r.1 ∙ ap (λ z. Accept z r.0) (sym c)), r.2);
    }

    -- the part, whatever the rest of the whole
    bound_reads : (s : Bool) (v : X) (ys : List A) → PartForm v ys → (t : Slice w) → t.items ≡ ys →
        ReadsBefore w (((bounded_family {I = I} w (IsModelledBy w) (settled_meaning errs h.meaning)).at t).answers s) (λ u. h.IsOutput u v) Anything []
    bound_reads s v ys f t t_is = record {
      read = λ i rest o known e k a.
          let b = a.answered in
          let r = (q.reads v ys f s).read a.at [] b.0 a.at_is.known (a.at_is.is_output.elements_are ∙ (t_is ∙ sym (append-nil ys))) ends b.1 in
          (r.0, a.fact ∙ ap held (b.2 ∙ ap settled r.1), r.2);
    }

    pub length_value_reads : Reads w (length_value_of w errs size g h) (λ v. AfterLength (FormOfSize size Form) (PartForm v)) Anything
    length_value_reads = record { reads = reads }
      where
        reads : (v : X) (xs : List A) → AfterLength (FormOfSize size Form) (PartForm v) xs → (s : Bool) →
            ReadsBefore w ((length_value_of w errs size g h).meaning.answers s) (λ u. h.IsOutput u v) Anything xs
        reads v xs f s =
            let n = f.size.0 in
            let ys = f.back in
            let count : items_len w.item_len ys ≡ size n = unit_len ys ∙ sym f.size.1 in
            as_whole w f.whole (then_reads w l (λ u t. t) (g.meaning.answers s)
            (λ u j o. OfValue (HasSize g.IsOutput size u) (λ k. ((values_by_length w errs h.meaning).at k).answers s j o))
            (λ u. g.IsOutput u n) (λ t. h.IsOutput t v) (λ t. h.IsOutput t v) (λ u t x k. k) Follow Anything f.front ys
            (λ rest k. all (ys ++ rest)) (p.reads n f.front f.size.2 s) (λ u x.
            of_value_reads w (HasSize g.IsOutput size u) (λ k. ((values_by_length w errs h.meaning).at k).answers s) (size n)
            (λ k is. one u k (size n) is (record { output = n; is_output = x; size_is = refl })) (λ t. h.IsOutput t v) Anything ys
            (as_whole w (sym (append-nil ys)) (then_reads w l (λ u t. t) ((window_meaning w errs (size n)).answers s)
            (λ t. ((bounded_family {I = I} w (IsModelledBy w) (settled_meaning errs h.meaning)).at t).answers s) (λ t. t.items ≡ ys)
            (λ t. h.IsOutput t v) (λ t. h.IsOutput t v) (λ u t x k. k) Anything Anything ys [] (λ rest k. tt) (window_reads (size n) ys s count)
            (λ t k. bound_reads s v ys f.part t k)))))
