-- Forms of parts in sequence.
use Rattle.std.specs.Prelude.{◌≡◌, ℕ, ◌+◌, List, [], ◌∷◌, ◌++◌, refl}
use Rattle.std.proofs.Common.{arith, sym, ◌∙◌, ap, subst, append_assoc}
use Rattle.nom_internal.specs.Prelude.{AreValues, Grammar, InputLaws, IsSuffixOf, Model, Outcome, Then, items_len-append, pair_of}
use Rattle.nom_internal.specs.Tuples.{tuple_of}
use Rattle.nom_repeat.proofs.AcceptedMore.{first_accepts}
use Rattle.nom_sequence.specs.Sequences.{preceded_of, terminated_of}
use Rattle.nom_sink.specs.Parts.{Both}
use Rattle.nom_write.specs.laws.SequenceReads.{rest_follows}
use Rattle.nom_write_canonical.specs.Forms.{AcceptsForms, AcceptsItems, AcceptsOnly, FormOf, HasFront, IsOneForm}
use Rattle.nom_write_canonical.specs.laws.CaseForms.{front_by}

-- a front of a rest, after the front before it
pub front_joined : {I A : Type 0} (w : Model I A) → InputLaws w → (i j : I) (a c : ℕ) (First Next Whole : List A → Type 0) →
    ((xs ys : List A) → First xs → Next ys → Whole (xs ++ ys)) → HasFront w First i a → IsSuffixOf w i a j → HasFront w Next j c →
    HasFront w Whole i (a + c)
front_joined w l i j a c First Next Whole joins p s q =
    let rest : w.elements j ≡ p.rest = rest_follows w l i j p.front p.rest p.whole (subst (λ n. IsSuffixOf w i n j) (sym p.length_is) s) in
    record {
      front = p.front ++ q.front;
      rest = q.rest;
      whole = p.whole ∙ (ap (λ z. p.front ++ z) (sym rest ∙ q.whole) ∙ sym (append_assoc p.front q.front q.rest));
      length_is = omega (arith, items_len-append w.item_len p.front q.front, p.length_is, q.length_is);
      fact = joins p.front q.front p.fact q.fact;
    }

-- one part after another
pub then_accepts : {I A P Q T : Type 0} (w : Model I A) → InputLaws w → (tree : P → Q → T) (F : I → Outcome P → Type 0) (N : P → I → Outcome Q → Type 0)
    (First : P → List A → Type 0) (Next : P → Q → List A → Type 0) (Whole : T → List A → Type 0) →
    ((u : P) (v : Q) (xs ys : List A) → First u xs → Next u v ys → Whole (tree u v) (xs ++ ys)) → AcceptsOnly w F First →
    ((u : P) → AcceptsOnly w (N u) (Next u)) → AcceptsOnly w (Then w tree F N) Whole
then_accepts w l tree F N First Next Whole joins p q = record {
  front = λ i n t known a.
      let f = first_accepts w tree F N i n t a in
      let first = p.front i f.0 f.2 known f.5 in
      let next = (q f.2).front f.3 f.1 f.4 (f.6).known f.7 in
      let both = front_joined w l i f.3 f.0 f.1 (First f.2) (Next f.2 f.4) (Whole (tree f.2 f.4)) (joins f.2 f.4) first f.6 next in
      subst (λ m. HasFront w (Whole t) i m) (sym f.8) (subst (λ z. HasFront w (Whole z) i (f.0 + f.1)) (sym f.9) both);
}

module _ {I A V W O P E : Type 0} {w : Model I A} (l : InputLaws w) {g : Grammar I V O E} {h : Grammar I W P E} where
  pub pair_accepts : {First : O → List A → Type 0} {Next : P → List A → Type 0} → AcceptsForms w g First → AcceptsForms w h Next →
      AcceptsForms w (pair_of w g h) (λ v. Both (First v.0) (Next v.1))
  pair_accepts {First} {Next} p q = record {
    accepts = λ s. then_accepts w l (λ u v. (u, v)) (g.meaning.answers s) (λ u. h.meaning.answers s) (FormOf g First) (λ u. FormOf h Next)
        (FormOf (pair_of w g h) (λ v. Both (First v.0) (Next v.1)))
        (λ u t xs ys f n v k. record { front = xs; back = ys; whole = refl; first = f v.0 k.0; second = n v.1 k.1 }) (p.accepts s) (λ u. q.accepts s);
  }

  -- items, and then a form
  pub preceded_accepts : {items : List A} {Next : P → List A → Type 0} → AcceptsItems w g items → AcceptsForms w h Next →
      AcceptsForms w (preceded_of w g h) (λ v. Both (λ xs. xs ≡ items) (Next v))
  preceded_accepts {items} {Next} p q = record {
    accepts = λ s. then_accepts w l (λ u v. v) (g.meaning.answers s) (λ u. h.meaning.answers s) (λ u xs. xs ≡ items) (λ u. FormOf h Next)
        (FormOf h (λ v. Both (λ xs. xs ≡ items) (Next v)))
        (λ u t xs ys f n v k. record { front = xs; back = ys; whole = refl; first = f; second = n v k }) (p.accepts s) (λ u. q.accepts s);
  }

  -- a form, and then items
  pub terminated_accepts : {items : List A} {First : O → List A → Type 0} → AcceptsForms w g First → AcceptsItems w h items →
      AcceptsForms w (terminated_of w g h) (λ v. Both (First v) (λ xs. xs ≡ items))
  terminated_accepts {items} {First} p q = record {
    accepts = λ s. then_accepts w l (λ u v. u) (g.meaning.answers s) (λ u. h.meaning.answers s) (FormOf g First) (λ u v xs. xs ≡ items)
        (FormOf g (λ v. Both (First v) (λ xs. xs ≡ items)))
        (λ u t xs ys f n v k. record { front = xs; back = ys; whole = refl; first = f v k; second = n }) (p.accepts s) (λ u. q.accepts s);
  }

-- what is a form by another name
pub renamed_accepts : {I A V O E : Type 0} {w : Model I A} {g : Grammar I V O E} {Form Other : O → List A → Type 0} →
    ((v : O) (xs : List A) → Form v xs → Other v xs) → AcceptsForms w g Form → AcceptsForms w g Other
renamed_accepts f p = record {
  accepts = λ s. record { front = λ i n t known a. front_by (λ xs k v o. f v xs (k v o)) ((p.accepts s).front i n t known a) };
}

-- a tuple, by the nested pairs of its outputs
pub tuple_accepts : {I A V O F E : Type 0} {w : Model I A} {g : Grammar I V O E} {Form : O → List A → Type 0} (pairs : F → O) →
    AcceptsForms w g Form → AcceptsForms w (tuple_of pairs g) (λ v. Form (pairs v))
tuple_accepts pairs p = record {
  accepts = λ s. record { front = λ i n t known a. front_by (λ xs k v o. k (pairs v) o) ((p.accepts s).front i n t known a) };
}

-- lists of values that are joined are lists of values
pub values_apart : {A : Type 0} (IsValue : A → Type 0) (xs ys : List A) → AreValues IsValue (xs ++ ys) → AreValues IsValue xs × AreValues IsValue ys
values_apart IsValue [] ys h = (tt, h)
values_apart IsValue (x ∷ xs) ys h = let r = values_apart IsValue xs ys h.1 in ((h.0, r.0), r.1)

-- one form after another is one
pub both_one : {T : Type 0} {IsValue : T → Type 0} {A B : List T → Type 0} → IsOneForm IsValue A → IsOneForm IsValue B → IsOneForm IsValue (Both A B)
both_one {IsValue = IsValue} p q = record {
  one = λ xs ys h k a b.
      let x = values_apart IsValue a.front a.back (subst (AreValues IsValue) a.whole h) in
      let y = values_apart IsValue b.front b.back (subst (AreValues IsValue) b.whole k) in
      let first : a.front ≡ b.front = p.one a.front b.front x.0 y.0 a.first b.first in
      let second : a.back ≡ b.back = q.one a.back b.back x.1 y.1 a.second b.second in
      a.whole ∙ (ap (λ z. z ++ a.back) first ∙ (ap (λ z. b.front ++ z) second ∙ sym b.whole));
}

-- what has a fact of one form beside it
pub one_beside : {T : Type 0} {IsValue : T → Type 0} {A B : List T → Type 0} → ((xs : List T) → B xs → A xs) → IsOneForm IsValue A → IsOneForm IsValue B
one_beside f p = record { one = λ xs ys h k a b. p.one xs ys h k (f xs a) (f ys b) }

-- items that are given
pub items_one : {A : Type 0} {IsValue : A → Type 0} (items : List A) → IsOneForm IsValue (λ xs. xs ≡ items)
items_one items = record { one = λ xs ys h k a b. a ∙ sym b }
