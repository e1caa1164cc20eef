-- Forms of lists, and of lengths and what they count.
use Rattle.std.specs.Prelude.{◌≡◌, ℕ, ◌+◌, ◌<◌, ◌≤◌, Bool, true, false, List, [], ◌∷◌, ◌++◌, length, Option, Some, None, Vec, refl}
use Rattle.std.specs.List.{AllZip}
use Rattle.std.proofs.Common.{arith, sym, ◌∙◌, ap, subst, inl, inr}
use Rattle.std.proofs.lemmas.Slice.Zip.{AllZip-long}
use Rattle.nom_internal.specs.Prelude.{Errors, Grammar, InputLaws, IsModelledBy, Model, OfValue, Outcome, Slice}
use Rattle.nom_internal.specs.Prelude.{items_len}
use Rattle.nom_error.specs.declared.kind.ErrorKind.TheVariants as Kind
use Rattle.nom_bytes.specs.Takes.{take_meaning}
use Rattle.nom_multi.specs.Bounded.{count_of}
use Rattle.nom_multi.specs.Many.{many0_of}
use Rattle.nom_multi.specs.Lengths.{HasSize, length_count_of, length_data_of}
use Rattle.nom_repeat.specs.Accepted.{EndsItems, TakesItem}
use Rattle.nom_repeat.specs.Bounds.{any_limits, exact_limits}
use Rattle.nom_repeat.specs.Items.{items_meaning}
use Rattle.nom_repeat.specs.Repeat.{Pieces}
use Rattle.nom_repeat.proofs.AcceptedItems.{accepted_in_turn}
use Rattle.nom_write.specs.Lengths.{FormOfSize}
use Rattle.nom_sink.specs.Lists.{EachForm, ItemForm}
use Rattle.nom_sink.specs.Parts.{Both}
use Rattle.nom_write.specs.Reads.{Holds}
use Rattle.nom_write_canonical.specs.Forms.{AcceptsForms, AcceptsOnly, FormOf, HasFront, IsOneForm}
use Rattle.nom_write_canonical.specs.laws.CaseForms.{front_by}
use Rattle.nom_write_canonical.specs.laws.LeafForms.{is_held, take_only}
use Rattle.nom_write_canonical.specs.laws.SequenceForms.{both_one, items_one, front_joined, one_beside, then_accepts}

-- items of a length aren't none
some_items : {A : Type 0} (item_len : A → ℕ) (xs : List A) → 0 < items_len item_len xs → 0 < length xs
some_items item_len [] h = absurd (omega (arith, h))
some_items item_len (x ∷ xs) h = omega arith

-- the length of a front beside its fact
measured : {I A : Type 0} {w : Model I A} {Fact : List A → Type 0} {i : I} {n : ℕ} → HasFront w Fact i n →
    HasFront w (λ xs. Fact xs × (items_len w.item_len xs ≡ n)) i n
measured p = record { front = p.front; rest = p.rest; whole = p.whole; length_is = p.length_is; fact = (p.fact, p.length_is) }

module _ {I A V O E : Type 0} (w : Model I A) (l : InputLaws w) (g : Grammar I V O E) (Form : O → List A → Type 0) (p : AcceptsForms w g Form) (s : Bool)
    (May : ℕ → Type 0) (some : Bool) (long : (n : ℕ) → May n → some ≡ true → 0 < n) (least : ℕ) (most : Option ℕ) where
  abbrev Forms : List V → List A → Type 0
  Forms ts xs = (vs : List O) → AllZip g.IsOutput ts vs → EachForm (ItemForm some Form) vs xs

  -- an item, and those after it
  item_first : (n : ℕ) → May n → (t : V) (ts : List V) (xs ys : List A) → FormOf g Form t xs × (items_len w.item_len xs ≡ n) → Forms ts ys →
      Forms (t ∷ ts) (xs ++ ys)
  item_first n may t ts xs ys f more [] z = absurd z
  item_first n may t ts xs ys f more (v ∷ vs) z = record {
    front = xs;
    back = ys;
    whole = refl;
    first = (f.0 v z.0, λ e. some_items w.item_len xs (subst (λ m. 0 < m) (sym f.1) (long n may e)));
    second = more vs z.1;
  }

  none_left : (vs : List O) → AllZip g.IsOutput [] vs → EachForm (ItemForm some Form) vs []
  none_left [] z = refl
  none_left (v ∷ vs) z = absurd z

  pub items_front : (k : ℕ) (i : I) (ts : List V) (n : ℕ) → w.IsKnown i → Pieces w (TakesItem (g.meaning.answers s) May most)
      (EndsItems (g.meaning.answers s) least most) k i ts n → HasFront w (Forms ts) i n
  items_front k i [] n known q = record { front = []; rest = w.elements i; whole = refl; length_is = sym q.0; fact = none_left }
  items_front k i (t ∷ ts) n known q =
      let first = measured ((p.accepts s).front i q.0 t known (q.3).1) in
      let next = items_front (k + 1) q.2 ts q.1 (q.4).known q.5 in
      subst (λ m. HasFront w (Forms (t ∷ ts)) i m) (sym q.6) (front_joined w l i q.2 q.0 q.1
      (λ xs. FormOf g Form t xs × (items_len w.item_len xs ≡ q.0)) (Forms ts) (Forms (t ∷ ts)) (item_first q.0 (q.3).2 t ts) first q.4 next)

-- just as many items as there may be
exactly : {I A V : Type 0} (w : Model I A) (Item : I → Outcome V → Type 0) (May : ℕ → Type 0) (most k : ℕ) (i : I) (ts : List V) (n : ℕ) → k ≤ most →
    Pieces w (TakesItem Item May (Some most)) (EndsItems Item most (Some most)) k i ts n → k + length ts ≡ most
exactly w Item May most k i [] n h q = ends q.1
  where
    ends : EndsItems Item most (Some most) k i → k + 0 ≡ most
    ends (inl z) = absurd (omega (arith, z.0, z.2))
    ends (inr z) = omega (arith, h, z)
exactly w Item May most k i (t ∷ ts) n h q = omega (arith, exactly w Item May most (k + 1) q.2 ts q.1 (omega (arith, (q.3).0)) q.5)

module _ {I A V O E : Type 0} {w : Model I A} (l : InputLaws w) (errs : Errors I E) {g : Grammar I V O E} {Form : O → List A → Type 0}
    (p : AcceptsForms w g Form) where
  -- any number of items
  pub many0_accepts : {M : Type 0} → AcceptsForms w (many0_of {M = M} w errs g) (λ v. EachForm (ItemForm true Form) v.items)
  many0_accepts = record {
    accepts = λ s. record {
      front = λ i n ts known a. front_by (λ xs k v z. k v.items z) (items_front w l g Form p s (λ a. 0 < a) true (λ n h e. h) 0 None 0 i ts n known
          (accepted_in_turn w errs (any_limits Kind.Many0) (Unit {0}) g.meaning s i n ts a));
    };
  }

  -- just that many
  pub exact_accepts : (s : Bool) (count : ℕ) → AcceptsOnly w ((items_meaning w errs (exact_limits count) (Unit {0}) g.meaning).answers s)
      (λ ts xs. (length ts ≡ count) × ((vs : List O) → AllZip g.IsOutput ts vs → EachForm (ItemForm false Form) vs xs))
  exact_accepts s count = record {
    front = λ i n ts known a.
        let q = accepted_in_turn w errs (exact_limits count) (Unit {0}) g.meaning s i n ts a in
        let total : 0 + length ts ≡ count = exactly w (g.meaning.answers s) (λ a. Unit {0}) count 0 i ts n (omega arith) q in
        front_by (λ xs k. (omega (arith, total), k))
        (items_front w l g Form p s (λ a. Unit {0}) false (λ n h e. absurd (cc (e))) count (Some count) 0 i ts n known q);
  }

  pub count_accepts : {M : Type 0} (count : ℕ) → AcceptsForms w (count_of {M = M} w errs count g)
      (λ v xs. (length v.items ≡ count) × EachForm (ItemForm false Form) v.items xs)
  count_accepts count = record {
    accepts = λ s. record {
      front = λ i n ts known a. front_by (λ xs k v z. (AllZip-long g.IsOutput ts v.items z ∙ k.0, k.1 v.items z)) ((exact_accepts s count).front i n ts
          known a);
    };
  }

module _ {I A P O E : Type 0} {w : Model I A} (l : InputLaws w) (errs : Errors I E) (size : O → ℕ) {g : Grammar I P O E} {Form : O → List A → Type 0}
    (p : AcceptsForms w g Form) where
  -- a form of a length, by its tree
  sized : (u : P) (n m : ℕ) (xs : List A) → FormOf g Form u xs → HasSize g.IsOutput size u n → n ≡ m → FormOfSize size Form m xs
  sized u n m xs f h e = (h.output, h.size_is ∙ e, f h.output h.is_output)

  -- a length, and as many items
  pub length_data_accepts : (lack : ℕ → List A → Option ℕ) → AcceptsForms w (length_data_of w errs lack size g)
      (λ v. Both (FormOfSize size Form (length (w.elements v))) (Holds w v))
  length_data_accepts lack = record { accepts = accepts }
    where
      Data : P → Slice w → List A → Type 0
      Data u t ys = (n : ℕ) × HasSize g.IsOutput size u n × (length ys ≡ n) × (t.items ≡ ys)

      Whole : P × Slice w → List A → Type 0
      Whole t xs = (v : I) → IsModelledBy w t.1 v → Both (FormOfSize size Form (length (w.elements v))) (Holds w v) xs

      taken : (s : Bool) (u : P) → AcceptsOnly w (λ j o. OfValue (HasSize g.IsOutput size u) (λ k. (take_meaning w errs lack k).answers s j o)) (Data u)
      taken s u = record {
        front = λ i n t known a. front_by (λ ys k. (a.value, a.is_value, k.0, k.1)) ((take_only w errs lack a.value s).front i n t known a.fact);
      }

      accepts : (s : Bool) → AcceptsOnly w ((length_data_of w errs lack size g).meaning.answers s) Whole
      accepts s = then_accepts w l (λ u t. (u, t)) (g.meaning.answers s)
          (λ u j o. OfValue (HasSize g.IsOutput size u) (λ k. (take_meaning w errs lack k).answers s j o)) (FormOf g Form) Data Whole
          (λ u t xs ys f n v m. record {
            front = xs;
            back = ys;
            whole = refl;
            first = sized u n.0 (length (w.elements v)) xs f n.1 (sym n.2 ∙ (ap length (sym n.3) ∙ ap length (sym m.elements_are)));
            second = is_held w t v ys m n.3;
          }) (p.accepts s) (taken s)

  -- a number, and as many items of another grammar
  pub length_count_accepts : {U X M : Type 0} {h : Grammar I U X E} {Next : X → List A → Type 0} → AcceptsForms w h Next →
      AcceptsForms w (length_count_of {M = M} w errs size g h) (λ v. Both (FormOfSize size Form (length v.items)) (EachForm (ItemForm false Next) v.items))
  length_count_accepts {U} {X} {M} {h} {Next} q = record { accepts = accepts }
    where
      Counted : P → List U → List A → Type 0
      Counted u ts ys = (n : ℕ) × HasSize g.IsOutput size u n × (length ts ≡ n) ×
          ((vs : List X) → AllZip h.IsOutput ts vs → EachForm (ItemForm false Next) vs ys)

      Whole : List U → List A → Type 0
      Whole ts xs = (v : Vec X M) → AllZip h.IsOutput ts v.items → Both (FormOfSize size Form (length v.items)) (EachForm (ItemForm false Next) v.items) xs

      counted : (s : Bool) (u : P) → AcceptsOnly w (λ j o. OfValue (HasSize g.IsOutput size u) (λ k. (items_meaning w errs (exact_limits k) (Unit {0})
          h.meaning).answers s j o)) (Counted u)
      counted s u = record {
        front = λ i n ts known a. front_by (λ ys k. (a.value, a.is_value, k.0, k.1)) ((exact_accepts l errs q s a.value).front i n ts known a.fact);
      }

      accepts : (s : Bool) → AcceptsOnly w ((length_count_of {M = M} w errs size g h).meaning.answers s) Whole
      accepts s = then_accepts w l (λ u ts. ts) (g.meaning.answers s)
          (λ u j o. OfValue (HasSize g.IsOutput size u) (λ k. (items_meaning w errs (exact_limits k) (Unit {0}) h.meaning).answers s j o)) (FormOf g Form)
          Counted Whole
          (λ u ts xs ys f n v z. record {
            front = xs;
            back = ys;
            whole = refl;
            first = sized u n.0 (length v.items) xs f n.1 (sym n.2 ∙ sym (AllZip-long h.IsOutput ts v.items z));
            second = n.3 v.items z;
          }) (p.accepts s) (counted s)

-- numbers of one size are one
pub size_one : {A O : Type 0} {IsValue : A → Type 0} {size : O → ℕ} {Form : O → List A → Type 0} → ((a b : O) → size a ≡ size b → a ≡ b) →
    ((v : O) → IsOneForm IsValue (Form v)) → (n : ℕ) → IsOneForm IsValue (FormOfSize size Form n)
size_one {Form = Form} same p n = record {
  one = λ xs ys h k a b.
      let number : a.0 ≡ b.0 = same a.0 b.0 (a.1 ∙ sym b.1) in (p b.0).one xs ys h k (subst (λ v. Form v xs) number a.2) b.2;
}

pub each_one : {A O : Type 0} {IsValue : A → Type 0} (some : Bool) {Form : O → List A → Type 0} → ((v : O) → IsOneForm IsValue (Form v)) → (vs : List O) →
    IsOneForm IsValue (EachForm (ItemForm some Form) vs)
each_one some p [] = items_one []
each_one some p (v ∷ vs) = both_one (one_beside (λ xs f. f.0) (p v)) (each_one some p vs)

-- the items of a value
pub held_one : {I A : Type 0} {IsValue : A → Type 0} {w : Model I A} {v : I} → IsOneForm IsValue (Holds w v)
held_one = record { one = λ xs ys h k a b. sym a.elements_are ∙ b.elements_are }
