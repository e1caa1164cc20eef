-- Forms of choices and options.
use Rattle.std.specs.Prelude.{◌≡◌, ℕ, Bool, ◌⊎◌, List, [], Option, Some, None, refl}
use Rattle.std.proofs.Common.{sym, ap, subst, inl, inr}
use Rattle.nom_internal.specs.Prelude.{Accept, AreValues, Errors, GoesOnRefused, Grammar, Model, OnPart, Outcome, Refuse, Stop, either_of, labelled}
use Rattle.nom_combinator.specs.Verdicts.{opt_of, opt_outcome}
use Rattle.nom_sink.specs.declared.error.WriteError.{WriteError}
use Rattle.nom_sink.specs.Choices.{Either, EitherFails}
use Rattle.nom_write.specs.Options.{OptForm}
use Rattle.nom_sink.specs.Written.{Space}
use Rattle.nom_write_canonical.specs.Forms.{AcceptsForms, AcceptsOnly, Excludes, FormOf, HasFront, IsOneForm}
use Rattle.nom_write_canonical.specs.laws.CaseForms.{become_accepts, front_by, labelled_only}
use Rattle.nom_write_canonical.specs.laws.SequenceForms.{items_one}

module _ {I A P Q O E : Type 0} {w : Model I A} (errs : Errors I E) {g : Grammar I P O E} {h : Grammar I Q O E} {First Second : O → List A → Type 0}
    {Fails : O → Space → WriteError → Type 0} where
  -- one of two, where no value that the second writes is one that the first writes
  pub either_accepts : Excludes First Fails Second → AcceptsForms w g First → AcceptsForms w h Second →
      AcceptsForms w (either_of errs.joined errs.grows g h) (λ v. Either (First v) (Fails v) (Second v))
  either_accepts apart p q = record { accepts = λ s. record { front = front s } }
    where
      Whole : P ⊎ Q → List A → Type 0
      Whole = FormOf (either_of errs.joined errs.grows g h) (λ v. Either (First v) (Fails v) (Second v))

      left : (s : Bool) → AcceptsOnly w (λ i o. OnPart (λ (x y : I). x ≡ y) (g.meaning.answers s) (λ _ a. o ≡ labelled inl a) i) Whole
      left s = become_accepts w (labelled inl) inl (labelled_only inl) (g.meaning.answers s) (FormOf g First) Whole (λ u xs f v k. inl (f v k)) (p.accepts s)

      right : (s : Bool) → AcceptsOnly w (λ i o. OnPart (λ (x y : I). x ≡ y) (h.meaning.answers s) (λ _ a. o ≡ labelled inr a) i) Whole
      right s = become_accepts w (labelled inr) inr (labelled_only inr) (h.meaning.answers s) (FormOf h Second) Whole
          (λ u xs f v k. inr (apart.unfit v xs (f v k), f v k)) (q.accepts s)

      front : (s : Bool) (i : I) (n : ℕ) (t : P ⊎ Q) → w.IsKnown i → (either_of errs.joined errs.grows g h).meaning.answers s i (Accept n t) →
          HasFront w (Whole t) i n
      front s i n t known a = of_first a.first a.answered a.goes_on
        where
          of_first : (o : Outcome (P ⊎ Q)) → OnPart (λ (x y : I). x ≡ y) (g.meaning.answers s) (λ _ a. o ≡ labelled inl a) i →
              GoesOnRefused (λ o. OnPart (λ (x y : I). x ≡ y) (h.meaning.answers s) (λ _ a. o ≡ labelled inr a) i) o (Accept n t) → HasFront w (Whole t) i n
          of_first (Accept m u) b e =
              let size : m ≡ n = cc (e) in
              let tree : u ≡ t = cc (e) in
              subst (λ z. HasFront w (Whole z) i n) tree (subst (λ z. HasFront w (Whole u) i z) size ((left s).front i m u known b))
          of_first Refuse b e = (right s).front i n t known e
          of_first (Stop why) b e = absurd (cc (e))

  -- the branches before, each of which excludes all before it, and one more
  pub or_accepts : {D : Type 0} → (D → AcceptsForms w g First) → AcceptsForms w h Second → D × Excludes First Fails Second →
      AcceptsForms w (either_of errs.joined errs.grows g h) (λ v. Either (First v) (Fails v) (Second v))
  or_accepts before q d = either_accepts d.1 (before d.0) q

-- one of two has one form where each has, and no value has one of both
pub either_one : {T : Type 0} {IsValue : T → Type 0} {A B : List T → Type 0} {Fails : Space → WriteError → Type 0} → ((xs ys : List T) → A xs → B ys → ⊥) →
    IsOneForm IsValue A → IsOneForm IsValue B → IsOneForm IsValue (Either A Fails B)
either_one {T} {IsValue} {A} {B} {Fails} apart p q = record { one = λ xs ys h k a b. one xs ys h k a b }
  where
    one : (xs ys : List T) → AreValues IsValue xs → AreValues IsValue ys → Either A Fails B xs → Either A Fails B ys → xs ≡ ys
    one xs ys h k (inl a) (inl b) = p.one xs ys h k a b
    one xs ys h k (inl a) (inr b) = absurd (apart xs ys a b.1)
    one xs ys h k (inr a) (inl b) = absurd (apart ys xs b a.1)
    one xs ys h k (inr a) (inr b) = q.one xs ys h k a.1 b.1

-- so it is with the branches before, and one more
pub or_one : {O T : Type 0} {IsValue : T → Type 0} {First Second : O → List T → Type 0} {Fails : O → Space → WriteError → Type 0} {D : Type 0} →
    (D → (v : O) → IsOneForm IsValue (First v)) → ((v : O) → IsOneForm IsValue (Second v)) → D × Excludes First Fails Second → (v : O) →
    IsOneForm IsValue (Either (First v) (Fails v) (Second v))
or_one before q d v = either_one ((d.1).apart v) (before d.0 v) (q v)

-- what neither of two writes
pub both_exclude : {O T : Type 0} {A B C : O → List T → Type 0} {AFails BFails : O → Space → WriteError → Type 0} → Excludes A AFails C → Excludes B BFails C →
    Excludes (λ v. Either (A v) (AFails v) (B v)) (λ v. EitherFails (AFails v) (BFails v)) C
both_exclude {T = T} {A} {B} {C} {AFails} {BFails} p q = record {
  unfit = λ v xs f.
      let first = p.unfit v xs f in
      let second = q.unfit v xs f in
      (second.0, second.1, inr (first, second.2), second.3);
  apart = apart;
}
  where
    apart : (v : _) (xs ys : List T) → Either (A v) (AFails v) (B v) xs → C v ys → ⊥
    apart v xs ys (inl a) c = p.apart v xs ys a c
    apart v xs ys (inr b) c = q.apart v xs ys b.1 c

opt_only : {P : Type 0} (a : Outcome P) (n : ℕ) (t : Option P) → Accept n t ≡ opt_outcome a → ((u : P) × (a ≡ Accept n u) × (t ≡ Some u)) ⊎
    ((n ≡ 0) × (t ≡ None))
opt_only (Accept m u) n t e = let size : n ≡ m = cc (e) in inl (u, ap (λ z. Accept z u) (sym size), cc (e))
opt_only Refuse n t e = inr (cc (e), cc (e))
opt_only (Stop why) n t e = absurd (cc (e))

-- a form, or nothing where none is accepted
pub opt_accepts : {I A V O E : Type 0} {w : Model I A} {g : Grammar I V O E} {Form : O → List A → Type 0} → AcceptsForms w g Form →
    AcceptsForms w (opt_of g) (OptForm Form)
opt_accepts {I} {A} {V} {O} {w} {g} {Form} p = record { accepts = λ s. record { front = front s } }
  where
    Whole : Option V → List A → Type 0
    Whole = FormOf (opt_of g) (OptForm Form)

    front : (s : Bool) (i : I) (n : ℕ) (t : Option V) → w.IsKnown i → (opt_of g).meaning.answers s i (Accept n t) → HasFront w (Whole t) i n
    front s i n t known a = of_part (opt_only a.outcome n t a.fact)
      where
        of_part : ((u : V) × (a.outcome ≡ Accept n u) × (t ≡ Some u)) ⊎ ((n ≡ 0) × (t ≡ None)) → HasFront w (Whole t) i n
        of_part (inl k) =
            let part = subst (λ o. g.meaning.answers s i o) k.1 (subst (λ z. g.meaning.answers s z a.outcome) (sym a.at_is) a.answered) in
            subst (λ z. HasFront w (Whole z) i n) (sym k.2) (front_by (λ xs f v z. subst (λ y. OptForm Form y xs) (sym z.1) (f z.0 z.2))
            ((p.accepts s).front i n k.0 known part))
        of_part (inr k) = subst (λ z. HasFront w (Whole z) i n) (sym k.1) (record {
          front = [];
          rest = w.elements i;
          whole = refl;
          length_is = sym k.0;
          fact = λ v z. subst (λ y. OptForm Form y []) (sym z) refl;
        })

pub opt_one : {A O : Type 0} {IsValue : A → Type 0} {Form : O → List A → Type 0} → ((v : O) → IsOneForm IsValue (Form v)) → (v : Option O) →
    IsOneForm IsValue (OptForm Form v)
opt_one p (Some v) = p v
opt_one p None = items_one []
