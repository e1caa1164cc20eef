-- Forms of a part whose outcome becomes another: its acceptances alone become acceptances, of the same length.
use Rattle.std.specs.Prelude.{◌≡◌, ℕ, Bool, true, false, List, Option, Some, is_some, Result, Ok, is_ok, refl}
use Rattle.std.proofs.Common.{sym, ap, subst}
use Rattle.nom_internal.specs.Prelude.{Accept, Errors, Fails, GivesFor, Grammar, Judged, Model, Needs, OnPart, Outcome, Passes, Refuse, Stop}
use Rattle.nom_internal.specs.Prelude.{kept_if, labelled, map_by}
use Rattle.nom_branch.specs.Alternatives.{alt_of}
use Rattle.nom_combinator.specs.Contexts.{context_of}
use Rattle.nom_combinator.specs.Outputs.{GivesValue, value_by, verify_by}
use Rattle.nom_combinator.specs.Verdicts.{complete_of, complete_outcome, cut_of, cut_outcome}
use Rattle.nom_error.specs.Errors.{Contexts, Externals}
use Rattle.nom_internal.specs.Judged.{map_opt_by, map_res_by}
use Rattle.nom_write.specs.laws.JudgedReads.{judged_by}
use Rattle.nom_write_canonical.specs.Forms.{AcceptsForms, AcceptsItems, AcceptsOnly, FormOf, HasFront, IsOneForm}

-- the same items, by another fact
pub front_by : {I A : Type 0} {w : Model I A} {Fact Other : List A → Type 0} {i : I} {n : ℕ} → ((xs : List A) → Fact xs → Other xs) → HasFront w Fact i n →
    HasFront w Other i n
front_by f p = record { front = p.front; rest = p.rest; whole = p.whole; length_is = p.length_is; fact = f p.front p.fact }

-- where each acceptance is one of the part, of that length
pub part_accepts : {I A P T : Type 0} {w : Model I A} (F : I → Outcome P → Type 0) (W : I → Outcome T → Type 0) (Part : P → List A → Type 0)
    (Whole : T → List A → Type 0) → ((i : I) (n : ℕ) (t : T) → W i (Accept n t) → (u : P) × F i (Accept n u) × ((xs : List A) → Part u xs → Whole t xs)) →
    AcceptsOnly w F Part → AcceptsOnly w W Whole
part_accepts F W Part Whole f p = record { front = λ i n t known a. let k = f i n t a in front_by k.2 (p.front i n k.0 known k.1) }

-- what becomes an acceptance
abbrev pub OnlyAcceptances : {P T : Type 0} → (Outcome P → Outcome T) → (P → T) → Type 0
OnlyAcceptances {P} {T} becomes label = (a : Outcome P) (n : ℕ) (t : T) → Accept n t ≡ becomes a → (u : P) × (a ≡ Accept n u) × (t ≡ label u)

pub become_accepts : {I A P T : Type 0} (w : Model I A) (becomes : Outcome P → Outcome T) (label : P → T) → OnlyAcceptances becomes label →
    (F : I → Outcome P → Type 0) (Part : P → List A → Type 0) (Whole : T → List A → Type 0) →
    ((u : P) (xs : List A) → Part u xs → Whole (label u) xs) → AcceptsOnly w F Part →
    AcceptsOnly w (λ i o. OnPart (λ (x y : I). x ≡ y) F (λ _ a. o ≡ becomes a) i) Whole
become_accepts {I} w becomes label only F Part Whole f p =
    part_accepts F (λ i o. OnPart (λ (x y : I). x ≡ y) F (λ _ a. o ≡ becomes a) i) Part Whole (λ i n t a.
    let k = only a.outcome n t a.fact in (
      k.0,
      subst (λ o. F i o) k.1 (subst (λ z. F z a.outcome) (sym a.at_is) a.answered),
      λ xs g. subst (λ z. Whole z xs) (sym k.2) (f k.0 xs g),
    )) p

pub labelled_only : {P T : Type 0} (label : P → T) → OnlyAcceptances (labelled label) label
labelled_only label (Accept m u) n t e = let size : n ≡ m = cc (e) in (u, ap (λ z. Accept z u) (sym size), cc (e))
labelled_only label Refuse n t e = absurd (cc (e))
labelled_only label (Stop why) n t e = absurd (cc (e))

cut_only : {P : Type 0} → OnlyAcceptances {P = P} cut_outcome (λ u. u)
cut_only (Accept m u) n t e = (t, sym e, refl)
cut_only Refuse n t e = absurd (cc (e))
cut_only (Stop why) n t e = absurd (cc (e))

complete_only : {P : Type 0} → OnlyAcceptances {P = P} complete_outcome (λ u. u)
complete_only (Accept m u) n t e = (t, sym e, refl)
complete_only Refuse n t e = absurd (cc (e))
complete_only (Stop (Fails cause)) n t e = absurd (cc (e))
complete_only (Stop (Needs k)) n t e = absurd (cc (e))

kept_accepts_tree : {V : Type 0} (b : Bool) (m n : ℕ) (t u : V) → Accept n t ≡ kept_if b (Accept m u) → (m ≡ n) × (u ≡ t)
kept_accepts_tree true m n t u e = (cc (e), cc (e))
kept_accepts_tree false m n t u e = absurd (cc (e))

-- what is accepted by a judge the part accepts
judged : {I V R : Type 0} (F : I → Outcome V → Type 0) (Says : V → R → Type 0) (fits : R → Bool) (i : I) (n : ℕ) (t : V) (o : Outcome V) → F i o →
    Passes (Judged Says fits) o (Accept n t) → F i (Accept n t)
judged F Says fits i n t (Accept m u) h k =
    let r = kept_accepts_tree (fits k.0) m n t u k.2 in subst (λ z. F i (Accept n z)) r.1 (subst (λ z. F i (Accept z u)) r.0 h)
judged F Says fits i n t Refuse h k = absurd (cc (k))
judged F Says fits i n t (Stop why) h k = absurd (cc (k))

module _ {I A V O E : Type 0} {w : Model I A} {g : Grammar I V O E} {Form : O → List A → Type 0} where
  -- a choice whose error is closed
  pub alt_accepts : (errs : Errors I E) → AcceptsForms w g Form → AcceptsForms w (alt_of errs g) Form
  alt_accepts errs p = record {
    accepts = λ s. become_accepts w (λ a. a) (λ u. u) (λ a n t e. (t, sym e, refl)) (g.meaning.answers s) (FormOf g Form) (FormOf g Form) (λ u xs f. f)
        (p.accepts s);
  }

  pub cut_accepts : AcceptsForms w g Form → AcceptsForms w (cut_of g) Form
  cut_accepts p = record {
    accepts = λ s. become_accepts w cut_outcome (λ u. u) cut_only (g.meaning.answers s) (FormOf g Form) (FormOf g Form) (λ u xs f. f) (p.accepts s);
  }

  pub complete_accepts : (errs : Errors I E) → AcceptsForms w g Form → AcceptsForms w (complete_of errs g) Form
  complete_accepts errs p = record {
    accepts = λ s. become_accepts w complete_outcome (λ u. u) complete_only (g.meaning.answers false) (FormOf g Form) (FormOf g Form) (λ u xs f. f)
        (p.accepts false);
  }

  pub context_accepts : (contexts : Contexts I E) (name : List ℕ) → AcceptsForms w g Form → AcceptsForms w (context_of contexts name g) Form
  context_accepts contexts name p = record {
    accepts = λ s. become_accepts w (λ a. a) (λ u. u) (λ a n t e. (t, sym e, refl)) (g.meaning.answers s) (FormOf g Form) (FormOf g Form) (λ u xs f. f)
        (p.accepts s);
  }

  -- a map with a map back, that takes each value to an output which gives it
  pub map_back_accepts : {R : Type 0} (IsTaken : O → Type 0) (Gives : O → R → Type 0) (Back : R → O → Type 0) →
      ((x : O) (v : R) → Gives x v → Back v x) → AcceptsForms w g Form → AcceptsForms w (map_by IsTaken Gives g) (λ v xs. (x : O) × Back v x × Form x xs)
  map_back_accepts IsTaken Gives Back back p = record {
    accepts = λ s. become_accepts w (λ a. a) (λ u. u) (λ a n t e. (t, sym e, refl)) (g.meaning.answers s) (FormOf g Form)
        (FormOf (map_by IsTaken Gives g) (λ v xs. (x : O) × Back v x × Form x xs))
        (λ u xs f v k. (k.output, back k.output v k.given, f k.output k.is_output)) (p.accepts s);
  }

  -- outputs that pass a test
  pub verify_accepts : (errs : Errors I E) (Takes : O → Type 0) (Says : O → Bool → Type 0) → AcceptsForms w g Form →
      AcceptsForms w (verify_by errs Takes Says g) (λ v xs. Says v true × Form v xs)
  verify_accepts errs Takes Says p = record {
    accepts = λ s. part_accepts (g.meaning.answers s) ((verify_by errs Takes Says g).meaning.answers s) (FormOf g Form)
        (FormOf (verify_by errs Takes Says g) (λ v xs. Says v true × Form v xs))
        (λ i n t a. (
          t,
          judged (g.meaning.answers s) (GivesFor g.IsOutput Says) (λ b. b) i n t a.outcome (subst (λ z. g.meaning.answers s z a.outcome) (sym a.at_is)
              a.answered) a.fact,
          λ xs f v k. (k.1, f v k.0),
        )) (p.accepts s);
  }

-- a closure that maps or refuses, with a map back
module _ {I A V O R P E : Type 0} {w : Model I A} {g : Grammar I V O E} {Form : O → List A → Type 0} (Takes : O → Type 0) (Gives : O → R → Type 0)
    (fits : R → Bool) (Makes : I → R → E → Type 0) (Grows : Type 0) (fit : P → R) (Back : P → O → Type 0) where
  judged_back_accepts : ((x : O) (v : P) → Gives x (fit v) → Back v x) → AcceptsForms w g Form →
      AcceptsForms w (judged_by Takes Gives fits Makes Grows fit g) (λ v xs. (x : O) × Back v x × Form x xs)
  judged_back_accepts back p = record {
    accepts = λ s. part_accepts (g.meaning.answers s) ((judged_by Takes Gives fits Makes Grows fit g).meaning.answers s) (FormOf g Form)
        (FormOf (judged_by Takes Gives fits Makes Grows fit g) (λ v xs. (x : O) × Back v x × Form x xs))
        (λ i n t a. (
          t,
          judged (g.meaning.answers s) (GivesFor g.IsOutput Gives) fits i n t a.outcome (subst (λ z. g.meaning.answers s z a.outcome) (sym a.at_is)
              a.answered) a.fact,
          λ xs f v k. (k.output, back k.output v k.given, f k.output k.is_output),
        )) (p.accepts s);
  }

module _ {I A V O P E : Type 0} {w : Model I A} {g : Grammar I V O E} {Form : O → List A → Type 0} (Takes : O → Type 0) where
  pub map_opt_back_accepts : (errs : Errors I E) (Gives : O → Option P → Type 0) (Back : P → O → Type 0) →
      ((x : O) (v : P) → Gives x (Some v) → Back v x) → AcceptsForms w g Form →
      AcceptsForms w (map_opt_by errs Takes Gives g) (λ v xs. (x : O) × Back v x × Form x xs)
  map_opt_back_accepts errs Gives Back back p = judged_back_accepts Takes Gives is_some _ errs.grows Some Back back p

  pub map_res_back_accepts : {X : Type 0} (externals : Externals I X E) (Gives : O → Result P X → Type 0) (Back : P → O → Type 0) →
      ((x : O) (v : P) → Gives x (Ok v) → Back v x) → AcceptsForms w g Form →
      AcceptsForms w (map_res_by externals Takes Gives g) (λ v xs. (x : O) × Back v x × Form x xs)
  map_res_back_accepts externals Gives Back back p = judged_back_accepts Takes Gives is_ok _ externals.grows Ok Back back p

-- items that stand for a value
pub value_accepts : {I A V O R E : Type 0} {w : Model I A} (g : Grammar I V O E) (value : R) (IsSure : Type 0) (IsClone : R → Type 0) (items : List A) →
    AcceptsItems w g items → AcceptsForms w (value_by value IsSure IsClone g) (λ v xs. IsClone v × (xs ≡ items))
value_accepts {I} {A} {V} {R = R} g value IsSure IsClone items p = record {
  accepts = λ s. part_accepts (g.meaning.answers s) ((value_by value IsSure IsClone g).meaning.answers s) (λ u xs. xs ≡ items)
      (FormOf (value_by value IsSure IsClone g) (λ v xs. IsClone v × (xs ≡ items)))
      (λ i n t a.
      let k = given s i n t a.outcome (subst (λ z. g.meaning.answers s z a.outcome) (sym a.at_is) a.answered) a.fact in (k.0, k.1, λ xs e v c. (c, e)))
      (p.accepts s);
}
  where
    given : (s : Bool) (i : I) (n : ℕ) (t : R) (o : Outcome V) → g.meaning.answers s i o → Passes (GivesValue value) o (Accept n t) →
        (u : V) × g.meaning.answers s i (Accept n u)
    given s i n t (Accept m u) h k = let size : m ≡ n = cc (k) in (u, subst (λ z. g.meaning.answers s i (Accept z u)) size h)
    given s i n t Refuse h k = absurd (cc (k))
    given s i n t (Stop why) h k = absurd (cc (k))

-- what a value is mapped back to has one form, and the value has no other
pub map_one : {A O : Type 0} {IsValue : A → Type 0} (Back : O → Type 0) {Form : O → List A → Type 0} → ((x y : O) → Back x → Back y → x ≡ y) →
    ((x : O) → IsOneForm IsValue (Form x)) → IsOneForm IsValue (λ xs. (x : O) × Back x × Form x xs)
map_one Back {Form} same p = record {
  one = λ xs ys h k a b.
      let part : a.0 ≡ b.0 = same a.0 b.0 a.1 b.1 in (p b.0).one xs ys h k (subst (λ x. Form x xs) part a.2) b.2;
}
