-- The laws of parsers of all that is left.
use Rattle.std.specs.Prelude.{◌≡◌, ℕ, Bool, true, false, List, [], refl}
use Rattle.std.proofs.Common.{sym, ◌∙◌, ap, append-nil}
use Rattle.nom_error.specs.declared.kind.ErrorKind.TheVariants as Kind
use Rattle.nom_internal.specs.Prelude.{Errors, Model, IsBoundary, IsSame, input_len, Slice, Outcome, Accept, Refuse, Stop, Fails, Needs, IsLawful, LeafAnswers}
use Rattle.nom_internal.specs.Prelude.{leaf_meaning}
use Rattle.nom_combinator.specs.Ends.{plain_leaf, all_of, IsEnd, IsAll, IsLength, eof_meaning, rest_meaning, rest_len_meaning}

-- what the answers of a plain leaf must keep
pub record PlainLaws {I A V : Type 0} (w : Model I A) (Accepts : I → ℕ → V → Type 0) (Refuses : I → Type 0) : Type 0 where
  pub place : (i : I) (n : ℕ) (v : V) → Accepts i n v → IsBoundary w i n
  pub one_accepted : (i : I) (n m : ℕ) (u v : V) → Accepts i n u → Accepts i m v → (n ≡ m) × (u ≡ v)
  pub never_both : (i : I) (n : ℕ) (v : V) → Accepts i n v → Refuses i → ⊥
  pub accepted_consistent : (x y : I) (n : ℕ) (v : V) → IsSame w x y → Accepts x n v → Accepts y n v
  pub refused_consistent : (x y : I) → IsSame w x y → Refuses x → Refuses y

module _ {I A V : Type 0} (w : Model I A) (Accepts : I → ℕ → V → Type 0) (Refuses : I → Type 0) (l : PlainLaws w Accepts Refuses) where
  -- in either mode, at inputs that are equal as models
  answers_consistent : (s t : Bool) (x y : I) (o : Outcome V) → IsSame w x y → LeafAnswers (plain_leaf Accepts Refuses) s x o →
      LeafAnswers (plain_leaf Accepts Refuses) t y o
  answers_consistent s t x y (Accept n v) r a = l.accepted_consistent x y n v r a
  answers_consistent s t x y Refuse r a = l.refused_consistent x y r a
  answers_consistent s t x y (Stop (Fails cause)) r a = a
  answers_consistent s t x y (Stop (Needs k)) r a = absurd a.1

  one_answer : (s : Bool) (i : I) (o p : Outcome V) → LeafAnswers (plain_leaf Accepts Refuses) s i o → LeafAnswers (plain_leaf Accepts Refuses) s i p → o ≡ p
  one_answer s i (Accept n u) (Accept m v) a b = let e = l.one_accepted i n m u v a b in cc (e.0, e.1)
  one_answer s i (Accept n u) Refuse a b = absurd (l.never_both i n u a b)
  one_answer s i (Accept n u) (Stop (Fails cause)) a b = absurd b
  one_answer s i (Accept n u) (Stop (Needs k)) a b = absurd b.1
  one_answer s i Refuse (Accept n v) a b = absurd (l.never_both i n v b a)
  one_answer s i Refuse Refuse a b = refl
  one_answer s i Refuse (Stop (Fails cause)) a b = absurd b
  one_answer s i Refuse (Stop (Needs k)) a b = absurd b.1
  one_answer s i (Stop (Fails cause)) p a b = absurd a
  one_answer s i (Stop (Needs j)) p a b = absurd a.1

  module _ {E : Type 0} (Blames : I → E → Type 0) (Grows : Type 0) where
    pub plain_lawful : IsLawful w (leaf_meaning Blames Grows (plain_leaf Accepts Refuses))
    plain_lawful = record {
      within = λ s i n v h a. l.place i n v a;
      one_outcome = λ s x y o p kx ky r a d b. one_answer s y o p (answers_consistent s s x y o r a) b;
      consistent = λ s x y o kx ky r a d. answers_consistent s s x y o r a;
      frugal = λ mode i h f r. f r.1 r.2;
      settles = λ t x y o kx ky r a d. answers_consistent true false x y o r a;
      blames_consistent = λ t s i o e h a b d z. z;
      never_fails = λ cause g s i h a. a;
    }

module _ {I A : Type 0} (w : Model I A) where
  all_consistent : (x y : I) → IsSame w x y → all_of w x ≡ all_of w y
  all_consistent x y r =
      let slice : List A → w.Mark → Slice w = λ xs m. record { items = xs; mark = m } in
      ap (λ xs. slice xs (w.mark x)) r.elements_are ∙ ap (λ m. slice (w.elements y) m) r.mark_is

  len_consistent : (x y : I) → IsSame w x y → input_len w x ≡ input_len w y
  len_consistent x y r = cc (r.elements_are)

  place_none : (i : I) (n : ℕ) → n ≡ 0 → IsBoundary w i n
  place_none i n e = record { front = []; rest = w.elements i; whole = refl; length_is = sym e }

  -- all items, as a front
  pub place_all : (i : I) (n : ℕ) → n ≡ input_len w i → IsBoundary w i n
  place_all i n e = record { front = w.elements i; rest = []; whole = sym (append-nil (w.elements i)); length_is = sym e }

  pub end_laws : PlainLaws w (IsEnd w) (λ i. w.elements i ≡ [] → ⊥)
  end_laws = record {
    place = λ i n v a. place_none i n a.1;
    one_accepted = λ i n m u v a b. (a.1 ∙ sym b.1, a.2 ∙ sym b.2);
    never_both = λ i n v a b. b a.0;
    accepted_consistent = λ x y n v r a. (sym r.elements_are ∙ a.0, a.1, a.2 ∙ all_consistent x y r);
    refused_consistent = λ x y r a e. a (r.elements_are ∙ e);
  }

  all_laws : PlainLaws w (IsAll w) (λ i. ⊥)
  all_laws = record {
    place = λ i n v a. place_all i n a.0;
    one_accepted = λ i n m u v a b. (a.0 ∙ sym b.0, a.1 ∙ sym b.1);
    never_both = λ i n v a b. b;
    accepted_consistent = λ x y n v r a. (a.0 ∙ len_consistent x y r, a.1 ∙ all_consistent x y r);
    refused_consistent = λ x y r a. a;
  }

  length_laws : PlainLaws w (IsLength w) (λ i. ⊥)
  length_laws = record {
    place = λ i n v a. place_none i n a.0;
    one_accepted = λ i n m u v a b. (a.0 ∙ sym b.0, a.1 ∙ sym b.1);
    never_both = λ i n v a b. b;
    accepted_consistent = λ x y n v r a. (a.0, a.1 ∙ len_consistent x y r);
    refused_consistent = λ x y r a. a;
  }

  pub eof_lawful : {E : Type 0} (errs : Errors I E) → IsLawful w (eof_meaning w errs)
  eof_lawful errs = plain_lawful w (IsEnd w) (λ i. w.elements i ≡ [] → ⊥) end_laws (λ i e. errs.of_kind i Kind.Eof e) errs.grows

  pub rest_lawful : (E : Type 0) → IsLawful w (rest_meaning w {E = E})
  rest_lawful E = plain_lawful w (IsAll w) (λ i. ⊥) all_laws {E = E} (λ i e. ⊥) ⊥

  pub rest_len_lawful : (E : Type 0) → IsLawful w (rest_len_meaning w {E = E})
  rest_len_lawful E = plain_lawful w (IsLength w) (λ i. ⊥) length_laws {E = E} (λ i e. ⊥) ⊥
