-- The laws of parsers of a first item.
use Rattle.std.specs.Prelude.{◌≡◌, ℕ, Bool, true, false, [], ◌∷◌, ◌++◌, Option}
use Rattle.std.proofs.Common.{arith, sym, ◌∙◌, ap, subst, inl, inr}
use Rattle.nom_internal.specs.Prelude.{Errors, Model, AreValues, IsBoundary, Related, IsLawful, IsSteady, LeafLaws, leaf_lawful, leaf_steady}
use Rattle.nom_bytes.specs.Predicates.{IsFixed}
use Rattle.nom_bytes.specs.Stays.{closed_stays}
use Rattle.nom_character_first.specs.declared.first.Blame.{Blame}
use Rattle.nom_character_first.specs.FirstItem.{IsFirstItem, heads, first_item_meaning}

-- a test that computes answers in one way
pub test_is_fixed : {A : Type 0} (IsValue : A → Type 0) (test : A → Bool) → IsFixed IsValue (λ x b. b ≡ test x)
test_is_fixed IsValue test x v p q = cc (p, q)

module _ {I A : Type 0} (w : Model I A) where
  -- an input has one first item
  pub one_head : (i : I) (x y : A) → IsFirstItem w i x → IsFirstItem w i y → x ≡ y
  one_head i x y p q = let same : x ∷ p.rest ≡ y ∷ q.rest = sym p.whole ∙ q.whole in cc (same)

  pub no_head : (i : I) (x : A) → IsFirstItem w i x → w.elements i ≡ [] → ⊥
  no_head i x p e = let same : x ∷ p.rest ≡ [] = sym p.whole ∙ e in cc (same)

  -- related inputs have the same first item
  head_related : (longer : Bool) (i j : I) (x : A) → Related w longer i j → IsFirstItem w i x → IsFirstItem w j x
  head_related true i j x r p = record { rest = p.rest ++ r.more; whole = r.whole ∙ ap (λ xs. xs ++ r.more) p.whole }
  head_related false i j x r p = record { rest = p.rest; whole = sym r.elements_are ∙ p.whole }

  pub head_place : (i : I) (x : A) (n : ℕ) → IsFirstItem w i x → n ≡ w.item_len x → IsBoundary w i n
  head_place i x n p e = record { front = x ∷ []; rest = p.rest; whole = p.whole; length_is = omega (arith, e) }

module _ {I A : Type 0} (w : Model I A) (IsValue : A → Type 0) (values : (i : I) → w.IsKnown i → AreValues IsValue (w.elements i)) (code : A → ℕ)
    (Test : A → Bool → Type 0) (fixed : IsFixed IsValue Test) (lack : Option ℕ) where
  abbrev Refused : Bool → I → Type 0
  Refused = (heads w code Test lack).Refuses

  -- a first item doesn't pass and fail
  apart : (i : I) (x y : A) → w.IsKnown i → IsFirstItem w i x → Test x true → IsFirstItem w i y → Test y false → ⊥
  apart i x y h p t q f = fixed x (subst (AreValues IsValue) p.whole (values i h)).0 t (subst (λ z. Test z false) (one_head w i y x q p) f)

  accepted_refused : (s : Bool) (i : I) (x : A) → w.IsKnown i → IsFirstItem w i x → Test x true → Refused s i → ⊥
  accepted_refused s i x h p t (inl b) = apart i x b.0 h p t b.1 b.2
  accepted_refused s i x h p t (inr b) = no_head w i x p b.1

  refused_lacks : (i : I) → Refused true i → w.elements i ≡ [] → ⊥
  refused_lacks i (inl a) e = no_head w i a.0 a.1 e
  refused_lacks i (inr a) e = cc (a.0)

  refused_stays : (longer s : Bool) → (longer ≡ true → s ≡ true) → (i j : I) → Related w longer i j → Refused s i → Refused s j
  refused_stays longer s only i j r (inl a) = inl (a.0, head_related w longer i j a.0 r a.1, a.2)
  refused_stays longer s only i j r (inr a) = inr (a.0, closed_stays w (λ xs. xs ≡ []) longer s only i j r a.0 a.1)

  refused_settles : (i : I) → Refused true i → Refused false i
  refused_settles i (inl a) = inl a
  refused_settles i (inr a) = absurd (cc (a.0))

  pub first_item_laws : LeafLaws w (heads w code Test lack)
  first_item_laws = record {
    place = λ s i n c h a. head_place w i a.0 n a.1 a.3;
    one_accepted = λ s i n m c d h a b. let same = one_head w i a.0 b.0 a.1 b.1 in (a.3 ∙ (ap w.item_len same ∙ sym b.3), a.4 ∙ (ap code same ∙ sym b.4));
    one_lack = λ i j k h a b. a.1 ∙ sym b.1;
    accepted_refused = λ s i n c h a b. accepted_refused s i a.0 h a.1 a.2 b;
    accepted_lacks = λ i n c k h a b. no_head w i a.0 a.1 b.0;
    refused_lacks = λ i k h a b. refused_lacks i a b.0;
    accepted_stays = λ longer s only x y n c kx ky r a. (a.0, head_related w longer x y a.0 r a.1, a.2, a.3, a.4);
    refused_stays = λ longer s only x y kx ky r a. refused_stays longer s only x y r a;
    lack_consistent = λ x y k kx ky r a. (sym r.elements_are ∙ a.0, a.1);
    accepted_settles = λ i n c h a. a;
    refused_settles = λ i h a. refused_settles i a;
  }

  module _ {E : Type 0} (errs : Errors I E) (blame : Blame) where
    pub first_item_lawful : IsLawful w (first_item_meaning w code Test errs blame lack)
    first_item_lawful = leaf_lawful first_item_laws

    pub first_item_steady : IsSteady w (first_item_meaning w code Test errs blame lack)
    first_item_steady = leaf_steady first_item_laws
