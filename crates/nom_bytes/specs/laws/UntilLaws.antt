-- The laws of `take_until`.
use Rattle.std.specs.Prelude.{◌≡◌, ℕ, ◌<◌, Bool, true, false, ◌⊎◌, List, Option, Some, None}
use Rattle.std.proofs.Common.{sym, ◌∙◌, subst, inl, inr, arith}
use Rattle.nom_internal.specs.Prelude.{Errors, Model, InputLaws, Related, Slice, IsFirst, first_place, first_related, same_length, IsLawful, IsSteady, LeafLaws}
use Rattle.nom_internal.specs.Prelude.{leaf_lawful, leaf_steady}
use Rattle.nom_search.specs.Substrings.{FindLaws}
use Rattle.nom_bytes.specs.Stays.{closed_stays, open_stays}
use Rattle.nom_bytes.specs.Untils.{untils, until_meaning}

module _ {I A T : Type 0} (w : Model I A) (Finds : T → List A → Option ℕ → Type 0) (f : FindLaws w Finds) (needle : T) where
  same_place : (i : I) (n m : ℕ) → w.IsKnown i → Finds needle (w.elements i) (Some n) → Finds needle (w.elements i) (Some m) → n ≡ m
  same_place i n m h a b =
      let same : ◌≡◌ {A = Option ℕ} (Some n) (Some m) = f.one needle i (Some n) (Some m) h a b in
      cc (same)

  found_or_none : (i : I) (n : ℕ) → w.IsKnown i → Finds needle (w.elements i) (Some n) → Finds needle (w.elements i) None → ⊥
  found_or_none i n h a b =
      let same : ◌≡◌ {A = Option ℕ} (Some n) None = f.one needle i (Some n) None h a b in
      cc (same)

  -- a place that is found is found in what is longer, or equal as models
  found_stays : (longer : Bool) (x y : I) (n : ℕ) → w.IsKnown x → w.IsKnown y → Related w longer x y → Finds needle (w.elements x) (Some n) →
      Finds needle (w.elements y) (Some n)
  found_stays longer x y n = open_stays w (λ xs. Finds needle xs (Some n)) (λ x y. f.found_stays needle x y n) longer x y

  one_found : InputLaws w → (i : I) (n m : ℕ) (t u : Slice w) → w.IsKnown i → IsFirst w i n t → IsFirst w i m u → Finds needle (w.elements i) (Some n) →
      Finds needle (w.elements i) (Some m) → (n ≡ m) × (t ≡ u)
  one_found l i n m t u h p q a b = let e = same_place i n m h a b in (e, same_length w l i n m t u p q e)

  module _ (one : Bool) where
    abbrev Refused : Bool → I → Type 0
    Refused s i = ((s ≡ false) × Finds needle (w.elements i) None) ⊎ ((one ≡ true) × Finds needle (w.elements i) (Some 0))

    found_refused : (s : Bool) (i : I) (n : ℕ) → w.IsKnown i → Finds needle (w.elements i) (Some n) → (one ≡ true → 0 < n) → Refused s i → ⊥
    found_refused s i n h a k (inl b) = found_or_none i n h a b.1
    found_refused s i n h a k (inr b) = omega (arith, k b.0, same_place i n 0 h a b.1)

    refused_lacks : (i : I) → w.IsKnown i → Refused true i → Finds needle (w.elements i) None → ⊥
    refused_lacks i h (inl a) b = absurd (cc (a.0))
    refused_lacks i h (inr a) b = found_or_none i 0 h a.1 b

    refused_stays : (longer s : Bool) → (longer ≡ true → s ≡ true) → (x y : I) → w.IsKnown x → w.IsKnown y → Related w longer x y → Refused s x → Refused s y
    refused_stays longer s only x y kx ky r (inl a) = inl (a.0, closed_stays w (λ xs. Finds needle xs None) longer s only x y r a.0 a.1)
    refused_stays longer s only x y kx ky r (inr a) = inr (a.0, found_stays longer x y 0 kx ky r a.1)

    refused_settles : (i : I) → Refused true i → Refused false i
    refused_settles i (inl a) = absurd (cc (a.0))
    refused_settles i (inr a) = inr a

    pub until_laws : InputLaws w → LeafLaws w (untils w Finds one needle)
    until_laws l = record {
      place = λ s i n t h a. first_place w i n t a.0;
      one_accepted = λ s i n m t u h a b. one_found l i n m t u h a.0 b.0 a.1 b.1;
      one_lack = λ i j k h a b. a.1 ∙ sym b.1;
      accepted_refused = λ s i n t h a b. found_refused s i n h a.1 a.2 b;
      accepted_lacks = λ i n t k h a b. found_or_none i n h a.1 b.0;
      refused_lacks = λ i k h a b. refused_lacks i h a b.0;
      accepted_stays = λ longer s only x y n t kx ky r a. (first_related w longer x y n t r a.0, found_stays longer x y n kx ky r a.1, a.2);
      refused_stays = refused_stays;
      lack_consistent = λ x y k kx ky r a. (subst (λ xs. Finds needle xs None) r.elements_are a.0, a.1);
      accepted_settles = λ i n t h a. a;
      refused_settles = λ i h a. refused_settles i a;
    }

module _ {I A T E : Type 0} (w : Model I A) (l : InputLaws w) (errs : Errors I E) (Finds : T → List A → Option ℕ → Type 0) (f : FindLaws w Finds)
    (one : Bool) (needle : T) where
  pub until_lawful : IsLawful w (until_meaning w errs Finds one needle)
  until_lawful = leaf_lawful (until_laws w Finds f needle one l)

  pub until_steady : IsSteady w (until_meaning w errs Finds one needle)
  until_steady = leaf_steady (until_laws w Finds f needle one l)
