-- The laws of a value after a length.
use Rattle.std.specs.Prelude.{◌≡◌, ℕ, ◌-◌, ◌<◌, ◌≤◌, Bool, true, false, List, [], ◌∷◌, ◌++◌, Some, refl}
use Rattle.std.proofs.Common.{arith, inl, inr, sym, ◌∙◌, ap, subst}
use Rattle.nom_internal.specs.Prelude.{Errors, Modes, Model, InputLaws, items_len, input_len, IsBoundary, Related, items_len-append, IsModelledBy, first_place}
use Rattle.nom_internal.specs.Prelude.{first_related, same_length, Outcome, Cause, Accept, Refuse, Stop, Fails, Needs, Meaning, IsLawful, IsSteady}
use Rattle.nom_internal.specs.Prelude.{IsLawfulFamily, IsOne, LeafLaws, leaf_lawful, leaf_steady}
use Rattle.nom_internal.specs.Bounded.{AreConsistent}
use Rattle.nom_internal.specs.laws.BoundedLaws.{and_then_lawful, and_then_steady}
use Rattle.nom_internal.specs.laws.CaseLaws.{fixed_lawful, fixed_steady}
use Rattle.nom_multi.specs.laws.LengthLaws.{after_lawful, after_steady}
use Rattle.nom_multi.specs.Values.{cuts, window_meaning, settled, settled_meaning, values_by_length, length_value_meaning}

-- a front of a longer list that isn't longer than a list is a front of that
front_of : {A : Type 0} (item_len : A → ℕ) → ((a : A) → 0 < item_len a) → (xs more front rest : List A) → xs ++ more ≡ front ++ rest →
    items_len item_len front ≤ items_len item_len xs → (k : List A) × (xs ≡ front ++ k)
front_of item_len pos xs more [] rest e h = (xs, refl)
front_of item_len pos [] more (y ∷ front) rest e h = absurd (omega (arith, h, pos y))
front_of item_len pos (x ∷ xs) more (y ∷ front) rest e h =
    let heads : x ≡ y = cc in
    let tails : xs ++ more ≡ front ++ rest = cc in
    let r = front_of item_len pos xs more front rest tails (omega (arith, h, ap item_len heads)) in
    (r.0, ap (λ z. z ∷ xs) heads ∙ ap (λ zs. y ∷ zs) r.1)

module _ {I A : Type 0} (w : Model I A) (l : InputLaws w) (n : ℕ) where
  -- a place is within the input
  place_within : (i : I) (m : ℕ) → IsBoundary w i m → m ≤ input_len w i
  place_within i m p = omega (arith, ap (λ xs. items_len w.item_len xs) p.whole, items_len-append w.item_len p.front p.rest, p.length_is)

  -- what is no place, within an input, is none of a longer one
  refused_related : (longer : Bool) (x y : I) → Related w longer x y → (n ≤ input_len w x) × (IsBoundary w x n → ⊥) → (n ≤ input_len w y) ×
      (IsBoundary w y n → ⊥)
  refused_related true x y r h = (
    omega (arith, h.0, ap (λ xs. items_len w.item_len xs) r.whole, items_len-append w.item_len (w.elements x) r.more),
    λ p.
        let k = front_of w.item_len l.positive (w.elements x) r.more p.front p.rest (sym r.whole ∙ p.whole) (omega (arith, h.0, p.length_is)) in
        h.1 (record { front = p.front; rest = k.0; whole = k.1; length_is = p.length_is }),
  )
  refused_related false x y r h = (
    omega (arith, h.0, ap (λ xs. items_len w.item_len xs) r.elements_are),
    λ p.
        h.1 (record { front = p.front; rest = p.rest; whole = r.elements_are ∙ p.whole; length_is = p.length_is }),
  )

  cut_laws : LeafLaws w (cuts w n)
  cut_laws = record {
    place = λ s i m t h a. first_place w i m t a.0;
    one_accepted = λ s i k m t u h a b. (a.1 ∙ sym b.1, same_length w l i k m t u a.0 b.0 (a.1 ∙ sym b.1));
    one_lack = λ i j k h a b. a.1 ∙ sym b.1;
    accepted_refused = λ s i m t h a b. b.1 (subst (λ z. IsBoundary w i z) a.1 (first_place w i m t a.0));
    accepted_lacks = λ i m t k h a b. omega (arith, place_within i m (first_place w i m t a.0), a.1, b.0);
    refused_lacks = λ i k h a b. omega (arith, a.0, b.0);
    accepted_stays = λ longer s only x y m t kx ky r a. (first_related w longer x y m t r a.0, a.1);
    refused_stays = λ longer s only x y kx ky r a. refused_related longer x y r a;
    lack_consistent = λ x y k kx ky r a. subst (λ xs. (items_len w.item_len xs < n) × (k ≡ Some (n - items_len w.item_len xs))) r.elements_are a;
    accepted_settles = λ i m t h a. a;
    refused_settles = λ i h a. a;
  }

module _ {I A E : Type 0} {w : Model I A} (l : InputLaws w) (errs : Errors I E) (n : ℕ) where
  window_lawful : IsLawful w (window_meaning w errs n)
  window_lawful = fixed_lawful (leaf_lawful (cut_laws w l n))

  window_steady : IsSteady w (window_meaning w errs n)
  window_steady = fixed_steady (leaf_steady (cut_laws w l n))

settled_accepts : {V : Type 0} (n : ℕ) (v : V) (a : Outcome V) → Accept n v ≡ settled a → a ≡ Accept n v
settled_accepts n v (Accept m u) e = sym e
settled_accepts n v Refuse e = absurd (cc (e))
settled_accepts n v (Stop (Fails cause)) e = absurd (cc (e))
settled_accepts n v (Stop (Needs k)) e = absurd (cc (e))

settled_fails : {V : Type 0} (cause : Cause) (a : Outcome V) → Stop (Fails cause) ≡ settled a → a ≡ Stop (Fails cause)
settled_fails cause (Accept m u) e = sym e
settled_fails cause Refuse e = sym e
settled_fails cause (Stop (Fails own)) e = sym e
settled_fails cause (Stop (Needs k)) e = absurd (cc (e))

module _ {I A V E : Type 0} (w : Model I A) (errs : Errors I E) (m : Meaning I V E) (l : IsLawful w m) where
  settled_frugal : (mode : Modes) (i : I) → w.IsKnown i → (settled_meaning errs m).IsFrugal mode → (settled_meaning errs m).may_run_out mode i → ⊥
  settled_frugal mode i h g (inl r) = l.frugal mode i h g.0 r
  settled_frugal mode i h g (inr r) = g.1 r.2 r.3

  settled_lawful : IsLawful w (settled_meaning errs m)
  settled_lawful = record {
    within = λ s i n v h a. l.within s i n v h (subst (λ z. m.answers s i z) (settled_accepts n v a.0 a.2) a.1);
    one_outcome = λ s x y o p kx ky r a k b. a.2 ∙ (ap settled (l.one_outcome s x y a.0 b.0 kx ky r a.1 tt b.1) ∙ sym b.2);
    consistent = λ s x y o kx ky r a k. (a.0, l.consistent s x y a.0 kx ky r a.1 tt, a.2);
    frugal = settled_frugal;
    settles = λ t. absurd t;
    blames_consistent = λ t. absurd t;
    never_fails = λ cause g s i h a. l.never_fails cause g s i h (subst (λ z. m.answers s i z) (settled_fails cause a.0 a.2) a.1);
  }

-- what is modelled by one slice is equal as models
slices_consistent : {I A : Type 0} (w : Model I A) → AreConsistent w (IsModelledBy w)
slices_consistent w u j k a b = record { elements_are = a.elements_are ∙ sym b.elements_are; mark_is = a.mark_is ∙ sym b.mark_is }

module _ {I A P V E : Type 0} {w : Model I A} (i : InputLaws w) (errs : Errors I E) {IsLength : P → ℕ → Type 0} {a : Meaning I P E} {m : Meaning I V E}
    (l : IsLawful w m) (one : IsOne IsLength) where
  pub length_value_lawful : IsLawful w a → IsLawful w (length_value_meaning w errs IsLength a m)
  length_value_lawful p =
      let values : IsLawfulFamily w (λ n. (u : P) × IsLength u n) (values_by_length w errs m) = record {
        lawful = λ n _. and_then_lawful (slices_consistent w) (settled_lawful w errs m l) i (window_lawful i errs n);
        frugal = λ mode h n _. (h.1, h);
        settles = λ h n _. absurd h;
        never_fails = λ cause h n _. (tt, h);
      } in
      after_lawful i one (values_by_length w errs m) p values

  pub length_value_steady : IsSteady w a → IsSteady w (length_value_meaning w errs IsLength a m)
  length_value_steady p = after_steady i one (values_by_length w errs m) p
      (λ n. and_then_steady (slices_consistent w) (settled_lawful w errs m l) i (window_steady i errs n))
