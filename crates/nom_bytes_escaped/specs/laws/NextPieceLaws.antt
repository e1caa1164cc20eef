-- The laws of what stands at a place.
use Rattle.std.specs.Prelude.{◌≡◌, ℕ, Bool, true, false, List, [], ◌∷◌, ◌++◌, length, Option, refl}
use Rattle.std.proofs.Common.{arith, sym, ◌∙◌, ap, subst, length-append}
use Rattle.nom_internal.specs.Prelude.{Modes, Model, InputLaws, IsBoundary, Related, Meaning, IsLawful, IsSteady, LeafLaws, leaf_lawful, leaf_steady}
use Rattle.nom_internal.specs.Prelude.{place_zero, success_lawful, success_steady, IsLawfulFamily, AnyKey, Cause}
use Rattle.nom_internal.specs.laws.SequenceLaws.{then_lawful, then_steady}
use Rattle.nom_internal.specs.laws.ChoiceLaws.{otherwise_lawful, otherwise_steady}
use Rattle.nom_internal.specs.laws.CaseLaws.{labelled_lawful, labelled_steady}
use Rattle.nom_bytes_escaped.specs.declared.next_piece.Control.{Control}
use Rattle.nom_bytes_escaped.specs.declared.next_piece.NextPiece.TheVariants.{Done}
use Rattle.nom_bytes_escaped.specs.NextPieces.{IsLeft, left_leaf, StandsOther, StandsLast, StandsBefore, TellsControl, control_leaf, by_control}
use Rattle.nom_bytes_escaped.specs.NextPieces.{after_control, escape_meaning, piece_meaning, by_left, where_left, next_piece_meaning}

-- the items of the second of related inputs begin with the first's
module _ {I A : Type 0} (w : Model I A) where
  items_stay : (longer : Bool) (x y : I) → Related w longer x y → (more : List A) × (w.elements y ≡ w.elements x ++ more)
  items_stay true x y r = (r.more, r.whole)
  items_stay false x y r = ([], sym r.elements_are ∙ sym (no_more (w.elements x)))
    where
      no_more : (xs : List A) → xs ++ [] ≡ xs
      no_more [] = refl
      no_more (x ∷ xs) = ap (λ z. x ∷ z) (no_more xs)

-- whether an item is left
module _ {I A : Type 0} (w : Model I A) where
  one_left : (s : Bool) (xs : List A) (u v : Bool) → IsLeft s xs u → IsLeft s xs v → u ≡ v
  one_left s xs true true a b = refl
  one_left s xs true false a b = absurd (omega (arith, a, b.1))
  one_left s xs false true a b = absurd (omega (arith, b, a.1))
  one_left s xs false false a b = refl

  left_stays : (longer s : Bool) → (longer ≡ true → s ≡ true) → (x y : I) (v : Bool) → Related w longer x y → IsLeft s (w.elements x) v →
      IsLeft s (w.elements y) v
  left_stays longer s only x y true r a = let k = items_stay w longer x y r in omega (arith, a, ap length k.1, length-append (w.elements x) k.0)
  left_stays true s only x y false r a = absurd (cc (only refl, a.0))
  left_stays false s only x y false r a = (a.0, ap length (sym r.elements_are) ∙ a.1)

  left_settles : (xs : List A) (v : Bool) → IsLeft true xs v → IsLeft false xs v
  left_settles xs true a = a
  left_settles xs false a = absurd (cc (a.0))

  left_lacks : (xs : List A) (v : Bool) → IsLeft true xs v → length xs ≡ 0 → ⊥
  left_lacks xs true a e = omega (arith, a, e)
  left_lacks xs false a e = cc (a.0)

  pub left_laws : LeafLaws w (left_leaf w)
  left_laws = record {
    place = λ s i n v h a. place_zero w i n a.0;
    one_accepted = λ s i n m u v h a b. (a.0 ∙ sym b.0, one_left s (w.elements i) u v a.1 b.1);
    one_lack = λ i j k h a b. a.1 ∙ sym b.1;
    accepted_refused = λ s i n v h a b. b;
    accepted_lacks = λ i n v k h a b. left_lacks (w.elements i) v a.1 b.0;
    refused_lacks = λ i k h a b. a;
    accepted_stays = λ longer s only x y n v kx ky r a. (a.0, left_stays longer s only x y v r a.1);
    refused_stays = λ longer s only x y kx ky r a. a;
    lack_consistent = λ x y k kx ky r a. (ap length (sym r.elements_are) ∙ a.0, a.1);
    accepted_settles = λ i n v h a. (a.0, left_settles (w.elements i) v a.1);
    refused_settles = λ i h a. a;
  }

-- whether the first item is the control character
module _ {I A : Type 0} (w : Model I A) (IsControl : A → Type 0) (lack : Option ℕ) where
  other_control : (i : I) (x : A) (xs : List A) → StandsOther w IsControl i → w.elements i ≡ x ∷ xs → IsControl x → ⊥
  other_control i x xs a e c =
      let both : a.item ∷ a.items ≡ x ∷ xs = sym a.elements_are ∙ e in
      let same : x ≡ a.item = cc (both) in
      a.is_other (subst (λ z. IsControl z) same c)

  last_before : (i : I) (n : ℕ) → StandsLast w IsControl i → StandsBefore w IsControl i n → ⊥
  last_before i n a b = omega (arith, ap length (sym a.elements_are ∙ b.elements_are), b.some)

  one_length : (i : I) (n m : ℕ) → StandsBefore w IsControl i n → StandsBefore w IsControl i m → n ≡ m
  one_length i n m a b =
      let both : a.item ∷ a.items ≡ b.item ∷ b.items = sym a.elements_are ∙ b.elements_are in
      let same : a.item ≡ b.item = cc (both) in
      a.length_is ∙ (ap w.item_len same ∙ sym b.length_is)

  one_told : (s : Bool) (i : I) (n m : ℕ) (u v : Control (Unit {0})) → TellsControl w IsControl s i n u → TellsControl w IsControl s i m v → (n ≡ m) × (u ≡ v)
  one_told s i n m Control.None Control.None a b = (a.0 ∙ sym b.0, refl)
  one_told s i n m Control.None Control.Last a b = absurd (other_control i b.2.item [] a.1 b.2.elements_are b.2.is_control)
  one_told s i n m Control.None (Control.Before v) a b = absurd (other_control i b.item b.items a.1 b.elements_are b.is_control)
  one_told s i n m Control.Last Control.None a b = absurd (other_control i a.2.item [] b.1 a.2.elements_are a.2.is_control)
  one_told s i n m Control.Last Control.Last a b = (a.0 ∙ sym b.0, refl)
  one_told s i n m Control.Last (Control.Before v) a b = absurd (last_before i m a.2 b)
  one_told s i n m (Control.Before u) Control.None a b = absurd (other_control i a.item a.items b.1 a.elements_are a.is_control)
  one_told s i n m (Control.Before u) Control.Last a b = absurd (last_before i n b.2 a)
  one_told s i n m (Control.Before u) (Control.Before v) a b = (one_length i n m a b, refl)

  told_lacks : (i : I) (n : ℕ) (v : Control (Unit {0})) → TellsControl w IsControl true i n v → StandsLast w IsControl i → ⊥
  told_lacks i n Control.None a b = other_control i b.item [] a.1 b.elements_are b.is_control
  told_lacks i n Control.Last a b = cc (a.1)
  told_lacks i n (Control.Before v) a b = last_before i n b a

  told_place : (s : Bool) (i : I) (n : ℕ) (v : Control (Unit {0})) → TellsControl w IsControl s i n v → IsBoundary w i n
  told_place s i n Control.None a = place_zero w i n a.0
  told_place s i n Control.Last a = place_zero w i n a.0
  told_place s i n (Control.Before v) a = record { front = a.item ∷ []; rest = a.items; whole = a.elements_are; length_is = omega (arith, a.length_is) }

  told_stays : (longer s : Bool) → (longer ≡ true → s ≡ true) → (x y : I) (n : ℕ) (v : Control (Unit {0})) → Related w longer x y →
      TellsControl w IsControl s x n v → TellsControl w IsControl s y n v
  told_stays longer s only x y n Control.None r a =
      let k = items_stay w longer x y r in
      (a.0, record { item = a.1.item; items = a.1.items ++ k.0; elements_are = k.1 ∙ ap (λ z. z ++ k.0) a.1.elements_are; is_other = a.1.is_other })
  told_stays true s only x y n Control.Last r a = absurd (cc (only refl, a.1))
  told_stays false s only x y n Control.Last r a =
      (a.0, a.1, record { item = a.2.item; elements_are = sym r.elements_are ∙ a.2.elements_are; is_control = a.2.is_control })
  told_stays longer s only x y n (Control.Before v) r a =
      let k = items_stay w longer x y r in
      record {
        item = a.item;
        items = a.items ++ k.0;
        elements_are = k.1 ∙ ap (λ z. z ++ k.0) a.elements_are;
        is_control = a.is_control;
        some = omega (arith, a.some, length-append a.items k.0);
        length_is = a.length_is;
      }

  told_settles : (i : I) (n : ℕ) (v : Control (Unit {0})) → TellsControl w IsControl true i n v → TellsControl w IsControl false i n v
  told_settles i n Control.None a = a
  told_settles i n Control.Last a = absurd (cc (a.1))
  told_settles i n (Control.Before v) a = a

  pub control_laws : LeafLaws w (control_leaf w IsControl lack)
  control_laws = record {
    place = λ s i n v h a. told_place s i n v a;
    one_accepted = λ s i n m u v h a b. one_told s i n m u v a b;
    one_lack = λ i j k h a b. a.1 ∙ sym b.1;
    accepted_refused = λ s i n v h a b. b;
    accepted_lacks = λ i n v k h a b. told_lacks i n v a b.0;
    refused_lacks = λ i k h a b. a;
    accepted_stays = λ longer s only x y n v kx ky r a. told_stays longer s only x y n v r a;
    refused_stays = λ longer s only x y kx ky r a. a;
    lack_consistent = λ x y k kx ky r a. (
      record { item = (a.0).item; elements_are = sym r.elements_are ∙ (a.0).elements_are; is_control = (a.0).is_control },
      a.1,
    );
    accepted_settles = λ i n v h a. told_settles i n v a;
    refused_settles = λ i h a. a;
  }

-- what follows by what was told
module _ {I A W E : Type 0} (U : Type 0) (w : Model I A) (g : Meaning I W E) where
  control_lawful : IsLawful w g → (c : Control (Unit {0})) → IsLawful w (by_control {U = U} g c)
  control_lawful q Control.None = success_lawful
  control_lawful q Control.Last = success_lawful
  control_lawful q (Control.Before u) = labelled_lawful q

  control_steady : IsSteady w g → (c : Control (Unit {0})) → IsSteady w (by_control {U = U} g c)
  control_steady q Control.None = success_steady
  control_steady q Control.Last = success_steady
  control_steady q (Control.Before u) = labelled_steady q

  control_frugal : (mode : Modes) → g.IsFrugal mode → (c : Control (Unit {0})) → (by_control {U = U} g c).IsFrugal mode
  control_frugal mode h Control.None = λ e z. z
  control_frugal mode h Control.Last = λ e z. z
  control_frugal mode h (Control.Before u) = h

  control_settles : g.Settles → (c : Control (Unit {0})) → (by_control {U = U} g c).Settles
  control_settles h Control.None = tt
  control_settles h Control.Last = tt
  control_settles h (Control.Before u) = h

  control_never : (cause : Cause) → g.NeverFails cause → (c : Control (Unit {0})) → (by_control {U = U} g c).NeverFails cause
  control_never cause h Control.None = tt
  control_never cause h Control.Last = tt
  control_never cause h (Control.Before u) = h

  pub after_lawful : IsLawful w g → IsLawfulFamily w AnyKey (after_control {U = U} g)
  after_lawful q = record {
    lawful = λ c _. control_lawful q c;
    frugal = λ mode h c _. control_frugal mode h c;
    settles = λ h c _. control_settles h c;
    never_fails = λ cause h c _. control_never cause h c;
  }

module _ {I A V E : Type 0} (w : Model I A) (done : V) (m : Meaning I V E) where
  left_lawful : IsLawful w m → (b : Bool) → IsLawful w (by_left done m b)
  left_lawful p true = p
  left_lawful p false = success_lawful

  pub left_steady : IsSteady w m → (b : Bool) → IsSteady w (by_left done m b)
  left_steady p true = p
  left_steady p false = success_steady

  left_frugal : (mode : Modes) → m.IsFrugal mode → (b : Bool) → (by_left done m b).IsFrugal mode
  left_frugal mode h true = h
  left_frugal mode h false = λ e z. z

  left_settled : m.Settles → (b : Bool) → (by_left done m b).Settles
  left_settled h true = h
  left_settled h false = tt

  left_never : (cause : Cause) → m.NeverFails cause → (b : Bool) → (by_left done m b).NeverFails cause
  left_never cause h true = h
  left_never cause h false = tt

  pub where_left_lawful : IsLawful w m → IsLawfulFamily w AnyKey (where_left done m)
  where_left_lawful p = record {
    lawful = λ b _. left_lawful p b;
    frugal = λ mode h b _. left_frugal mode h b;
    settles = λ h b _. left_settled h b;
    never_fails = λ cause h b _. left_never cause h b;
  }

module _ {I A U W E : Type 0} {w : Model I A} (l : InputLaws w) (IsControl : A → Type 0) (lack : Option ℕ) {g : Meaning I W E} where
  escape_lawful : IsLawful w g → IsLawful w (escape_meaning {U = U} w IsControl lack g)
  escape_lawful q = then_lawful l {first_mode = λ o. o} (after_control g) (leaf_lawful (control_laws w IsControl lack)) (after_lawful U w g q)

  escape_steady : IsSteady w g → IsSteady w (escape_meaning {U = U} w IsControl lack g)
  escape_steady q = then_steady l {first_mode = λ o. o} (after_control g) (leaf_steady (control_laws w IsControl lack)) (control_steady U w g q)

module _ {I A U W E : Type 0} {w : Model I A} (l : InputLaws w) (IsControl : A → Type 0) (lack : Option ℕ) {m : Meaning I U E} {g : Meaning I W E} where
  piece_lawful : IsLawful w m → IsLawful w g → IsLawful w (piece_meaning w IsControl lack m g)
  piece_lawful p q = otherwise_lawful (labelled_lawful p) (escape_lawful l IsControl lack q)

  piece_steady : IsSteady w m → IsSteady w g → IsSteady w (piece_meaning w IsControl lack m g)
  piece_steady p q = otherwise_steady (labelled_steady p) (escape_steady l IsControl lack q)

  pub next_piece_lawful : IsLawful w m → IsLawful w g → IsLawful w (next_piece_meaning w IsControl lack m g)
  next_piece_lawful p q =
      let left = where_left_lawful w Done (piece_meaning w IsControl lack m g) (piece_lawful p q) in
      then_lawful l {first_mode = λ o. o} (where_left Done (piece_meaning w IsControl lack m g)) (leaf_lawful (left_laws w)) left

  pub next_piece_steady : IsSteady w m → IsSteady w g → IsSteady w (next_piece_meaning w IsControl lack m g)
  next_piece_steady p q =
      let left = left_steady w Done (piece_meaning w IsControl lack m g) (piece_steady p q) in
      then_steady l {first_mode = λ o. o} (where_left Done (piece_meaning w IsControl lack m g)) (leaf_steady (left_laws w)) left
