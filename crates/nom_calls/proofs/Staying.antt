-- Items stay on longer inputs, and are the same on inputs that are equal as models.
use Rattle.std.proofs.Common.{arith, ◌≡◌, ℕ, suc, zero, ◌<◌, ◌≤◌, Bool, true, false, List, [], ◌∷◌, ◌++◌, length, map, refl, sym, ◌∙◌, ap, subst}
use Rattle.std.specs.List.{AllZip}
use Rattle.nom_internal.specs.Prelude.{Model, InputLaws, IsSuffixOf, Related, Extends, IsSame, input_len, items_len, rest_related, items_len-append, View}
use Rattle.nom_internal.specs.Prelude.{IsPinned, Outcome, Accept, Meaning, IsLawful, IsSteady, Keeps, Agree}
use Rattle.nom_calls.specs.Iterated.{Ends, AreItems, ItemsStay, ItemsAreOne, ItemsFit, OutputsStay}

module _ {V : Type 0} where
  never_ends : (o : Outcome V) (n : ℕ) (v : V) → Accept n v ≡ o → Ends o → ⊥
  never_ends o n v e h = subst (λ z. Ends z) (sym e) h

  accept_kept : (longer : Bool) (n : ℕ) (v : V) → Keeps longer (Accept n v)
  accept_kept true n v = tt
  accept_kept false n v = tt

-- the first acceptance, and then the items on its rest, on related inputs
module _ {I A V : Type 0} (w : Model I A) (l : InputLaws w) (Answers : I → Outcome V → Type 0) (longer : Bool) (agree : Agree w longer Answers Answers) where
  module _ (x y : I) (t : V) (k : ℕ) (j : I) (kx : w.IsKnown x) (ky : w.IsKnown y) (r : Related w longer x y) (a : Answers x (Accept k t))
      (p : IsSuffixOf w x k j) where
    first_kept : (u : V) (n : ℕ) (i : I) → Answers y (Accept n u) → IsSuffixOf w y n i → (t ≡ u) × Related w longer j i
    first_kept u n i b q =
        let same : Accept k t ≡ Accept n u = agree x y (Accept k t) (Accept n u) kx ky r a (accept_kept longer k t) b in
        let length : k ≡ n = cc (same) in
        let tree : t ≡ u = cc (same) in
        (tree, rest_related w l longer x y k j i r p (subst (λ z. IsSuffixOf w y z i) (sym length) q))

    first_ends : (o : Outcome V) → Answers y o → Ends o → ⊥
    first_ends o b e = never_ends o k t (agree x y (Accept k t) o kx ky r a (accept_kept longer k t) b) e

module _ {I A V E : Type 0} (w : Model I A) (l : InputLaws w) (m : Meaning I V E) where
  running_stay : IsSteady w m → (limit : ℕ) (x y : I) (ts us : List V) → w.IsKnown x → w.IsKnown y → Extends w x y →
      AreItems w (m.answers true) limit x ts → AreItems w (m.answers true) limit y us → (more : List V) × (us ≡ ts ++ more)
  running_stay k zero x y ts us kx ky r a b = ([], b ∙ ap (λ z. z ++ []) (sym a))
  running_stay k (suc n) x y [] us kx ky r a b = (us, refl)
  running_stay k (suc n) x y (t ∷ ts) [] kx ky r a b = absurd (first_ends w l (m.answers true) true k.stays x y t a.0 a.1 kx ky r a.2 a.3 b.0 b.1 b.2)
  running_stay k (suc n) x y (t ∷ ts) (u ∷ us) kx ky r a b =
      let first = first_kept w l (m.answers true) true k.stays x y t a.0 a.1 kx ky r a.2 a.3 u b.0 b.1 b.2 b.3 in
      let others = running_stay k n a.1 b.1 ts us (a.3).known (b.3).known first.1 a.4 b.4 in
      (others.0, cc (first.0, others.1))

  pub items_stay : IsSteady w m → ItemsStay w m
  items_stay k true limit x y ts us kx ky r a b = ([], b ∙ ap (λ z. z ++ []) (sym a))
  items_stay k false limit x y ts us kx ky r a b = running_stay k limit x y ts us kx ky r a b

  running_are_one : IsLawful w m → (limit : ℕ) (x y : I) (ts us : List V) → w.IsKnown x → w.IsKnown y → IsSame w x y →
      AreItems w (m.answers true) limit x ts → AreItems w (m.answers true) limit y us → ts ≡ us
  running_are_one k zero x y ts us kx ky r a b = a ∙ sym b
  running_are_one k (suc n) x y [] [] kx ky r a b = refl
  running_are_one k (suc n) x y [] (u ∷ us) kx ky r a b =
      absurd (first_ends w l (m.answers true) false (k.one_outcome true) y x u b.0 b.1 ky kx
      (record { elements_are = sym r.elements_are; mark_is = sym r.mark_is }) b.2 b.3 a.0 a.1 a.2)
  running_are_one k (suc n) x y (t ∷ ts) [] kx ky r a b =
      absurd (first_ends w l (m.answers true) false (k.one_outcome true) x y t a.0 a.1 kx ky r a.2 a.3 b.0 b.1 b.2)
  running_are_one k (suc n) x y (t ∷ ts) (u ∷ us) kx ky r a b =
      let first = first_kept w l (m.answers true) false (k.one_outcome true) x y t a.0 a.1 kx ky r a.2 a.3 u b.0 b.1 b.2 b.3 in
      let others = running_are_one k n a.1 b.1 ts us (a.3).known (b.3).known first.1 a.4 b.4 in
      cc (first.0, others)

  pub items_are_one : IsLawful w m → ItemsAreOne w m
  items_are_one k true limit x y ts us kx ky r a b = a ∙ sym b
  items_are_one k false limit x y ts us kx ky r a b = running_are_one k limit x y ts us kx ky r a b

module _ {I A V E : Type 0} (w : Model I A) (m : Meaning I V E) where
  running_fit : ((i : I) (k : ℕ) (t : V) → m.answers true i (Accept k t) → 0 < k) → (limit : ℕ) (x : I) (ts : List V) →
      AreItems w (m.answers true) limit x ts → length ts ≤ input_len w x
  running_fit f zero x ts a = omega (arith, ap length a)
  running_fit f (suc n) x [] a = omega arith
  running_fit f (suc n) x (t ∷ ts) a =
      let others = running_fit f n a.1 ts a.4 in
      omega (arith, f x a.0 t a.2, others, ap (items_len w.item_len) (a.3).whole, items_len-append w.item_len (a.3).front (w.elements a.1), (a.3).length_is)

  pub items_fit : ItemsFit w m
  items_fit f true limit x ts a = omega (arith, ap length a)
  items_fit f false limit x ts a = running_fit f limit x ts a

-- the outputs of a beginning of some trees have the views of the first outputs of all
module _ {V O : Type 0} {view : View O} {IsOutput : V → O → Type 0} (pinned : IsPinned view IsOutput) where
  first_consistent : (ts more : List V) (vs vs' : List O) → AllZip IsOutput ts vs → AllZip IsOutput (ts ++ more) vs' → (rest : List view.Value) ×
      (map view.value vs' ≡ map view.value vs ++ rest)
  first_consistent [] more [] vs' h k = (map view.value vs', refl)
  first_consistent [] more (v ∷ vs) vs' h k = absurd h
  first_consistent (t ∷ ts) more [] vs' h k = absurd h
  first_consistent (t ∷ ts) more (v ∷ vs) [] h k = absurd k
  first_consistent (t ∷ ts) more (v ∷ vs) (u ∷ us) h k =
      let others = first_consistent ts more vs us h.1 k.1 in
      (others.0, cc (pinned.one_view t v u h.0 k.0, others.1))

module _ {I A V O E : Type 0} (w : Model I A) (l : InputLaws w) (m : Meaning I V E) (view : View O) (Pins : Type 0) (IsOutput : V → O → Type 0) where
  pub outputs_stay : IsSteady w m → (Pins → IsPinned view IsOutput) → OutputsStay w m view Pins IsOutput
  outputs_stay k pinned ended limit x y ts us vs vs' kx ky r a b h j p =
      let stay = items_stay w l m k ended limit x y ts us kx ky r a b in
      first_consistent (pinned p) ts stay.0 vs vs' h (subst (λ z. AllZip IsOutput z vs') stay.1 j)
