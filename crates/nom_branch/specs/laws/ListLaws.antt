-- The laws of choices among the parsers of a list.
use Rattle.std.specs.Prelude.{◌≡◌, ℕ, ◌+◌, List, [], ◌∷◌, map}
use Rattle.std.proofs.Common.{sym, ◌∙◌, subst, zero, suc}
use Rattle.nom_internal.specs.Prelude.{Errors, Model, View, Meaning, IsLawful, IsSteady, IsPinned, LeafLaws, leaf_lawful, leaf_steady, or_meaning}
use Rattle.nom_internal.specs.laws.CaseLaws.{labelled_lawful, labelled_steady, closed_lawful, closed_steady}
use Rattle.nom_internal.specs.laws.ChoiceLaws.{or_lawful, or_steady}
use Rattle.nom_choose.specs.Sound.{sound_before, sound_at}
use Rattle.nom_choose.specs.Lists.{no_branch, branch_meaning, others_meaning, list_meaning, IsElementAt, Each, ListOutput}

no_branch_laws : {I A V : Type 0} (w : Model I A) → LeafLaws {V = V} w no_branch
no_branch_laws w = record {
  place = λ s i n v h a. absurd a;
  one_accepted = λ s i n m u v h a b. absurd a;
  one_lack = λ i j k h a b. absurd a;
  accepted_refused = λ s i n v h a b. a;
  accepted_lacks = λ i n v k h a b. a;
  refused_lacks = λ i k h a b. b;
  accepted_stays = λ longer s only x y n v kx ky r a. a;
  refused_stays = λ longer s only x y kx ky r a. a;
  lack_consistent = λ x y k kx ky r a. a;
  accepted_settles = λ i n v h a. a;
  refused_settles = λ i h a. a;
}

-- a fact of each branch that a choice of two keeps, of all after the first
module _ {S I V E : Type 0} (e : Errors I E) (part : S → Meaning I V E) (Law : Meaning I (ℕ × V) E → Type 0)
    (or : (m n : Meaning I (ℕ × V) E) → Law m → Law n → Law (or_meaning e.joined e.grows m n))
    (branch : (k : ℕ) (s : S) → (part s).IsSound → Law (branch_meaning k (part s))) where
  others_law : (m : Meaning I (ℕ × V) E) (k : ℕ) (ss : List S) → (others_meaning e part m k ss).IsSound → Law m → Law (others_meaning e part m k ss)
  others_law m k [] h l = l
  others_law m k (s ∷ ss) h l =
      let n = or_meaning e.joined e.grows m (branch_meaning k (part s)) in
      others_law n (k + 1) ss h (or m (branch_meaning k (part s)) l (branch k s (sound_before e part n (k + 1) ss h).1))

  list_law : (s : S) (ss : List S) → (list_meaning e part (s ∷ ss)).IsSound → Law (others_meaning e part (branch_meaning 0 (part s)) 1 ss)
  list_law s ss h = others_law (branch_meaning 0 (part s)) 1 ss h (branch 0 s (sound_before e part (branch_meaning 0 (part s)) 1 ss h))

module _ {S I A V E : Type 0} (w : Model I A) (e : Errors I E) (part : S → Meaning I V E) where
  pub list_lawful : ((s : S) → (part s).IsSound → IsLawful w (part s)) → (ss : List S) → (list_meaning e part ss).IsSound → IsLawful w (list_meaning e part ss)
  list_lawful p [] h = leaf_lawful (no_branch_laws w)
  list_lawful p (s ∷ ss) h = closed_lawful (list_law e part (IsLawful w) (λ m n a b. or_lawful a b) (λ k s h. labelled_lawful (p s h)) s ss h)

  pub list_steady : ((s : S) → (part s).IsSound → IsSteady w (part s)) → (ss : List S) → (list_meaning e part ss).IsSound → IsSteady w (list_meaning e part ss)
  list_steady p [] h = leaf_steady (no_branch_laws w)
  list_steady p (s ∷ ss) h = closed_steady (list_law e part (IsSteady w) (λ m n a b. or_steady a b) (λ k s h. labelled_steady (p s h)) s ss h)

-- one element stands at a place, and the fact of each is its own
stands_once : {S : Type 0} (ss : List S) (k : ℕ) (x y : S) → IsElementAt ss k x → IsElementAt ss k y → x ≡ y
stands_once [] k x y p q = absurd p
stands_once (s ∷ ss) zero x y p q = sym p ∙ q
stands_once (s ∷ ss) (suc k) x y p q = stands_once ss k x y p q

-- the fact of each parser is that of the one whose state stands at a place
fact_at : {P S : Type 0} (state : P → S) (Fact : P → Type 0) (ps : List P) (k : ℕ) (s : S) → Each Fact ps → IsElementAt (map state ps) k s →
    (p : P) × (state p ≡ s) × Fact p
fact_at state Fact [] k s h l = absurd l
fact_at state Fact (p ∷ ps) zero s h l = (p, l, h.0)
fact_at state Fact (p ∷ ps) (suc k) s h l = fact_at state Fact ps k s h.1 l

module _ {P S I V O E : Type 0} (e : Errors I E) (part : S → Meaning I V E) (state : P → S) (IsOutput : S → V → O → Type 0) (Pins : P → Type 0)
    {view : View O} where
  -- two outputs of one tree are equal as viewed, where each parser pins
  pub list_pinned : ((p : P) → (part (state p)).IsSound → Pins p → IsPinned view (IsOutput (state p))) → (ps : List P) →
      (list_meaning e part (map state ps)).IsSound → Each Pins ps → IsPinned view (ListOutput IsOutput (map state ps))
  list_pinned f ps h pins = record {
    one_view = λ t a b x y.
        let ss = map state ps in
        let one = stands_once ss t.0 y.0 x.0 y.1 x.1 in
        let at = fact_at state Pins ps t.0 x.0 pins x.1 in
        let pinned = subst (λ s. (part s).IsSound → IsPinned view (IsOutput s)) at.1 (λ k. f at.0 k at.2) (sound_at e part ss t.0 x.0 x.1 h) in
        pinned.one_view t.1 a b x.2 (subst (λ z. IsOutput z t.1 b) one y.2);
  }
