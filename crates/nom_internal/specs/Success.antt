-- An acceptance of nothing.
use Rattle.std.specs.Prelude.{◌≡◌, ℕ, [], refl}
use Rattle.std.proofs.Common.{sym, ◌∙◌}
use Rattle.nom_traits.specs.Input.{Model, IsBoundary}
use Rattle.nom_internal.specs.Meaning.{Meaning, IsLawful, IsSteady}
use Rattle.nom_internal.specs.Leaf.{Leaf, LeafLaws, leaf_meaning, leaf_lawful, leaf_steady}

-- nothing is consumed, and a value is given
abbrev pub success_leaf : {I V : Type 0} → V → Leaf I V
success_leaf v = record {
  Accepts = λ s i n u. (n ≡ 0) × (u ≡ v);
  Refuses = λ s i. ⊥;
  Lacks = λ i k. ⊥;
}

abbrev pub success_meaning : {I V E : Type 0} → V → Meaning I V E
success_meaning v = leaf_meaning (λ i e. ⊥) ⊥ (success_leaf v)

-- the place before all items
pub place_zero : {I A : Type 0} (w : Model I A) (i : I) (n : ℕ) → n ≡ 0 → IsBoundary w i n
place_zero w i n e = record { front = []; rest = w.elements i; whole = refl; length_is = sym e }

pub success_laws : {I A V : Type 0} (w : Model I A) (v : V) → LeafLaws w (success_leaf v)
success_laws w v = record {
  place = λ s i n u h a. place_zero w i n a.0;
  one_accepted = λ s i n m u t h a b. (a.0 ∙ sym b.0, a.1 ∙ sym b.1);
  one_lack = λ i j k h a b. absurd a;
  accepted_refused = λ s i n u h a b. b;
  accepted_lacks = λ i n u k h a b. b;
  refused_lacks = λ i k h a b. b;
  accepted_stays = λ longer s only x y n u kx ky r a. a;
  refused_stays = λ longer s only x y kx ky r a. a;
  lack_consistent = λ x y k kx ky r a. a;
  accepted_settles = λ i n u h a. a;
  refused_settles = λ i h a. a;
}

module _ {I A V E : Type 0} {w : Model I A} {v : V} where
  pub success_lawful : IsLawful w (success_meaning {E = E} v)
  success_lawful = leaf_lawful (success_laws w v)

  pub success_steady : IsSteady w (success_meaning {E = E} v)
  success_steady = leaf_steady (success_laws w v)
