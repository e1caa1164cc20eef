-- Leaves: parsers with no part.
use Rattle.std.specs.Prelude.{◌≡◌, ℕ, Bool, true, false, Option, refl}
use Rattle.std.proofs.Common.{ap, subst}
use Rattle.nom_traits.specs.Input.{Model, IsBoundary, IsSame, Related}
use Rattle.nom_internal.specs.Outcome.{Outcome}
use Rattle.nom_internal.specs.Outcome.Outcome.{Accept, Refuse, Stop}
use Rattle.nom_internal.specs.Outcome.Reason.{Fails, Needs}
use Rattle.nom_internal.specs.Meaning.{Meaning, IsLawful, IsSteady, Keeps, Agree}

-- what a leaf does, by mode and input
pub record Leaf (I V : Type 0) : Type 1 where
  -- it accepts the first items, of a length, with a tree
  pub Accepts : Bool → I → ℕ → V → Type 0
  pub Refuses : Bool → I → Type 0
  -- more is needed, of a size or an unknown one, where more may come
  pub Lacks : I → Option ℕ → Type 0

abbrev pub LeafAnswers : {I V : Type 0} → Leaf I V → Bool → I → Outcome V → Type 0
LeafAnswers leaf s i (Accept n v) = leaf.Accepts s i n v
LeafAnswers leaf s i Refuse = leaf.Refuses s i
LeafAnswers leaf s i (Stop (Fails cause)) = ⊥
LeafAnswers leaf s i (Stop (Needs k)) = (s ≡ true) × leaf.Lacks i k

-- a leaf with the error of its refusals, for which alone it takes memory
abbrev pub leaf_meaning : {I V E : Type 0} → (I → E → Type 0) → Type 0 → Leaf I V → Meaning I V E
leaf_meaning Blames Grows leaf = record {
  Runs = Unit {0};
  IsSound = Unit {0};
  answers = LeafAnswers leaf;
  blames = λ s. Blames;
  may_run_out = λ mode i. leaf.Refuses mode.streaming i × (mode.errors ≡ true) × Grows;
  IsFrugal = λ mode. mode.errors ≡ true → Grows → ⊥;
  Settles = Unit {0};
  NeverFails = λ cause. Unit {0};
}

-- What a leaf must keep. Where it is said of two inputs, the second is longer than the first, and more may come, or equal as models.
pub record LeafLaws {I A V : Type 0} (w : Model I A) (leaf : Leaf I V) : Type 0 where
  pub place : (s : Bool) (i : I) (n : ℕ) (v : V) → w.IsKnown i → leaf.Accepts s i n v → IsBoundary w i n
  -- no two answers
  pub one_accepted : (s : Bool) (i : I) (n m : ℕ) (u v : V) → w.IsKnown i → leaf.Accepts s i n u → leaf.Accepts s i m v → (n ≡ m) × (u ≡ v)
  pub one_lack : (i : I) (j k : Option ℕ) → w.IsKnown i → leaf.Lacks i j → leaf.Lacks i k → j ≡ k
  pub accepted_refused : (s : Bool) (i : I) (n : ℕ) (v : V) → w.IsKnown i → leaf.Accepts s i n v → leaf.Refuses s i → ⊥
  pub accepted_lacks : (i : I) (n : ℕ) (v : V) (k : Option ℕ) → w.IsKnown i → leaf.Accepts true i n v → leaf.Lacks i k → ⊥
  pub refused_lacks : (i : I) (k : Option ℕ) → w.IsKnown i → leaf.Refuses true i → leaf.Lacks i k → ⊥
  -- an answer stays
  pub accepted_stays : (longer s : Bool) → (longer ≡ true → s ≡ true) → (x y : I) (n : ℕ) (v : V) → w.IsKnown x → w.IsKnown y → Related w longer x y →
      leaf.Accepts s x n v → leaf.Accepts s y n v
  pub refused_stays : (longer s : Bool) → (longer ≡ true → s ≡ true) → (x y : I) → w.IsKnown x → w.IsKnown y → Related w longer x y → leaf.Refuses s x →
      leaf.Refuses s y
  pub lack_consistent : (x y : I) (k : Option ℕ) → w.IsKnown x → w.IsKnown y → IsSame w x y → leaf.Lacks x k → leaf.Lacks y k
  -- a streaming answer is the complete one
  pub accepted_settles : (i : I) (n : ℕ) (v : V) → w.IsKnown i → leaf.Accepts true i n v → leaf.Accepts false i n v
  pub refused_settles : (i : I) → w.IsKnown i → leaf.Refuses true i → leaf.Refuses false i

module _ {I A V : Type 0} {w : Model I A} {leaf : Leaf I V} (l : LeafLaws w leaf) where
  answers_carry : (longer s : Bool) → (longer ≡ true → s ≡ true) → (x y : I) (o : Outcome V) → w.IsKnown x → w.IsKnown y → Related w longer x y →
      LeafAnswers leaf s x o → Keeps longer o → LeafAnswers leaf s y o
  answers_carry longer s only x y (Accept n v) kx ky r a d = l.accepted_stays longer s only x y n v kx ky r a
  answers_carry longer s only x y Refuse kx ky r a d = l.refused_stays longer s only x y kx ky r a
  answers_carry longer s only x y (Stop (Fails cause)) kx ky r a d = absurd a
  answers_carry true s only x y (Stop (Needs k)) kx ky r a d = absurd d
  answers_carry false s only x y (Stop (Needs k)) kx ky r a d = (a.0, l.lack_consistent x y k kx ky r a.1)

  one_answer : (s : Bool) (i : I) (o p : Outcome V) → w.IsKnown i → LeafAnswers leaf s i o → LeafAnswers leaf s i p → o ≡ p
  one_answer s i (Accept n u) (Accept m v) h a b = let e = l.one_accepted s i n m u v h a b in cc (e.0, e.1)
  one_answer s i (Accept n u) Refuse h a b = absurd (l.accepted_refused s i n u h a b)
  one_answer s i (Accept n u) (Stop (Needs k)) h a b = absurd (l.accepted_lacks i n u k h (subst (λ z. leaf.Accepts z i n u) b.0 a) b.1)
  one_answer s i Refuse (Accept n v) h a b = absurd (l.accepted_refused s i n v h b a)
  one_answer s i Refuse Refuse h a b = refl
  one_answer s i Refuse (Stop (Needs k)) h a b = absurd (l.refused_lacks i k h (subst (λ z. leaf.Refuses z i) b.0 a) b.1)
  one_answer s i (Stop (Needs j)) (Accept n v) h a b = absurd (l.accepted_lacks i n v j h (subst (λ z. leaf.Accepts z i n v) a.0 b) a.1)
  one_answer s i (Stop (Needs j)) Refuse h a b = absurd (l.refused_lacks i j h (subst (λ z. leaf.Refuses z i) a.0 b) a.1)
  one_answer s i (Stop (Needs j)) (Stop (Needs k)) h a b = ap (λ d. Stop (Needs d)) (l.one_lack i j k h a.1 b.1)
  one_answer s i (Stop (Fails cause)) p h a b = absurd a
  one_answer s i (Accept n u) (Stop (Fails cause)) h a b = absurd b
  one_answer s i Refuse (Stop (Fails cause)) h a b = absurd b
  one_answer s i (Stop (Needs j)) (Stop (Fails cause)) h a b = absurd b

  answers_agree : (longer s : Bool) → (longer ≡ true → s ≡ true) → Agree w longer (LeafAnswers leaf s) (LeafAnswers leaf s)
  answers_agree longer s only x y o p kx ky r a d b = one_answer s y o p ky (answers_carry longer s only x y o kx ky r a d) b

  answers_settle : (i : I) (o : Outcome V) → w.IsKnown i → LeafAnswers leaf true i o → Keeps true o → LeafAnswers leaf false i o
  answers_settle i (Accept n v) h a d = l.accepted_settles i n v h a
  answers_settle i Refuse h a d = l.refused_settles i h a
  answers_settle i (Stop (Fails cause)) h a d = a
  answers_settle i (Stop (Needs k)) h a d = absurd d

  module _ {E : Type 0} {Blames : I → E → Type 0} {Grows : Type 0} where
    pub leaf_lawful : IsLawful w (leaf_meaning Blames Grows leaf)
    leaf_lawful = record {
      within = λ s i n v h a. l.place s i n v h a;
      one_outcome = λ s. answers_agree false s (λ e. cc);
      consistent = λ s x y o kx ky r a d. answers_carry false s (λ e. cc) x y o kx ky r a d;
      frugal = λ mode i h f r. f r.1 r.2;
      settles = λ t x y o kx ky r a d. answers_settle y o ky (answers_carry false true (λ e. refl) x y o kx ky r a tt) d;
      blames_consistent = λ t s i o e h a b d z. z;
      never_fails = λ cause g s i h a. a;
    }

    pub leaf_steady : IsSteady w (leaf_meaning Blames Grows leaf)
    leaf_steady = record { stays = answers_agree true true (λ e. e) }
