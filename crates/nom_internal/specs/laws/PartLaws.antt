-- Consequences of the laws of a part, at one input and from one mode to the other.
use Rattle.std.specs.Prelude.{◌≡◌, ℕ, Bool, true, false, not}
use Rattle.std.proofs.Common.{sym, subst}
use Rattle.nom_internal.specs.Prelude.{Model, IsSame, same_self, same_sym, Outcome, Cause, Accept, Refuse, Stop, Fails, mapped, IsDecided, OnOutcome, Meaning}
use Rattle.nom_internal.specs.Prelude.{IsLawful, Keeps, Agree, Carries, SameBlame}

-- an outcome with another length and another tree is kept, and fails, as its own does
pub keeps_mapped : {V W : Type 0} (longer : Bool) (l : ℕ → ℕ) (f : V → W) (o : Outcome V) → Keeps longer (mapped l f o) → Keeps longer o
keeps_mapped true l f (Accept m v) k = tt
keeps_mapped true l f Refuse k = tt
keeps_mapped true l f (Stop why) k = k
keeps_mapped false l f o k = tt

pub failure_mapped : {V W : Type 0} (cause : Cause) (l : ℕ → ℕ) (f : V → W) (o : Outcome V) → Stop (Fails cause) ≡ mapped l f o → o ≡ Stop (Fails cause)
failure_mapped cause l f (Accept m v) e = cc
failure_mapped cause l f Refuse e = cc
failure_mapped cause l f (Stop why) e = cc (e)

-- two modes of a part, of which the second's decided outcomes are the first's: what is said of the one, said of the other
pub record Transfers {I A V E : Type 0} (w : Model I A) (P Q : I → Outcome V → Type 0) (B C : I → E → Type 0) : Type 0 where
  pub one : Agree w false P P
  pub consistent : Carries w false Q Q
  -- two decided outcomes are one
  pub meets : (x y : I) (o p : Outcome V) → w.IsKnown x → w.IsKnown y → IsSame w x y → P x o → Q y p → IsDecided o → IsDecided p → o ≡ p
  pub blames : SameBlame w P Q B C

module _ {I A V E : Type 0} (w : Model I A) (m : Meaning I V E) (l : IsLawful w m) where
  -- a parser has one outcome at one input
  pub one_at : (s : Bool) (i : I) (o p : Outcome V) → w.IsKnown i → m.answers s i o → m.answers s i p → o ≡ p
  one_at s i o p h a b = l.one_outcome s i i o p h h (same_self w i) a tt b

  modes_meet : m.Settles → (s : Bool) (x y : I) (o p : Outcome V) → w.IsKnown x → w.IsKnown y → IsSame w x y → m.answers s x o → m.answers (not s) y p →
      IsDecided o → IsDecided p → o ≡ p
  modes_meet t true x y o p kx ky r a b d e = l.one_outcome false y y o p ky ky (same_self w y) (l.settles t x y o kx ky r a d) tt b
  modes_meet t false x y o p kx ky r a b d e = l.one_outcome false x x o p kx kx (same_self w x) a tt (l.settles t y x p ky kx (same_sym w x y r) b e)

  pub transfers : m.Settles → (s : Bool) → Transfers w (m.answers s) (m.answers (not s)) (m.blames s) (m.blames (not s))
  transfers t s = record {
    one = l.one_outcome s;
    consistent = l.consistent (not s);
    meets = modes_meet t s;
    blames = l.blames_consistent t s;
  }

module _ {I A V E : Type 0} (w : Model I A) (P Q : I → Outcome V → Type 0) (B C : I → E → Type 0) (t : Transfers w P Q B C) where
  -- the first mode's outcome at i, where both modes decide on inputs equal as models, is the second's there
  pub transferred : (i x y : I) (b a c : Outcome V) → w.IsKnown i → w.IsKnown x → w.IsKnown y → IsSame w i x → IsSame w y i → P i b → P x a → Q y c →
      IsDecided a → IsDecided c → Q i b × IsDecided b
  transferred i x y b a c ki kx ky r s p f q d e =
      let same : b ≡ a = t.one i x b a ki kx r p tt f in
      let decided : IsDecided b = subst (λ o. IsDecided o) (sym same) d in
      let moved : Q i c = t.consistent y i c ky ki s q tt in
      let equal : b ≡ c = t.meets i i b c ki ki (same_self w i) p moved decided e in
      (subst (λ o. Q i o) (sym equal) moved, decided)

  -- a blame of the first mode at i, where both modes decide on inputs equal as models, is the second's
  pub blame_transferred : (i x y : I) (a c : Outcome V) (e : E) → w.IsKnown i → w.IsKnown x → w.IsKnown y → IsSame w i x → IsSame w y i → P x a →
      Q y c → IsDecided a → IsDecided c → (IsKind : Outcome V → Type 0) → OnOutcome IsKind P (B i e) i → OnOutcome IsKind Q (C i e) i
  blame_transferred i x y a c e ki kx ky r s f q d z IsKind b =
      let moved = transferred i x y b.outcome a c ki kx ky r s b.answered f q d z in
      record {
        outcome = b.outcome;
        answered = moved.0;
        kind_is = b.kind_is;
        fact = t.blames i b.outcome e ki b.answered moved.0 moved.1 b.fact;
      }
