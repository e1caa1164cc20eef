-- The laws of what may be stuck.
use Rattle.std.specs.Prelude.{◌≡◌, ◌⊎◌, ℕ, true, refl}
use Rattle.std.proofs.Common.{sym, ◌∙◌, subst, inl, inr}
use Rattle.nom.specs.Prelude.{Errors, Model, InputLaws, IsBoundary, Outcome, Cause, Accept, Refuse, Stop, Fails, Meaning, IsLawful}
use Rattle.nom.specs.Prelude.{IsSteady, IsLawfulFamily, AnyKey, success_lawful, success_meaning, success_steady}
use Rattle.nom.specs.CaseLaws.{CaseLaws, case_lawful, case_steady}
use Rattle.nom.specs.RecognizedLaws.{AcceptLaws, plain_laws}
use Rattle.nom.specs.SequenceLaws.{sequence_lawful, sequence_steady, then_lawful, then_steady}
use Rattle.nom_precedence.specs.Stuck.{read_after, unless_stuck, read_both, read_next, freed, IfStuck, freed_case, freed_meaning}
use Rattle.nom_precedence.specs.declared.read.Read.{Read}
use Rattle.nom_precedence.specs.declared.read.Read.TheVariants.{Whole, Stuck}

-- of what is read kept_after a tree the fact holds
kept_after : {I V W E : Type 0} (Fact : Meaning I (Read W) E → Type 0) (m : Meaning I (Read W) E) → Fact m → Fact (success_meaning Stuck) → (u : Read V) →
    Fact (read_after m u)
kept_after Fact m p q (Whole v) = p
kept_after Fact m p q Stuck = q

unless_lawful : {I A V W E : Type 0} {w : Model I A} (m : Meaning I (Read W) E) → IsLawful w m → IsLawfulFamily {K = Read V} w AnyKey (unless_stuck m)
unless_lawful {w = w} m p = record {
  lawful = λ u _. kept_after (IsLawful w) m p success_lawful u;
  frugal = λ mode h u _. kept_after (λ z. z.IsFrugal mode) m h (λ _ x. x) u;
  settles = λ h u _. kept_after (λ z. z.Settles) m h tt u;
  never_fails = λ cause h u _. kept_after (λ z. z.NeverFails cause) m h tt u;
}

module _ {I A V W T E : Type 0} {w : Model I A} (l : InputLaws w) {tree : V → W → T} {a : Meaning I (Read V) E} {b : Meaning I (Read W) E} where
  pub both_lawful : IsLawful w a → IsLawful w b → IsLawful w (read_both w tree a b)
  both_lawful p q = then_lawful l (unless_stuck b) p (unless_lawful b q)

  pub both_steady : IsSteady w a → IsSteady w b → IsSteady w (read_both w tree a b)
  both_steady p q = then_steady l (unless_stuck b) p (kept_after (IsSteady w) b q success_steady)

module _ {I A V W T E : Type 0} {w : Model I A} (l : InputLaws w) {tree : V → W → T} {a : Meaning I V E} {b : Meaning I (Read W) E} where
  pub next_lawful : IsLawful w a → IsLawful w b → IsLawful w (read_next w tree a b)
  next_lawful p q = sequence_lawful l p q

  pub next_steady : IsSteady w a → IsSteady w b → IsSteady w (read_next w tree a b)
  next_steady p q = sequence_steady l p q

freed_accepts : {V : Type 0} (n m : ℕ) (t : V) (u : Read V) → Accept n t ≡ freed m u → m ≡ n
freed_accepts n m t (Whole v) e = cc
freed_accepts n m t Stuck e = cc

never_freed : {V : Type 0} (cause : Cause) (m : ℕ) (u : Read V) → Stop (Fails cause) ≡ freed m u → ⊥
never_freed cause m (Whole v) e = cc
never_freed cause m Stuck e = cc

module _ {I A V E : Type 0} (w : Model I A) (errs : Errors I E) where
  freed_accept_laws : AcceptLaws w (λ i n (u : Read V) o. o ≡ freed n u)
  freed_accept_laws = record {
    same = λ longer x y n u o p kx ky r s k t. s ∙ sym t;
    consistent = λ x y n u o kx ky r s. s;
    place = λ i m n u t h p s. subst (λ k. IsBoundary w i k) (freed_accepts n m t u s) p;
    never_fails = λ cause i n u s. never_freed cause n u s;
  }

-- of one of two facts another follows
pub either_more : {A B C : Type 0} → (B → C) → A ⊎ B → A ⊎ C
either_more f (inl a) = inl a
either_more f (inr b) = inr (f b)

if_stuck_none : {V : Type 0} (Fact : Type 0) (a : Outcome (Read V)) → (Fact → ⊥) → IfStuck (λ _. Fact) a → ⊥
if_stuck_none Fact (Accept n (Whole v)) f h = h
if_stuck_none Fact (Accept n Stuck) f h = f h
if_stuck_none Fact Refuse f h = h
if_stuck_none Fact (Stop why) f h = h

module _ {I A V E : Type 0} (w : Model I A) (errs : Errors I E) where
  freed_laws : CaseLaws true w w (freed_case {V = V} w errs)
  freed_laws =
      let l = plain_laws w (λ i n (u : Read V) o. o ≡ freed n u) (freed_accept_laws w errs) {E = E} (λ b. b) in
      record {
        at_known = l.at_known;
        at_related = l.at_related;
        at_consistent = l.at_consistent;
        keeps = l.keeps;
        same = l.same;
        consistent = l.consistent;
        place = l.place;
        never_fails = l.never_fails;
        blames = λ i a X Y e f. either_more (λ h. (h.0, f e h.1));
        part_frugal = λ Part mode h. h.0;
        asks_none = λ Part mode i a h g. if_stuck_none ((mode.errors ≡ true) × errs.grows) a (λ z. h.1 z.0 z.1) g;
      }

module _ {I A V E : Type 0} {w : Model I A} (errs : Errors I E) {m : Meaning I (Read V) E} where
  pub freed_lawful : IsLawful w m → IsLawful w (freed_meaning w errs m)
  freed_lawful p = case_lawful (freed_laws w errs) p

  pub freed_steady : IsSteady w m → IsSteady w (freed_meaning w errs m)
  freed_steady p = case_steady (freed_laws w errs) refl p
