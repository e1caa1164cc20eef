-- The laws of operators with levels.
use Rattle.std.specs.Prelude.{◌≡◌, ℕ, Bool, true, false, ltb, refl}
use Rattle.std.proofs.Common.{sym, ◌∙◌, ap, subst}
use Rattle.nom.specs.Prelude.{Errors, Model, IsBoundary, Outcome, Cause, Accept, Refuse, Stop, Fails, Outright, TooLarge, IsDecided}
use Rattle.nom.specs.Prelude.{Meaning, IsLawful, IsSteady, OfValue, IsOne, Passes}
use Rattle.nom.specs.CaseLaws.{CaseLaws, here_known, here_related, here_consistent, here_place, case_lawful, case_steady}
use Rattle.nom_precedence.specs.Operators.{if_level, IfNoLevel, operator_case, operator_meaning}
use Rattle.nom_precedence.specs.laws.StuckLaws.{either_more}

level_accepts : {P : Type 0} (b : Bool) (n m k : ℕ) (t : ℕ × P) (u : P) → Accept n t ≡ if_level b m k u → m ≡ n
level_accepts true n m k t u e = cc
level_accepts false n m k t u e = cc

level_fails : {P : Type 0} (b : Bool) (m k : ℕ) (u : P) → Stop (Fails TooLarge) ≡ if_level b m k u → ⊥
level_fails true m k u e = cc
level_fails false m k u e = cc

module _ {P : Type 0} (IsLevel : P → ℕ → Type 0) (levels : ℕ) where
  -- what a part's outcome becomes
  abbrev Becomes : Outcome P → Outcome (ℕ × P) → Type 0
  Becomes = Passes (λ n u o. OfValue (IsLevel u) (λ k. o ≡ if_level (ltb k levels) n k u))

  keeps : (a : Outcome P) (o : Outcome (ℕ × P)) → Becomes a o → IsDecided o → IsDecided a
  keeps (Accept n u) o b d = tt
  keeps Refuse o b d = tt
  keeps (Stop why) o b d = subst (λ z. IsDecided z) b d

  same : IsOne IsLevel → (a : Outcome P) (o p : Outcome (ℕ × P)) → Becomes a o → Becomes a p → o ≡ p
  same one (Accept n u) o p s t = s.fact ∙ (ap (λ k. if_level (ltb k levels) n k u) (one u s.value t.value s.is_value t.is_value) ∙ sym t.fact)
  same one Refuse o p s t = s ∙ sym t
  same one (Stop why) o p s t = s ∙ sym t

  place : {I A : Type 0} (w : Model I A) (i j : I) (a : Outcome P) (n : ℕ) (t : ℕ × P) → i ≡ j → ((m : ℕ) (u : P) → a ≡ Accept m u → IsBoundary w j m) →
      Becomes a (Accept n t) → IsBoundary w i n
  place w i j (Accept m u) n t e f b = subst (λ z. IsBoundary w i z) (level_accepts (ltb b.value levels) n m b.value t u b.fact)
      (here_place w i j m e (f m u refl))
  place w i j Refuse n t e f b = absurd (cc (b))
  place w i j (Stop why) n t e f b = absurd (cc (b))

  fails : (cause : Cause) (a : Outcome P) → cause ≡ TooLarge → Becomes a (Stop (Fails cause)) → a ≡ Stop (Fails cause)
  fails TooLarge (Accept n u) e b = absurd (level_fails (ltb b.value levels) n b.value u b.fact)
  fails TooLarge Refuse e b = absurd (cc (b))
  fails TooLarge (Stop why) e b = cc (b)
  fails Outright a e b = absurd (cc)

  asks_none : (Grows : Type 0) (a : Outcome P) → (Grows → ⊥) → IfNoLevel IsLevel levels Grows a → ⊥
  asks_none Grows (Accept n u) f h = f (h.fact).1
  asks_none Grows Refuse f h = h
  asks_none Grows (Stop why) f h = h

module _ {I A P E : Type 0} (w : Model I A) (errs : Errors I E) (IsLevel : P → ℕ → Type 0) (levels : ℕ) (one : IsOne IsLevel) where
  operator_laws : CaseLaws true w w (operator_case errs IsLevel levels)
  operator_laws = record {
    at_known = here_known w;
    at_related = λ longer stays. here_related w longer;
    at_consistent = here_consistent w;
    keeps = λ only i. keeps IsLevel levels;
    same = λ longer stays x y a o p kx ky r s k t. same IsLevel levels one a o p s t;
    consistent = λ x y a o kx ky r b. b;
    place = λ i j a n t h e f b. place IsLevel levels w i j a n t e f b;
    never_fails = λ Part cause i a g e. (g.0, fails IsLevel levels cause a g.1 e);
    blames = λ i a X Y e f. either_more (λ h. (h.0, f e h.1));
    part_frugal = λ Part mode h. h.0;
    asks_none = λ Part mode i a h g. asks_none IsLevel levels errs.grows a h.1 g;
  }

module _ {I A P E : Type 0} {w : Model I A} (errs : Errors I E) {IsLevel : P → ℕ → Type 0} (levels : ℕ) (one : IsOne IsLevel) {m : Meaning I P E} where
  pub operator_lawful : IsLawful w m → IsLawful w (operator_meaning errs IsLevel levels m)
  operator_lawful p = case_lawful (operator_laws w errs IsLevel levels one) p

  pub operator_steady : IsSteady w m → IsSteady w (operator_meaning errs IsLevel levels m)
  operator_steady p = case_steady (operator_laws w errs IsLevel levels one) refl p
