-- The laws of cases in which all but an acceptance passes, and of slices that a part consumes.
use Rattle.std.specs.Prelude.{◌≡◌, ℕ, Bool, true, false, refl}
use Rattle.std.proofs.Common.{sym, ◌∙◌, ap, subst}
use Rattle.nom_internal.specs.Prelude.{Model, InputLaws, IsBoundary, IsSame, Related, Slice, IsFirst, first_place, first_related, same_length, Outcome, Cause}
use Rattle.nom_internal.specs.Prelude.{Accept, Refuse, Stop, Fails, IsDecided, Meaning, IsLawful, IsSteady, Keeps, Passes}
use Rattle.nom_internal.specs.Prelude.{plain_case, IsSliced, recognized_meaning}
use Rattle.nom_internal.specs.laws.CaseLaws.{CaseLaws, here_known, here_related, here_consistent, here_place, case_lawful, case_steady}

-- what cases on an acceptance alone must keep
pub record AcceptLaws {I A P T : Type 0} (w : Model I A) (OnAccept : I → ℕ → P → Outcome T → Type 0) : Type 0 where
  pub same : (longer : Bool) (x y : I) (n : ℕ) (u : P) (o p : Outcome T) → w.IsKnown x → w.IsKnown y → Related w longer x y → OnAccept x n u o →
      Keeps longer o → OnAccept y n u p → o ≡ p
  pub consistent : (x y : I) (n : ℕ) (u : P) (o : Outcome T) → w.IsKnown x → w.IsKnown y → IsSame w x y → OnAccept x n u o → OnAccept y n u o
  pub place : (i : I) (m n : ℕ) (u : P) (t : T) → w.IsKnown i → IsBoundary w i m → OnAccept i m u (Accept n t) → IsBoundary w i n
  pub never_fails : (cause : Cause) (i : I) (n : ℕ) (u : P) → OnAccept i n u (Stop (Fails cause)) → ⊥

module _ {I A P T : Type 0} (w : Model I A) (OnAccept : I → ℕ → P → Outcome T → Type 0) (l : AcceptLaws w OnAccept) where
  passes_keeps : (i : I) (a : Outcome P) (o : Outcome T) → Passes (OnAccept i) a o → IsDecided o → IsDecided a
  passes_keeps i (Accept n v) o e k = tt
  passes_keeps i Refuse o e k = tt
  passes_keeps i (Stop why) o e k = subst (λ z. IsDecided z) e k

  passes_same : (longer : Bool) (x y : I) (a : Outcome P) (o p : Outcome T) → w.IsKnown x → w.IsKnown y → Related w longer x y →
      Passes (OnAccept x) a o → Keeps longer o → Passes (OnAccept y) a p → o ≡ p
  passes_same longer x y (Accept n u) o p kx ky r s k t = l.same longer x y n u o p kx ky r s k t
  passes_same longer x y Refuse o p kx ky r s k t = s ∙ sym t
  passes_same longer x y (Stop why) o p kx ky r s k t = s ∙ sym t

  passes_consistent : (x y : I) (a : Outcome P) (o : Outcome T) → w.IsKnown x → w.IsKnown y → IsSame w x y → Passes (OnAccept x) a o → Passes (OnAccept y) a o
  passes_consistent x y (Accept n u) o kx ky r s = l.consistent x y n u o kx ky r s
  passes_consistent x y Refuse o kx ky r s = s
  passes_consistent x y (Stop why) o kx ky r s = s

  passes_place : (i j : I) (a : Outcome P) (n : ℕ) (t : T) → w.IsKnown i → i ≡ j → ((m : ℕ) (u : P) → a ≡ Accept m u → IsBoundary w j m) →
      Passes (OnAccept i) a (Accept n t) → IsBoundary w i n
  passes_place i j (Accept m u) n t h e place s = l.place i m n u t h (here_place w i j m e (place m u refl)) s
  passes_place i j Refuse n t h e place s = absurd (cc (s))
  passes_place i j (Stop why) n t h e place s = absurd (cc (s))

  passes_fails : (cause : Cause) (i : I) (a : Outcome P) → Passes (OnAccept i) a (Stop (Fails cause)) → a ≡ Stop (Fails cause)
  passes_fails cause i (Accept n u) s = absurd (l.never_fails cause i n u s)
  passes_fails cause i Refuse s = absurd (cc (s))
  passes_fails cause i (Stop why) s = cc (s)

  pub plain_laws : {E : Type 0} (outputs : Bool → Bool) → CaseLaws {E = E} true w w (plain_case outputs (λ i. Passes (OnAccept i)))
  plain_laws outputs = record {
    at_known = here_known w;
    at_related = λ longer stays. here_related w longer;
    at_consistent = here_consistent w;
    keeps = λ only. passes_keeps;
    same = λ longer stays. passes_same longer;
    consistent = passes_consistent;
    place = passes_place;
    never_fails = λ Part cause i a g e. (g, passes_fails cause i a e);
    blames = λ i a X Y e f. f e;
    part_frugal = λ Part mode h. h;
    asks_none = λ Part mode i a h g. g;
  }

-- slices
module _ {I A : Type 0} (w : Model I A) where
  sliced : InputLaws w → (longer : Bool) (x y : I) (n : ℕ) (o p : Outcome (Slice w)) → Related w longer x y → IsSliced w x n o → IsSliced w y n p → o ≡ p
  sliced l longer x y n o p r s t =
      let same = same_length w l y n n s.0 t.0 (first_related w longer x y n s.0 r s.1) t.1 refl in
      s.2 ∙ (ap (λ z. Accept n z) same ∙ sym t.2)

  sliced_place : (i : I) (n m : ℕ) (t u : Slice w) → IsFirst w i n t → Accept m u ≡ Accept n t → IsBoundary w i m
  sliced_place i n m t u f e = let same : n ≡ m = cc (e) in subst (λ z. IsBoundary w i z) same (first_place w i n t f)

  never_sliced : (cause : Cause) (i : I) (n : ℕ) → IsSliced w i n (Stop (Fails cause)) → ⊥
  never_sliced cause i n s = absurd (cc (s.2))

module _ {I A V : Type 0} (w : Model I A) (l : InputLaws w) where
  pub sliced_laws : AcceptLaws w (λ i n (u : V). IsSliced w i n)
  sliced_laws = record {
    same = λ longer x y n u o p kx ky r s k t. sliced w l longer x y n o p r s t;
    consistent = λ x y n u o kx ky r s. (s.0, first_related w false x y n s.0 r s.1, s.2);
    place = λ i m n u t h p s. sliced_place w i m n s.0 t s.1 s.2;
    never_fails = λ cause i n u s. never_sliced w cause i n s;
  }

module _ {I A V E : Type 0} {w : Model I A} (l : InputLaws w) {m : Meaning I V E} where
  pub recognized_lawful : IsLawful w m → IsLawful w (recognized_meaning w m)
  recognized_lawful p = case_lawful (plain_laws w (λ i n (u : V). IsSliced w i n) (sliced_laws w l) (λ _. false)) p

  pub recognized_steady : IsSteady w m → IsSteady w (recognized_meaning w m)
  recognized_steady p = case_steady (plain_laws w (λ i n (u : V). IsSliced w i n) (sliced_laws w l) (λ _. false)) refl p
