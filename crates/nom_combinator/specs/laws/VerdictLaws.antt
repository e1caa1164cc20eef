-- The laws of what becomes of a part's outcome.
use Rattle.std.specs.Prelude.{◌≡◌, ℕ, Bool, true, false, Option, Some, None, ◌⊎◌, refl}
use Rattle.std.proofs.Common.{sym, ◌∙◌, ap, subst, inl, inr}
use Rattle.nom_internal.specs.Prelude.{Slice, first_place, first_related, same_length, InputLaws, Related, Model, IsBoundary, View, option_view, view_some}
use Rattle.nom_internal.specs.Prelude.{Outcome, Cause, Accept, Refuse, Stop, Fails, Outright, TooLarge, IsDecided, IsFault, IsFailure, Meaning, IsLawful}
use Rattle.nom_internal.specs.Prelude.{IsSteady, IsPinned, Needs}
use Rattle.nom_internal.specs.laws.CaseLaws.{CaseLaws, here_known, here_related, here_consistent, here_place, no_place, case_lawful, case_steady}
use Rattle.nom_internal.specs.laws.RecognizedLaws.{AcceptLaws, plain_laws}
use Rattle.nom_combinator.specs.Verdicts.{complete_outcome, IsWant, complete_case, complete_meaning, WithSlice, consumed_meaning, verdict_case}
use Rattle.nom_combinator.specs.Verdicts.{cut_outcome, NeverCut, cut_meaning, opt_outcome, opt_meaning, OptOutput, Looks, peek_meaning, not_outcome}
use Rattle.nom_combinator.specs.Verdicts.{IsAcceptance, EitherBlames, not_case, not_meaning}

-- an acceptance of nothing, or of what the part accepts
abbrev AcceptsOrNone : {P : Type 0} → ℕ → Outcome P → Type 0
AcceptsOrNone {P} n a = (n ≡ 0) ⊎ ((u : P) × (a ≡ Accept n u))

-- what becomes of an outcome: it is decided as the part is, accepts no more, and fails as the part fails, where that is said
record IsVerdictCase {P T : Type 0} (becomes : Outcome P → Outcome T) (Never : (Cause → Type 0) → Cause → Type 0) : Type 1 where
  keeps : (a : Outcome P) → IsDecided (becomes a) → IsDecided a
  accepts : (a : Outcome P) (n : ℕ) (t : T) → Accept n t ≡ becomes a → AcceptsOrNone n a
  never : (Part : Cause → Type 0) (cause : Cause) (a : Outcome P) → Never Part cause → Stop (Fails cause) ≡ becomes a → Part cause × (a ≡ Stop (Fails cause))

module _ {I A P : Type 0} (w : Model I A) where
  accepted_place : (i j : I) (a : Outcome P) (n : ℕ) → i ≡ j → ((m : ℕ) (u : P) → a ≡ Accept m u → IsBoundary w j m) → AcceptsOrNone n a → IsBoundary w i n
  accepted_place i j a n e place (inl z) = subst (λ k. IsBoundary w i k) (sym z) (no_place w i)
  accepted_place i j a n e place (inr k) = here_place w i j n e (place n k.0 k.1)

module _ {I A P T : Type 0} (w : Model I A) (becomes : Outcome P → Outcome T) (Never : (Cause → Type 0) → Cause → Type 0)
    (is : IsVerdictCase becomes Never) where
  verdict_keeps : (a : Outcome P) (o : Outcome T) → o ≡ becomes a → IsDecided o → IsDecided a
  verdict_keeps a o e d = is.keeps a (subst (λ z. IsDecided z) e d)

  verdict_laws : {E : Type 0} (errors : Bool → Bool) → CaseLaws {E = E} true w w (verdict_case becomes errors Never)
  verdict_laws errors = record {
    at_known = here_known w;
    at_related = λ longer stays. here_related w longer;
    at_consistent = here_consistent w;
    keeps = λ only i a o. verdict_keeps a o;
    same = λ longer stays x y a o p kx ky r s k t. s ∙ sym t;
    consistent = λ x y a o kx ky r b. b;
    place = λ i j a n t h e place b. accepted_place w i j a n e place (is.accepts a n t b);
    never_fails = λ Part cause i a g e. is.never Part cause a g e;
    blames = λ i a X Y e f. f e;
    part_frugal = λ Part mode h. h;
    asks_none = λ Part mode i a h g. g;
  }

module _ {P : Type 0} where
  cut_is : IsVerdictCase {P = P} cut_outcome NeverCut
  cut_is = record { keeps = keeps; accepts = accepts; never = never }
    where
      keeps : (a : Outcome P) → IsDecided (cut_outcome a) → IsDecided a
      keeps (Accept n v) d = tt
      keeps Refuse d = tt
      keeps (Stop why) d = d

      accepts : (a : Outcome P) (n : ℕ) (t : P) → Accept n t ≡ cut_outcome a → AcceptsOrNone n a
      accepts (Accept m u) n t e = inr (t, sym e)
      accepts Refuse n t e = cc
      accepts (Stop why) n t e = cc

      large : (a : Outcome P) → Stop (Fails TooLarge) ≡ cut_outcome a → a ≡ Stop (Fails TooLarge)
      large (Accept m u) e = cc
      large Refuse e = cc
      large (Stop why) e = cc (e)

      never : (Part : Cause → Type 0) (cause : Cause) (a : Outcome P) → NeverCut Part cause → Stop (Fails cause) ≡ cut_outcome a → Part cause ×
          (a ≡ Stop (Fails cause))
      never Part TooLarge a g e = (g, large a e)
      never Part Outright a g e = absurd g

module _ {P : Type 0} where
  opt_is : IsVerdictCase {P = P} opt_outcome (λ Part. Part)
  opt_is = record { keeps = keeps; accepts = accepts; never = λ Part cause a g e. (g, fails cause a e) }
    where
      keeps : (a : Outcome P) → IsDecided (opt_outcome a) → IsDecided a
      keeps (Accept n v) d = tt
      keeps Refuse d = tt
      keeps (Stop why) d = d

      accepts : (a : Outcome P) (n : ℕ) (t : Option P) → Accept n t ≡ opt_outcome a → AcceptsOrNone n a
      accepts (Accept m u) n t e = let same : n ≡ m = cc in inr (u, ap (λ z. Accept z u) (sym same))
      accepts Refuse n t e = inl (cc)
      accepts (Stop why) n t e = cc

      fails : (cause : Cause) (a : Outcome P) → Stop (Fails cause) ≡ opt_outcome a → a ≡ Stop (Fails cause)
      fails cause (Accept m u) e = cc
      fails cause Refuse e = cc
      fails cause (Stop why) e = cc (e)

  not_is : IsVerdictCase {P = P} not_outcome (λ Part. Part)
  not_is = record { keeps = keeps; accepts = accepts; never = λ Part cause a g e. (g, fails cause a e) }
    where
      keeps : (a : Outcome P) → IsDecided (not_outcome a) → IsDecided a
      keeps (Accept n v) d = tt
      keeps Refuse d = tt
      keeps (Stop why) d = d

      accepts : (a : Outcome P) (n : ℕ) (t : Unit {0}) → Accept n t ≡ not_outcome a → AcceptsOrNone n a
      accepts (Accept m u) n t e = cc
      accepts Refuse n t e = inl (cc)
      accepts (Stop why) n t e = cc

      fails : (cause : Cause) (a : Outcome P) → Stop (Fails cause) ≡ not_outcome a → a ≡ Stop (Fails cause)
      fails cause (Accept m u) e = cc
      fails cause Refuse e = cc
      fails cause (Stop why) e = cc (e)

-- the part's errors stand for themselves
blames_more : {P E : Type 0} (HasOwn HasParts : Outcome P → Type 0) (Own : E → Type 0) (a : Outcome P) (X Y : E → Type 0) (e : E) →
    ((f : E) → X f → Y f) → EitherBlames HasOwn HasParts Own a X e → EitherBlames HasOwn HasParts Own a Y e
blames_more HasOwn HasParts Own a X Y e f (inl h) = inl h
blames_more HasOwn HasParts Own a X Y e f (inr h) = inr (h.0, f e h.1)

module _ {I A P : Type 0} (w : Model I A) where
  looks_laws : AcceptLaws {P = P} w (λ i. Looks)
  looks_laws = record {
    same = λ longer x y n u o p kx ky r s k t. s ∙ sym t;
    consistent = λ x y n u o kx ky r s. s;
    place = λ i m n u t h p s. let none : n ≡ 0 = cc in subst (λ k. IsBoundary w i k) (sym none) (no_place w i);
    never_fails = never;
  }
    where
      never : (cause : Cause) (i : I) (n : ℕ) (u : P) → Looks n u (Stop (Fails cause)) → ⊥
      never cause i n u e = cc

  module _ {E : Type 0} where
    not_laws : (Own : I → E → Type 0) (Grows : Type 0) → CaseLaws true w w (not_case {P = P} Own Grows)
    not_laws Own Grows = record {
      at_known = here_known w;
      at_related = λ longer stays. here_related w longer;
      at_consistent = here_consistent w;
      keeps = λ only i a o. verdict_keeps w not_outcome (λ Part. Part) not_is a o;
      same = λ longer stays x y a o p kx ky r s k t. s ∙ sym t;
      consistent = λ x y a o kx ky r b. b;
      place = λ i j a n t h e place b. accepted_place w i j a n e place (not_is.accepts a n t b);
      never_fails = λ Part cause i a g e. not_is.never Part cause a g e;
      blames = λ i. blames_more IsAcceptance IsFailure (Own i);
      part_frugal = λ Part mode h. h.0;
      asks_none = λ Part mode i a h g. h.1 g.1 g.2;
    }

module _ {I A P : Type 0} (w : Model I A) where
  complete_accepts : (a : Outcome P) (n : ℕ) (t : P) → Accept n t ≡ complete_outcome a → AcceptsOrNone n a
  complete_accepts (Accept m u) n t e = inr (t, sym e)
  complete_accepts Refuse n t e = cc
  complete_accepts (Stop (Fails cause)) n t e = cc
  complete_accepts (Stop (Needs k)) n t e = cc

  complete_fails : (cause : Cause) (a : Outcome P) → Stop (Fails cause) ≡ complete_outcome a → a ≡ Stop (Fails cause)
  complete_fails cause (Accept m u) e = cc
  complete_fails cause Refuse e = cc
  complete_fails cause (Stop (Fails own)) e = cc (e)
  complete_fails cause (Stop (Needs k)) e = cc

  module _ {E : Type 0} where
    complete_laws : (Own : I → E → Type 0) (Grows : Type 0) → CaseLaws true w w (complete_case {P = P} Own Grows)
    complete_laws Own Grows = record {
      at_known = here_known w;
      at_related = λ longer stays. here_related w longer;
      at_consistent = here_consistent w;
      keeps = λ only i a o b d. absurd (cc (only));
      same = λ longer stays x y a o p kx ky r s k t. s ∙ sym t;
      consistent = λ x y a o kx ky r b. b;
      place = λ i j a n t h e place b. accepted_place w i j a n e place (complete_accepts a n t b);
      never_fails = λ Part cause i a g e. (g, complete_fails cause a e);
      blames = λ i. blames_more IsWant IsFault (Own i);
      part_frugal = λ Part mode h. h.0;
      asks_none = λ Part mode i a h g. h.1 g.1 g.2;
    }

module _ {I A P : Type 0} (w : Model I A) (l : InputLaws w) where
  kept_same : (longer : Bool) (x y : I) (n : ℕ) (u : P) (o p : Outcome (Slice w × P)) → Related w longer x y → WithSlice w x n u o → WithSlice w y n u p → o ≡ p
  kept_same longer x y n u o p r s t =
      let same = same_length w l y n n s.0 t.0 (first_related w longer x y n s.0 r s.1) t.1 refl in
      s.2 ∙ (ap (λ z. Accept n (z, u)) same ∙ sym t.2)

  kept_place : (i : I) (n m : ℕ) (u : P) (t : Slice w × P) → WithSlice w i n u (Accept m t) → IsBoundary w i m
  kept_place i n m u t s = let same : n ≡ m = cc (s.2) in subst (λ z. IsBoundary w i z) same (first_place w i n s.0 s.1)

  never_kept : (cause : Cause) (i : I) (n : ℕ) (u : P) → WithSlice w i n u (Stop (Fails cause)) → ⊥
  never_kept cause i n u s = absurd (cc (s.2))

  kept_laws : AcceptLaws w (λ i. WithSlice {P = P} w i)
  kept_laws = record {
    same = λ longer x y n u o p kx ky r s k t. kept_same longer x y n u o p r s t;
    consistent = λ x y n u o kx ky r s. (s.0, first_related w false x y n s.0 r s.1, s.2);
    place = λ i m n u t h p s. kept_place i m n u t s;
    never_fails = never_kept;
  }

-- options are pinned as what they hold
module _ {V O : Type 0} {view : View O} {F : V → O → Type 0} (f : IsPinned view F) where
  one_option : (t : Option V) (a b : Option O) → OptOutput F t a → OptOutput F t b → view_some view a ≡ view_some view b
  one_option (Some t) a b p q = ap (view_some view) p.1 ∙ (ap Some (f.one_view t p.0 q.0 p.2 q.2) ∙ sym (ap (view_some view) q.1))
  one_option None a b p q = ap (view_some view) (p ∙ sym q)

  pub opt_pinned : IsPinned (option_view view) (OptOutput F)
  opt_pinned = record { one_view = one_option }

module _ {I A P E : Type 0} {w : Model I A} {m : Meaning I P E} where
  pub cut_lawful : IsLawful w m → IsLawful w (cut_meaning m)
  cut_lawful l = case_lawful (verdict_laws w cut_outcome NeverCut cut_is (λ _. true)) l

  pub cut_steady : IsSteady w m → IsSteady w (cut_meaning m)
  cut_steady l = case_steady (verdict_laws w cut_outcome NeverCut cut_is (λ _. true)) refl l

  pub opt_lawful : IsLawful w m → IsLawful w (opt_meaning m)
  opt_lawful l = case_lawful (verdict_laws w opt_outcome (λ Part. Part) opt_is (λ _. false)) l

  pub opt_steady : IsSteady w m → IsSteady w (opt_meaning m)
  opt_steady l = case_steady (verdict_laws w opt_outcome (λ Part. Part) opt_is (λ _. false)) refl l

  pub peek_lawful : IsLawful w m → IsLawful w (peek_meaning m)
  peek_lawful l = case_lawful (plain_laws w (λ i. Looks) (looks_laws w) (λ b. b)) l

  pub peek_steady : IsSteady w m → IsSteady w (peek_meaning m)
  peek_steady l = case_steady (plain_laws w (λ i. Looks) (looks_laws w) (λ b. b)) refl l

  pub not_lawful : {Own : I → E → Type 0} {Grows : Type 0} → IsLawful w m → IsLawful w (not_meaning Own Grows m)
  not_lawful {Own} {Grows} l = case_lawful (not_laws w Own Grows) l

  pub not_steady : {Own : I → E → Type 0} {Grows : Type 0} → IsSteady w m → IsSteady w (not_meaning Own Grows m)
  not_steady {Own} {Grows} l = case_steady (not_laws w Own Grows) refl l

  pub complete_lawful : {Own : I → E → Type 0} {Grows : Type 0} → IsLawful w m → IsLawful w (complete_meaning Own Grows m)
  complete_lawful {Own} {Grows} l = case_lawful (complete_laws w Own Grows) l

  pub consumed_lawful : InputLaws w → IsLawful w m → IsLawful w (consumed_meaning w m)
  consumed_lawful k l = case_lawful (plain_laws w (λ i. WithSlice w i) (kept_laws w k) (λ b. b)) l

  pub consumed_steady : InputLaws w → IsSteady w m → IsSteady w (consumed_meaning w m)
  consumed_steady k l = case_steady (plain_laws w (λ i. WithSlice w i) (kept_laws w k) (λ b. b)) refl l
