-- The laws of parts whose acceptances closures judge.
use Rattle.std.specs.Prelude.{◌≡◌, ℕ, Bool, true, false, refl}
use Rattle.std.proofs.Common.{sym, ◌∙◌, ap, subst}
use Rattle.nom_internal.specs.Prelude.{Model, IsBoundary, Outcome, Accept, Refuse, Stop, Fails, Needs, Meaning, IsLawful, IsSteady, GivesFor, IsJudge, kept_if}
use Rattle.nom_internal.specs.Prelude.{Judged, OnUnfit, JudgedBlames, judged_case, judged_meaning, Cause}
use Rattle.nom_internal.specs.laws.CaseLaws.{CaseLaws, case_lawful, case_steady}
use Rattle.nom_internal.specs.laws.RecognizedLaws.{AcceptLaws, plain_laws}

kept_accepts : {V : Type 0} (b : Bool) (n m : ℕ) (t u : V) → Accept n t ≡ kept_if b (Accept m u) → m ≡ n
kept_accepts true n m t u e = cc
kept_accepts false n m t u e = cc

never_kept : {V : Type 0} (cause : Cause) (b : Bool) (m : ℕ) (u : V) → Stop (Fails cause) ≡ kept_if b (Accept m u) → ⊥
never_kept cause true m u e = cc
never_kept cause false m u e = cc

module _ {V R : Type 0} (Says : V → R → Type 0) (fits : R → Bool) where
  -- what is judged alike becomes one outcome
  judged_accepts : {I A : Type 0} (w : Model I A) → ((t : V) (r x : R) → Says t r → Says t x → fits r ≡ fits x) → AcceptLaws w (λ i. Judged Says fits)
  judged_accepts w one = record {
    same = λ longer x y n u o p kx ky r s k t. s.2 ∙ (ap (λ b. kept_if b (Accept n u)) (one u s.0 t.0 s.1 t.1) ∙ sym t.2);
    consistent = λ x y n u o kx ky r s. s;
    place = λ i m n u t h p s. subst (λ k. IsBoundary w i k) (kept_accepts (fits s.0) n m t u s.2) p;
    never_fails = λ cause i n u s. never_kept cause (fits s.0) n u s.2;
  }

  blames_more : {E : Type 0} (Makes : R → E → Type 0) (a : Outcome V) (X Y : E → Type 0) (e : E) → ((f : E) → X f → Y f) →
      JudgedBlames Says fits Makes a X e → JudgedBlames Says fits Makes a Y e
  blames_more Makes (Accept n t) X Y e f h = h
  blames_more Makes Refuse X Y e f h = f e h
  blames_more Makes (Stop (Fails cause)) X Y e f h = f e h
  blames_more Makes (Stop (Needs k)) X Y e f h = h

  unfit_only : (Fact : Type 0) (a : Outcome V) → (Fact → ⊥) → OnUnfit Says fits (λ _. Fact) a → ⊥
  unfit_only Fact (Accept n t) f h = f h.3
  unfit_only Fact Refuse f h = h
  unfit_only Fact (Stop why) f h = h

module _ {I A V P R E : Type 0} {w : Model I A} {IsOutput : V → P → Type 0} {Takes : P → Type 0} {Gives : P → R → Type 0} {fits : R → Bool}
    {Makes : I → R → E → Type 0} {Grows : Type 0} where
  judged_laws : IsJudge IsOutput Gives fits → CaseLaws true w w (judged_case IsOutput Takes Gives fits Makes Grows)
  judged_laws j =
      let one : (t : V) (r x : R) → GivesFor IsOutput Gives t r → GivesFor IsOutput Gives t x → fits r ≡ fits x =
      λ t r x g h. j.fixed t g.output h.output r x g.is_output h.is_output g.given h.given in
      let l = plain_laws w (λ i. Judged (GivesFor IsOutput Gives) fits) (judged_accepts (GivesFor IsOutput Gives) fits w one) {E = E} (λ _. true) in
      record {
        at_known = l.at_known;
        at_related = l.at_related;
        at_consistent = l.at_consistent;
        keeps = l.keeps;
        same = l.same;
        consistent = l.consistent;
        place = l.place;
        never_fails = l.never_fails;
        blames = λ i a X Y e f. blames_more (GivesFor IsOutput Gives) fits (Makes i) a X Y e f;
        part_frugal = λ Part mode h. h.0;
        asks_none = λ Part mode i a h g. unfit_only (GivesFor IsOutput Gives) fits ((mode.errors ≡ true) × Grows) a (λ z. h.1 z.0 z.1) g;
      }

  module _ {m : Meaning I V E} (j : IsJudge IsOutput Gives fits) where
    pub judged_lawful : IsLawful w m → IsLawful w (judged_meaning IsOutput Takes Gives fits Makes Grows m)
    judged_lawful l = case_lawful (judged_laws j) l

    pub judged_steady : IsSteady w m → IsSteady w (judged_meaning IsOutput Takes Gives fits Makes Grows m)
    judged_steady l = case_steady (judged_laws j) refl l
