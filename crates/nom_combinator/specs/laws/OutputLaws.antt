-- The laws of a value in the place of what a part accepts.
use Rattle.std.specs.Prelude.{◌≡◌, ℕ, true, refl}
use Rattle.std.proofs.Common.{sym, ◌∙◌, subst}
use Rattle.nom_internal.specs.Prelude.{Model, IsBoundary, View, Cause, Accept, Stop, Fails, Meaning, IsLawful, IsSteady, IsPinned}
use Rattle.nom_internal.specs.laws.CaseLaws.{CaseLaws, case_lawful, case_steady}
use Rattle.nom_internal.specs.laws.RecognizedLaws.{AcceptLaws, plain_laws}
use Rattle.nom_combinator.specs.Outputs.{GivesValue, value_case, value_meaning}

-- outputs that pass a test
pub tested_pinned : {V O : Type 0} {view : View O} {F : V → O → Type 0} {Passes : O → Type 0} → IsPinned view F → IsPinned view (λ t o. F t o × Passes o)
tested_pinned f = record { one_view = λ t a b p q. f.one_view t a b p.0 q.0 }

never_given : {T : Type 0} (cause : Cause) (n : ℕ) (v : T) → Stop (Fails cause) ≡ Accept n v → ⊥
never_given cause n v e = cc

module _ {I A P T : Type 0} (w : Model I A) (v : T) where
  given_laws : AcceptLaws w (λ i. GivesValue {P = P} v)
  given_laws = record {
    same = λ longer x y n u o p kx ky r s k t. s ∙ sym t;
    consistent = λ x y n u o kx ky r s. s;
    place = λ i m n u t h p s. let same : m ≡ n = cc (s) in subst (λ k. IsBoundary w i k) same p;
    never_fails = λ cause i n u s. never_given cause n v s;
  }

module _ {I A P T E : Type 0} {w : Model I A} {v : T} {IsSure : Type 0} where
  value_laws : CaseLaws true w w (value_case {P = P} {E = E} v IsSure)
  value_laws =
      let l = plain_laws w (λ i. GivesValue v) (given_laws w v) {E = E} (λ b. b) in
      record {
        at_known = l.at_known;
        at_related = l.at_related;
        at_consistent = l.at_consistent;
        keeps = l.keeps;
        same = l.same;
        consistent = l.consistent;
        place = l.place;
        never_fails = l.never_fails;
        blames = l.blames;
        part_frugal = λ Part mode h. h.0;
        asks_none = λ Part mode i a h g. g.2 (h.1 g.1);
      }

  module _ {m : Meaning I P E} where
    pub value_lawful : IsLawful w m → IsLawful w (value_meaning v IsSure m)
    value_lawful l = case_lawful value_laws l

    pub value_steady : IsSteady w m → IsSteady w (value_meaning v IsSure m)
    value_steady l = case_steady value_laws refl l
