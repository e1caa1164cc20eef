-- The laws of parts whose outputs are never built.
use Rattle.std.specs.Prelude.{◌≡◌, ℕ, false, refl}
use Rattle.std.proofs.Common.{sym, ◌∙◌, subst}
use Rattle.nom_internal.specs.Prelude.{Model, IsBoundary, Cause, Accept, Stop, Fails, Meaning, IsLawful, IsSteady}
use Rattle.nom_internal.specs.laws.CaseLaws.{case_lawful, case_steady}
use Rattle.nom_internal.specs.laws.RecognizedLaws.{AcceptLaws, plain_laws}
use Rattle.nom_multi_fold.specs.Dropped.{dropped_meaning}

never_dropped : {V : Type 0} (cause : Cause) (n : ℕ) (v : V) → Stop (Fails cause) ≡ Accept n v → ⊥
never_dropped cause n v e = absurd (cc (e))

module _ {I A V : Type 0} (w : Model I A) where
  accept_laws : AcceptLaws w (λ (i : I) n (v : V) o. o ≡ Accept n v)
  accept_laws = record {
    same = λ longer x y n u o p kx ky r s k t. s ∙ sym t;
    consistent = λ x y n u o kx ky r s. s;
    place = λ i m n u t h p s. let same : m ≡ n = cc (s) in subst (λ z. IsBoundary w i z) same p;
    never_fails = λ cause i n u s. never_dropped cause n u s;
  }

module _ {I A V E : Type 0} {w : Model I A} {m : Meaning I V E} where
  pub dropped_lawful : IsLawful w m → IsLawful w (dropped_meaning m)
  dropped_lawful p = case_lawful (plain_laws w (λ (i : I) n (v : V) o. o ≡ Accept n v) (accept_laws w) (λ _. false)) p

  pub dropped_steady : IsSteady w m → IsSteady w (dropped_meaning m)
  dropped_steady p = case_steady (plain_laws w (λ (i : I) n (v : V) o. o ≡ Accept n v) (accept_laws w) (λ _. false)) refl p
