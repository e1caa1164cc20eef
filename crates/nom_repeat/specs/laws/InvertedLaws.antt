-- The laws of bounds that don't fit each other.
use Rattle.std.specs.Prelude.{◌≡◌, ℕ, Bool, true, false}
use Rattle.std.proofs.Common.{sym, ◌∙◌}
use Rattle.nom_internal.specs.Prelude.{Errors, ErrorKind, Model, Accept, Meaning, IsLawful, IsSteady}
use Rattle.nom_repeat.specs.Inverted.{error_outcome, error_if}

pub no_accept : {V : Type 0} (fails : Bool) (n : ℕ) (v : V) → Accept n v ≡ error_outcome fails → ⊥
no_accept true n v e = absurd (cc (e))
no_accept false n v e = absurd (cc (e))

module _ {I A V E : Type 0} {w : Model I A} (errs : Errors I E) (kind : ErrorKind) (fails : Bool) {m : Meaning I V E} where
  pub error_if_lawful : (test : Bool) → IsLawful w m → IsLawful w (error_if errs kind fails test m)
  error_if_lawful true p = record {
    within = λ s i n v h a. absurd (no_accept fails n v a);
    one_outcome = λ s x y o q kx ky r a d b. a ∙ sym b;
    consistent = λ s x y o kx ky r a d. a;
    frugal = λ mode i h f r. f r.0 r.1;
    settles = λ t x y o kx ky r a d. a;
    blames_consistent = λ t s i o e h a b d z. z;
    never_fails = λ cause g s i h a. g (sym a);
  }
  error_if_lawful false p = record {
    within = p.within;
    one_outcome = p.one_outcome;
    consistent = p.consistent;
    frugal = p.frugal;
    settles = p.settles;
    blames_consistent = p.blames_consistent;
    never_fails = p.never_fails;
  }

  pub error_if_steady : (test : Bool) → IsSteady w m → IsSteady w (error_if errs kind fails test m)
  error_if_steady true p = record { stays = λ x y o q kx ky r a d b. a ∙ sym b }
  error_if_steady false p = record { stays = p.stays }
