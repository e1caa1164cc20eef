-- The laws of `take`.
use Rattle.std.specs.Prelude.{◌≡◌, ℕ, ◌<◌, List, length, Option}
use Rattle.std.proofs.Common.{sym, ◌∙◌, subst}
use Rattle.nom_internal.specs.Prelude.{Errors, Model, first_place, first_related, first_fewer, same_count, IsLawful, IsSteady, LeafLaws, leaf_lawful}
use Rattle.nom_internal.specs.Prelude.{leaf_steady}
use Rattle.nom_bytes.specs.Stays.{closed_stays}
use Rattle.nom_bytes.specs.Takes.{takes, take_meaning}

module _ {I A : Type 0} (w : Model I A) (lack : ℕ → List A → Option ℕ) (count : ℕ) where
  pub take_laws : LeafLaws w (takes w lack count)
  take_laws = record {
    place = λ s i n t h a. first_place w i n t a.0;
    one_accepted = λ s i n m t u h a b. same_count w i n m t u a.0 b.0 (a.1 ∙ sym b.1);
    one_lack = λ i j k h a b. a.1 ∙ sym b.1;
    accepted_refused = λ s i n t h a b. first_fewer w i n t count a.0 a.1 b.1;
    accepted_lacks = λ i n t k h a b. first_fewer w i n t count a.0 a.1 b.0;
    refused_lacks = λ i k h a b. absurd (cc (a.0));
    accepted_stays = λ longer s only x y n t kx ky r a. (first_related w longer x y n t r a.0, a.1);
    refused_stays = λ longer s only x y kx ky r a. (a.0, closed_stays w (λ xs. length xs < count) longer s only x y r a.0 a.1);
    lack_consistent = λ x y k kx ky r a. subst (λ xs. (length xs < count) × (k ≡ lack count xs)) r.elements_are a;
    accepted_settles = λ i n t h a. a;
    refused_settles = λ i h a. absurd (cc (a.0));
  }

module _ {I A E : Type 0} (w : Model I A) (errs : Errors I E) (lack : ℕ → List A → Option ℕ) (count : ℕ) where
  pub take_lawful : IsLawful w (take_meaning w errs lack count)
  take_lawful = leaf_lawful (take_laws w lack count)

  pub take_steady : IsSteady w (take_meaning w errs lack count)
  take_steady = leaf_steady (take_laws w lack count)
