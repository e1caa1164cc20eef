-- The laws of parsers that look at no item.
use Rattle.nom_internal.specs.Prelude.{Errors, Model, IsLawful, IsSteady, LeafLaws, leaf_lawful, leaf_steady, success_meaning, success_lawful, success_steady}
use Rattle.nom_combinator.specs.Ends.{clone_meaning, fail_leaf, fail_meaning}

-- a clone of a value
pub clone_lawful : {I A V : Type 0} (E : Type 0) (w : Model I A) (v : V) (IsSure : Type 0) → IsLawful w (clone_meaning {E = E} v IsSure)
clone_lawful E w v IsSure =
    let l : IsLawful w (success_meaning {E = E} v) = success_lawful in
    record {
      within = l.within;
      one_outcome = l.one_outcome;
      consistent = l.consistent;
      frugal = λ mode i h g r. r.1 (g r.0);
      settles = l.settles;
      blames_consistent = l.blames_consistent;
      never_fails = l.never_fails;
    }

pub clone_steady : {I A V : Type 0} (E : Type 0) (w : Model I A) (v : V) (IsSure : Type 0) → IsSteady w (clone_meaning {E = E} v IsSure)
clone_steady E w v IsSure =
    let l : IsSteady w (success_meaning {E = E} v) = success_steady in
    record { stays = l.stays }

fail_laws : {I A V : Type 0} (w : Model I A) → LeafLaws w (fail_leaf {I = I} {V = V})
fail_laws w = record {
  place = λ s i n u h a. absurd a;
  one_accepted = λ s i n m u t h a b. absurd a;
  one_lack = λ i j k h a b. absurd a;
  accepted_refused = λ s i n u h a b. a;
  accepted_lacks = λ i n u k h a b. a;
  refused_lacks = λ i k h a b. b;
  accepted_stays = λ longer s only x y n u kx ky r a. a;
  refused_stays = λ longer s only x y kx ky r a. a;
  lack_consistent = λ x y k kx ky r a. a;
  accepted_settles = λ i n u h a. a;
  refused_settles = λ i h a. a;
}

module _ {I A E : Type 0} (V : Type 0) (w : Model I A) (errs : Errors I E) where
  pub fail_lawful : IsLawful w (fail_meaning {V = V} errs)
  fail_lawful = leaf_lawful (fail_laws w)

  pub fail_steady : IsSteady w (fail_meaning {V = V} errs)
  fail_steady = leaf_steady (fail_laws w)
