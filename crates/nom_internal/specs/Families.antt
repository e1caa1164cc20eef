-- Meanings by a key: what follows a part, by the part's tree; or a part of a repetition, by the number of items before it.
use Rattle.std.specs.Prelude.{◌≡◌, Bool, true, not}
use Rattle.std.proofs.Common.{subst}
use Rattle.nom_error.specs.Modes.{Modes}
use Rattle.nom_traits.specs.Input.{Model}
use Rattle.nom_internal.specs.Meaning.{Meaning, IsLawful, IsSteady, SameBlame}
use Rattle.nom_internal.specs.Outcome.{Cause}

pub record Family (K I V E : Type 0) : Type 1 where
  pub at : K → Meaning I V E
  -- what holds of all of them
  pub Runs : Type 0
  pub IsSound : Type 0
  pub IsFrugal : Modes → Type 0
  pub Settles : Type 0
  pub NeverFails : Cause → Type 0

-- one meaning, whatever the key
abbrev pub always : {K I V E : Type 0} → Meaning I V E → Family K I V E
always m = record { at = λ _. m; Runs = m.Runs; IsSound = m.IsSound; IsFrugal = m.IsFrugal; Settles = m.Settles; NeverFails = m.NeverFails }

-- the laws of a sound family, of the keys of which the fact holds
pub record IsLawfulFamily {K I A V E : Type 0} (w : Model I A) (IsKey : K → Type 0) (f : Family K I V E) : Type 0 where
  pub lawful : (k : K) → IsKey k → IsLawful w (f.at k)
  pub frugal : (mode : Modes) → f.IsFrugal mode → (k : K) → IsKey k → (f.at k).IsFrugal mode
  pub settles : f.Settles → (k : K) → IsKey k → (f.at k).Settles
  pub never_fails : (cause : Cause) → f.NeverFails cause → (k : K) → IsKey k → (f.at k).NeverFails cause

-- of any key
abbrev pub AnyKey : {K : Type 0} → K → Type 0
AnyKey _ = Unit {0}

pub always_lawful : {K I A V E : Type 0} {w : Model I A} {m : Meaning I V E} → IsLawful w m → IsLawfulFamily {K = K} w AnyKey (always m)
always_lawful l = record {
  lawful = λ _ _. l;
  frugal = λ mode h _ _. h;
  settles = λ h _ _. h;
  never_fails = λ cause h _ _. h;
}

-- the value that was read, and a fact of it
pub record OfValue {V : Type 0} (IsValue : V → Type 0) (Fact : V → Type 0) : Type 0 where
  pub value : V
  pub is_value : IsValue value
  pub fact : Fact value

-- a tree stands for one value
abbrev pub IsOne : {P V : Type 0} → (P → V → Type 0) → Type 0
IsOne {P} {V} IsValue = (u : P) (m n : V) → IsValue u m → IsValue u n → m ≡ n

-- what is meant by the value that a tree stands for
abbrev pub of_value : {P V I Q E : Type 0} → (P → V → Type 0) → Family V I Q E → Family P I Q E
of_value IsValue f = record {
  at = λ u. record {
    Runs = f.Runs;
    IsSound = f.IsSound;
    answers = λ s i o. OfValue (IsValue u) (λ v. (f.at v).answers s i o);
    blames = λ s i e. OfValue (IsValue u) (λ v. (f.at v).blames s i e);
    may_run_out = λ mode i. OfValue (IsValue u) (λ v. (f.at v).may_run_out mode i);
    IsFrugal = f.IsFrugal;
    Settles = f.Settles;
    NeverFails = f.NeverFails;
  };
  Runs = f.Runs;
  IsSound = f.IsSound × IsOne IsValue;
  IsFrugal = f.IsFrugal;
  Settles = f.Settles;
  NeverFails = f.NeverFails;
}

module _ {P V I A Q E : Type 0} (w : Model I A) (IsValue : P → V → Type 0) (f : Family V I Q E) (one : IsOne IsValue)
    (l : IsLawfulFamily w (λ v. (u : P) × IsValue u v) f) where
  same_blame : (u : P) → f.Settles → (s : Bool) → SameBlame w (((of_value IsValue f).at u).answers s) (((of_value IsValue f).at u).answers (not s))
      (((of_value IsValue f).at u).blames s) (((of_value IsValue f).at u).blames (not s))
  same_blame u t s i o e h a b d z =
      let v = z.value in
      let key : (x : P) × IsValue x v = (u, z.is_value) in
      let first = subst (λ n. (f.at n).answers s i o) (one u a.value v a.is_value z.is_value) a.fact in
      let second = subst (λ n. (f.at n).answers (not s) i o) (one u b.value v b.is_value z.is_value) b.fact in
      record { value = v; is_value = z.is_value; fact = (l.lawful v key).blames_consistent (l.settles t v key) s i o e h first second d z.fact }

  at_lawful : (u : P) → IsLawful w ((of_value IsValue f).at u)
  at_lawful u = record {
    within = λ s i n v h a. (l.lawful a.value (u, a.is_value)).within s i n v h a.fact;
    one_outcome = λ s x y o p kx ky r a k b.
        let v = a.value in
        (l.lawful v (u, a.is_value)).one_outcome s x y o p kx ky r a.fact k
        (subst (λ n. (f.at n).answers s y p) (one u b.value v b.is_value a.is_value) b.fact);
    consistent = λ s x y o kx ky r a k. record {
      value = a.value;
      is_value = a.is_value;
      fact = (l.lawful a.value (u, a.is_value)).consistent s x y o kx ky
          r a.fact k;
    };
    frugal = λ mode i h g a. (l.lawful a.value (u, a.is_value)).frugal mode i h (l.frugal mode g a.value (u, a.is_value)) a.fact;
    settles = λ t x y o kx ky r a k. record {
      value = a.value;
      is_value = a.is_value;
      fact =
          (l.lawful a.value (u, a.is_value)).settles (l.settles t a.value (u, a.is_value)) x y o kx ky r a.fact k;
    };
    blames_consistent = same_blame u;
    never_fails = λ cause g s i h a. (l.lawful a.value (u, a.is_value)).never_fails cause (l.never_fails cause g a.value (u, a.is_value)) s i h a.fact;
  }

  pub of_value_lawful : IsLawfulFamily w AnyKey (of_value IsValue f)
  of_value_lawful = record {
    lawful = λ u _. at_lawful u;
    frugal = λ mode h _ _. h;
    settles = λ h _ _. h;
    never_fails = λ cause h _ _. h;
  }

module _ {P V I A Q E : Type 0} (w : Model I A) (IsValue : P → V → Type 0) (f : Family V I Q E) (one : IsOne IsValue) where
  pub of_value_steady : ((v : V) → ((u : P) × IsValue u v) → IsSteady w (f.at v)) → (u : P) → IsSteady w ((of_value IsValue f).at u)
  of_value_steady l u = record {
    stays = λ x y o p kx ky r a k b. (l a.value (u, a.is_value)).stays x y o p kx ky r a.fact k
        (subst (λ n. (f.at n).answers true y p) (one u b.value a.value b.is_value a.is_value) b.fact);
  }
