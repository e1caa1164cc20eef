-- The laws of permutations.
use Rattle.std.specs.Prelude.{◌≡◌, ℕ, Bool, List, [], ◌∷◌, length, Option, Some, None}
use Rattle.std.proofs.Common.{sym, ◌∙◌, subst, zero, suc}
use Rattle.nom_error.specs.declared.kind.ErrorKind.TheVariants as Kind
use Rattle.nom_internal.specs.Prelude.{Modes, Errors, Model, InputLaws, IsBoundary, Cause, Accept, Stop, Fails, Meaning, IsLawful, IsSteady, labelled_meaning}
use Rattle.nom_internal.specs.Prelude.{IsLawfulFamily, AnyKey, then_meaning}
use Rattle.nom_internal.specs.laws.CaseLaws.{no_place, labelled_lawful, labelled_steady, closed_lawful, closed_steady}
use Rattle.nom_internal.specs.laws.ChoiceLaws.{or_lawful, or_steady}
use Rattle.nom_internal.specs.laws.SequenceLaws.{then_lawful, then_steady}
use Rattle.nom_branch.specs.Members.Choice.{NoChoice, Among}
use Rattle.nom_branch.specs.Members.{Member, EachMember, AreLawful, AreSteady, Choice, or_waiting, or_members}
use Rattle.nom_branch.specs.Permutation.{AreFrugal, AllSettle, NoneFails, done_meaning, promised, promised_family, round_meaning, rounds_meaning}
use Rattle.nom_branch.specs.Permutation.{permutation_meaning}

-- the fact holds of a choice, if there is one
abbrev pub OfChoice : {I V E : Type 0} → (Meaning I V E → Type 0) → Choice I V E → Type 0
OfChoice Law NoChoice = Unit {0}
OfChoice Law (Among m) = Law m

-- a meaning promises what all members do
pub record IsPromised {I T W E : Type 0} (Grows : Type 0) (ms : List (Member I T E)) (m : Meaning I W E) : Type 0 where
  pub frugal : (mode : Modes) → AreFrugal Grows ms mode → m.IsFrugal mode
  pub settles : AllSettle ms → m.Settles
  pub never_fails : (cause : Cause) → NoneFails ms cause → m.NeverFails cause

-- a lawful meaning that promises what all members do
pub record IsGood {I A T W E : Type 0} (w : Model I A) (Grows : Type 0) (ms : List (Member I T E)) (m : Meaning I W E) : Type 0 where
  pub lawful : IsLawful w m
  pub promises : IsPromised Grows ms m

module _ {I A T W E : Type 0} (w : Model I A) (Grows : Type 0) (all : List (Member I T E)) where
  -- with what all members promise in the place of what it promises itself, it is lawful
  good_lawful : (m : Meaning I W E) → IsGood w Grows all m → IsLawful w (promised Grows all m)
  good_lawful m h = record {
    within = h.lawful.within;
    one_outcome = h.lawful.one_outcome;
    consistent = h.lawful.consistent;
    frugal = λ mode i k f. h.lawful.frugal mode i k (h.promises.frugal mode f);
    settles = λ t. h.lawful.settles (h.promises.settles t);
    blames_consistent = λ t. h.lawful.blames_consistent (h.promises.settles t);
    never_fails = λ cause f. h.lawful.never_fails cause (h.promises.never_fails cause f);
  }

  promised_steady : {m : Meaning I W E} → IsSteady w m → IsSteady w (promised Grows all m)
  promised_steady h = record { stays = h.stays }

module _ {I A V : Type 0} (w : Model I A) (t : V) where
  done_lawful : {E : Type 0} → IsLawful w (done_meaning {I = I} {E = E} t)
  done_lawful = record {
    within = λ s i n v h a. let none : 0 ≡ n = cc (a) in subst (λ m. IsBoundary w i m) none (no_place w i);
    one_outcome = λ s x y o q kx ky r a z b. a ∙ sym b;
    consistent = λ s x y o kx ky r a k. a;
    frugal = λ mode i h f r. r;
    settles = λ k x y o kx ky r a d. a;
    blames_consistent = λ k s i o e h a b d r. r;
    never_fails = never;
  }
    where
      never : (cause : Cause) → Unit {0} → (s : Bool) (i : I) → w.IsKnown i → Stop (Fails cause) ≡ Accept 0 t → ⊥
      never cause f s i h a = cc (a)

  done_steady : (E : Type 0) → IsSteady w (done_meaning {I = I} {E = E} t)
  done_steady E = record { stays = λ x y o q kx ky r a z b. a ∙ sym b }

module _ {I A T P E : Type 0} (w : Model I A) (Joins : E → E → E → Type 0) (Grows : Type 0) (all : List (Member I T E)) (m : Meaning I P E) (put : P → T) where
  labelled_good : IsGood w Grows all m → IsGood w Grows all (labelled_meaning put m)
  labelled_good k = record {
    lawful = labelled_lawful k.lawful;
    promises =
        record { frugal = k.promises.frugal; settles = k.promises.settles; never_fails = k.promises.never_fails };
  }

  -- one more member
  waiting_good : (o : Choice I T E) (x : Option P) → OfChoice (λ n. IsGood w Grows all n) o → IsGood w Grows all m →
      OfChoice (λ n. IsGood w Grows all n) (or_waiting Joins Grows o m put x)
  waiting_good o (Some v) h k = h
  waiting_good NoChoice None h k = labelled_good k
  waiting_good (Among n) None h k = record {
    lawful = or_lawful h.lawful (labelled_lawful k.lawful);
    promises = record {
      frugal = λ mode f. (h.promises.frugal mode f, k.promises.frugal mode f, f.1);
      settles = λ t. (h.promises.settles t, k.promises.settles t);
      never_fails = λ cause f. (h.promises.never_fails cause f, k.promises.never_fails cause f);
    };
  }

module _ {I A T P E : Type 0} (w : Model I A) (Joins : E → E → E → Type 0) (Grows : Type 0) (m : Meaning I P E) (put : P → T) where
  waiting_steady : (o : Choice I T E) (x : Option P) → OfChoice (λ n. IsSteady w n) o → IsSteady w m →
      OfChoice (λ n. IsSteady w n) (or_waiting Joins Grows o m put x)
  waiting_steady o (Some v) h k = h
  waiting_steady NoChoice None h k = labelled_steady k
  waiting_steady (Among n) None h k = or_steady h (labelled_steady k)

module _ {I A T E : Type 0} (w : Model I A) (Joins : E → E → E → Type 0) (Grows : Type 0) (all : List (Member I T E)) where
  -- the choice among members that aren't applied
  members_good : (t : T) (o : Choice I T E) (ms : List (Member I T E)) → OfChoice (λ n. IsGood w Grows all n) o →
      EachMember (λ a. IsGood w Grows all a.meaning) ms → OfChoice (λ n. IsGood w Grows all n) (or_members Joins Grows t o ms)
  members_good t o [] h k = h
  members_good t o (m ∷ ms) h k =
      members_good t (or_waiting Joins Grows o m.meaning (m.put t) (m.tree t)) ms (waiting_good w Joins Grows all m.meaning (m.put t) o (m.tree t) h k.0) k.1

module _ {I A T E : Type 0} (w : Model I A) (Joins : E → E → E → Type 0) (Grows : Type 0) where
  members_steady : (t : T) (o : Choice I T E) (ms : List (Member I T E)) → OfChoice (λ n. IsSteady w n) o → EachMember (λ a. IsSteady w a.meaning) ms →
      OfChoice (λ n. IsSteady w n) (or_members Joins Grows t o ms)
  members_steady t o [] h k = h
  members_steady t o (m ∷ ms) h k =
      members_steady t (or_waiting Joins Grows o m.meaning (m.put t) (m.tree t)) ms (waiting_steady w Joins Grows m.meaning (m.put t) o (m.tree t) h k.0) k.1

-- what all members promise, each promises
module _ {I A T E : Type 0} (w : Model I A) (Grows : Type 0) (all : List (Member I T E)) where
  each_good : (ms : List (Member I T E)) → EachMember (λ a. IsLawful w a.meaning) ms →
      ((mode : Modes) → AreFrugal Grows all mode → EachMember (λ a. a.meaning.IsFrugal mode) ms) → (AllSettle all → AllSettle ms) →
      ((cause : Cause) → NoneFails all cause → NoneFails ms cause) → EachMember (λ a. IsGood w Grows all a.meaning) ms
  each_good [] h f g k = tt
  each_good (m ∷ ms) h f g k = (
    record { lawful = h.0; promises = record { frugal = λ mode x. (f mode x).0; settles = λ x. (g x).0; never_fails = λ cause x. (k cause x).0 } },
    each_good ms h.1 (λ mode x. (f mode x).1) (λ x. (g x).1) (λ cause x. (k cause x).1),
  )

module _ {I A T E : Type 0} (w : Model I A) (Closes : I → E → E → Type 0) (Grows : Type 0) where
  module _ (all : List (Member I T E)) where
    done_good : (t : T) → IsGood w Grows all (done_meaning {I = I} {E = E} t)
    done_good t = record { lawful = done_lawful w t; promises = record { frugal = λ mode f. tt; settles = λ f. tt; never_fails = λ cause f. tt } }

    round_good : (t : T) (o : Choice I T E) → OfChoice (λ n. IsGood w Grows all n) o → IsGood w Grows all (round_meaning Closes Grows t o)
    round_good t NoChoice h = done_good t
    round_good t (Among m) h = record {
      lawful = closed_lawful h.lawful;
      promises = record { frugal = λ mode f. (h.promises.frugal mode f, f.1); settles = h.promises.settles; never_fails = h.promises.never_fails };
    }

  round_steady : (t : T) (o : Choice I T E) → OfChoice (λ n. IsSteady w n) o → IsSteady w (round_meaning Closes Grows t o)
  round_steady t NoChoice h = done_steady w t E
  round_steady t (Among m) h = closed_steady h

module _ {I A T E : Type 0} (w : Model I A) (Joins : E → E → E → Type 0) (Closes : I → E → E → Type 0) (Grows : Type 0) (ms : List (Member I T E)) where
  rounds_promise : (n : ℕ) (t : T) → IsPromised Grows ms (rounds_meaning w Joins Closes Grows ms n t)
  rounds_promise zero t = record { frugal = λ mode f. f; settles = λ f. f; never_fails = λ cause f. f }
  rounds_promise (suc n) t = record { frugal = λ mode f. f; settles = λ f. f; never_fails = λ cause f. f }

  module _ (l : InputLaws w) where
    rounds_lawful : AreLawful w ms → (n : ℕ) (t : T) → IsLawful w (rounds_meaning w Joins Closes Grows ms n t)
    rounds_lawful h zero t = good_lawful w Grows ms (done_meaning t) (done_good w Closes Grows ms t)
    rounds_lawful h (suc n) t =
        let tried = or_members Joins Grows t NoChoice ms in
        let good = members_good w Joins Grows ms t NoChoice ms tt (each_good w Grows ms ms h (λ mode f. f.0) (λ f. f) (λ cause f. f)) in
        let round = round_good w Closes Grows ms t tried good in
        let next = promised_family Grows ms (rounds_meaning w Joins Closes Grows ms n) in
        let family : IsLawfulFamily w AnyKey next =
        record {
          lawful = λ u _. rounds_lawful h n u;
          frugal = λ mode f u _. (rounds_promise n u).frugal mode f;
          settles =
              λ f u _. (rounds_promise n u).settles f;
          never_fails = λ cause f u _. (rounds_promise n u).never_fails cause f;
        } in
        good_lawful w Grows ms (then_meaning w (λ _ u. u) (λ o. o) (λ o. o) (round_meaning Closes Grows t tried) next) (record {
          lawful = then_lawful l next round.lawful family;
          promises = record {
            frugal = λ mode f. (round.promises.frugal mode f, f);
            settles = λ f. (round.promises.settles f, f);
            never_fails =
                λ cause f. (round.promises.never_fails cause f, f);
          };
        })

    rounds_steady : AreSteady w ms → (n : ℕ) (t : T) → IsSteady w (rounds_meaning w Joins Closes Grows ms n t)
    rounds_steady h zero t = promised_steady w Grows ms (done_steady w t E)
    rounds_steady h (suc n) t =
        let tried = or_members Joins Grows t NoChoice ms in
        promised_steady w Grows ms (then_steady l (promised_family Grows ms (rounds_meaning w Joins Closes Grows ms n))
        (round_steady w Closes Grows t tried (members_steady w Joins Grows t NoChoice ms tt h)) (λ u. rounds_steady h n u))

    permutation_lawful : AreLawful w ms → (none : T) → IsLawful w (permutation_meaning w Joins Closes Grows ms none)
    permutation_lawful h none = good_lawful w Grows ms (rounds_meaning w Joins Closes Grows ms (length ms) none)
        (record { lawful = rounds_lawful h (length ms) none; promises = rounds_promise (length ms) none })

    permutation_steady : AreSteady w ms → (none : T) → IsSteady w (permutation_meaning w Joins Closes Grows ms none)
    permutation_steady h none = promised_steady w Grows ms (rounds_steady h (length ms) none)

module _ {I A T E : Type 0} {w : Model I A} (l : InputLaws w) (e : Errors I E) (ms : List (Member I T E)) where
  pub once_each_lawful : AreLawful w ms → (none : T) → IsLawful w (permutation_meaning w e.joined (λ i. e.appended i Kind.Permutation) e.grows ms none)
  once_each_lawful = permutation_lawful w e.joined (λ i. e.appended i Kind.Permutation) e.grows ms l

  pub once_each_steady : AreSteady w ms → (none : T) → IsSteady w (permutation_meaning w e.joined (λ i. e.appended i Kind.Permutation) e.grows ms none)
  once_each_steady = permutation_steady w e.joined (λ i. e.appended i Kind.Permutation) e.grows ms l
