-- Permutation: each member once, in any order. Round by round, the first member that isn't applied and doesn't refuse is
-- applied; where all that are left refuse, so does the permutation, with their errors joined from left to right and closed there.
use Rattle.std.specs.Prelude.{◌≡◌, ℕ, true, List, length}
use Rattle.std.proofs.Common.{zero, suc}
use Rattle.nom_error.specs.declared.kind.ErrorKind.TheVariants as Kind
use Rattle.nom_internal.specs.Prelude.{Modes, Errors, Model, Accept, Meaning, Grammar, closed_meaning, Family, then_meaning, Cause}
use Rattle.nom_branch.specs.Members.{Member, EachMember, AllRun, AreSound, Choice, tried}
use Rattle.nom_branch.specs.Rounds.{FlatOutput}
use Rattle.nom_branch.specs.Members.Choice.{NoChoice, Among}

-- an acceptance of no items
abbrev pub done_meaning : {I V E : Type 0} → V → Meaning I V E
done_meaning t = record {
  Runs = Unit {0};
  IsSound = Unit {0};
  answers = λ s i o. o ≡ Accept 0 t;
  blames = λ s i e. ⊥;
  may_run_out = λ mode i. ⊥;
  IsFrugal = λ mode. Unit {0};
  Settles = Unit {0};
  NeverFails = λ cause. Unit {0};
}

-- they are frugal and, where errors are built, making one takes no memory
abbrev pub AreFrugal : {I T E : Type 0} → Type 0 → List (Member I T E) → Modes → Type 0
AreFrugal Grows ms mode = EachMember (λ m. m.meaning.IsFrugal mode) ms × (mode.errors ≡ true → Grows → ⊥)

abbrev pub AllSettle : {I T E : Type 0} → List (Member I T E) → Type 0
AllSettle = EachMember (λ m. m.meaning.Settles)

abbrev pub NoneFails : {I T E : Type 0} → List (Member I T E) → Cause → Type 0
NoneFails ms cause = EachMember (λ m. m.meaning.NeverFails cause) ms

-- a meaning that promises what all members do
abbrev pub promised : {I T V E : Type 0} → Type 0 → List (Member I T E) → Meaning I V E → Meaning I V E
promised Grows ms m = record {
  Runs = AllRun ms;
  IsSound = AreSound ms;
  answers = m.answers;
  blames = m.blames;
  may_run_out = m.may_run_out;
  IsFrugal = AreFrugal Grows ms;
  Settles = AllSettle ms;
  NeverFails = NoneFails ms;
}

abbrev pub promised_family : {I T V E : Type 0} → Type 0 → List (Member I T E) → (T → Meaning I V E) → Family T I V E
promised_family Grows ms at = record {
  at = at;
  Runs = AllRun ms;
  IsSound = AreSound ms;
  IsFrugal = AreFrugal Grows ms;
  Settles = AllSettle ms;
  NeverFails = NoneFails ms;
}

-- a round: the choice among the members that aren't applied, closed where it stands; of none, nothing
abbrev pub round_meaning : {I T E : Type 0} → (I → E → E → Type 0) → Type 0 → T → Choice I T E → Meaning I T E
round_meaning Closes Grows t NoChoice = done_meaning t
round_meaning Closes Grows t (Among m) = closed_meaning Closes Grows m

module _ {I A T E : Type 0} (w : Model I A) (Joins : E → E → E → Type 0) (Closes : I → E → E → Type 0) (Grows : Type 0) (ms : List (Member I T E)) where
  -- n more rounds after the trees t, each on the rest of the one before
  abbrev pub rounds_meaning : ℕ → T → Meaning I T E
  rounds_meaning zero t = promised Grows ms (done_meaning t)
  rounds_meaning (suc n) t = promised Grows ms
      (then_meaning w (λ _ u. u) (λ o. o) (λ o. o) (round_meaning Closes Grows t (tried Joins Grows ms t)) (promised_family Grows ms (rounds_meaning n)))

  -- as many rounds as there are members
  abbrev pub permutation_meaning : T → Meaning I T E
  permutation_meaning none = promised Grows ms (rounds_meaning (length ms) none)

-- a permutation, with the outputs of nested members made flat
abbrev pub once_each_of : {I A T O U E : Type 0} → Model I A → Errors I E → List (Member I T E) → T → (T → O → Type 0) → (U → O) → Grammar I T U E
once_each_of w e ms none AreOutputs pairs = record {
  meaning = permutation_meaning w e.joined (λ i. e.appended i Kind.Permutation) e.grows ms none;
  IsOutput = FlatOutput AreOutputs pairs;
}
