-- A part that is followed by another.
use Rattle.std.specs.Prelude.{◌≡◌, ℕ, ◌+◌}
use Rattle.nom_error.specs.Modes.{Modes}
use Rattle.nom_traits.specs.Input.{Model, IsSuffixOf}
use Rattle.nom_internal.specs.Outcome.{Outcome, mapped, IsFault, OnOutcome}
use Rattle.nom_internal.specs.Outcome.Outcome.{Accept, Refuse, Stop}
use Rattle.nom_internal.specs.Meaning.{Meaning}
use Rattle.nom_internal.specs.Families.{Family, always}
use Rattle.nom_internal.specs.Grammar.{Grammar}

-- the outcome after n items that were accepted before, with a tree made of its own
abbrev pub after : {V W : Type 0} → ℕ → (V → W) → Outcome V → Outcome W
after n = mapped (λ m. n + m)

module _ {I A P Q T : Type 0} (w : Model I A) (tree : P → Q → T) where
  -- how a first outcome goes on: an acceptance by what follows on the rest, and else as it is
  abbrev pub GoesOn : (P → I → Outcome Q → Type 0) → I → Outcome P → Outcome T → Type 0
  GoesOn Next i (Accept n u) o = (j : I) × (p : Outcome Q) × IsSuffixOf w i n j × Next u j p × (o ≡ after n (tree u) p)
  GoesOn _ _ Refuse o = o ≡ Refuse
  GoesOn _ _ (Stop why) o = o ≡ Stop why

  -- a first part, and then what follows its tree
  pub record Then (First : I → Outcome P → Type 0) (Next : P → I → Outcome Q → Type 0) (i : I) (o : Outcome T) : Type 0 where
    pub first : Outcome P
    pub answered : First i first
    pub goes_on : GoesOn Next i first o

module _ {I A P : Type 0} (w : Model I A) where
  -- a first part accepts and leaves a rest, of which the fact holds
  pub record OnRest (First : I → Outcome P → Type 0) (Fact : P → I → Type 0) (i : I) : Type 0 where
    pub length : ℕ
    pub tree : P
    pub rest : I
    pub accepted : First i (Accept length tree)
    pub rest_is : IsSuffixOf w i length rest
    pub fact : Fact tree rest

module _ {I A P Q E : Type 0} (w : Model I A) (First : I → Outcome P → Type 0) (FirstBlames : I → E → Type 0) (Next : P → I → Outcome Q → Type 0)
    (NextBlames : P → I → E → Type 0) where
  -- the error that a first part holds, or what follows it
  pub data ThenBlames (i : I) (e : E) : Type 0 where
    BlamesFirst : OnOutcome IsFault First (FirstBlames i e) i → ThenBlames i e
    BlamesNext : OnRest w First (λ u j. OnOutcome IsFault (Next u) (NextBlames u j e) j) i → ThenBlames i e

module _ {I A P : Type 0} (w : Model I A) (First : I → Outcome P → Type 0) (FirstRunsOut : I → Type 0) (NextRunsOut : P → I → Type 0) where
  -- memory may run out in a first part, or in what follows it
  pub data ThenRunsOut (i : I) : Type 0 where
    RunsOutFirst : FirstRunsOut i → ThenRunsOut i
    RunsOutNext : OnRest w First NextRunsOut i → ThenRunsOut i

-- A part, and then what its tree says, with a tree made of theirs, and with what each of them builds.
abbrev pub then_meaning : {I A P Q T E : Type 0} → Model I A → (P → Q → T) → (Modes → Modes) → (Modes → Modes) → Meaning I P E → Family P I Q E → Meaning I T E
then_meaning w tree first_mode next_mode a f = record {
  Runs = a.Runs × f.Runs;
  IsSound = a.IsSound × f.IsSound;
  answers = λ s. Then w tree (a.answers s) (λ u. (f.at u).answers s);
  blames = λ s. ThenBlames w (a.answers s) (a.blames s) (λ u. (f.at u).answers s) (λ u. (f.at u).blames s);
  may_run_out = λ mode. ThenRunsOut w (a.answers mode.streaming) (a.may_run_out (first_mode mode)) (λ u. (f.at u).may_run_out (next_mode mode));
  IsFrugal = λ mode. a.IsFrugal (first_mode mode) × f.IsFrugal (next_mode mode);
  Settles = a.Settles × f.Settles;
  NeverFails = λ cause. a.NeverFails cause × f.NeverFails cause;
}

-- two parts in sequence: whatever the first's tree, the second follows
abbrev pub sequence_meaning : {I A P Q T E : Type 0} → Model I A → (P → Q → T) → (Modes → Modes) → (Modes → Modes) → Meaning I P E → Meaning I Q E →
    Meaning I T E
sequence_meaning w tree first_mode second_mode a b = then_meaning w tree first_mode second_mode a (always b)

-- two parts in sequence, with the pair of their trees
abbrev pub pair_meaning : {I A P Q E : Type 0} → Model I A → Meaning I P E → Meaning I Q E → Meaning I (P × Q) E
pair_meaning w a b = sequence_meaning w (λ u v. (u, v)) (λ o. o) (λ o. o) a b

-- which outputs a pair of trees stands for
abbrev pub PairOutput : {V W O P : Type 0} → (V → O → Type 0) → (W → P → Type 0) → V × W → O × P → Type 0
PairOutput IsFirst IsSecond t o = IsFirst t.0 o.0 × IsSecond t.1 o.1

-- two grammars in sequence, with the pair of their outputs
abbrev pub pair_of : {I A V W O P E : Type 0} → Model I A → Grammar I V O E → Grammar I W P E → Grammar I (V × W) (O × P) E
pair_of w g h = record { meaning = pair_meaning w g.meaning h.meaning; IsOutput = PairOutput g.IsOutput h.IsOutput }
