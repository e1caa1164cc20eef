-- A parser on what another one gives: the first's output, as an input of its own.
use Rattle.std.specs.Prelude.{◌≡◌, true}
use Rattle.nom_error.specs.Modes.{with_outputs}
use Rattle.nom_traits.specs.Input.{Model, IsSame}
use Rattle.nom_internal.specs.Outcome.{Outcome, mapped}
use Rattle.nom_internal.specs.Meaning.{Meaning}
use Rattle.nom_internal.specs.Grammar.{Grammar}
use Rattle.nom_internal.specs.Cases.{Case, case_meaning}
use Rattle.nom_internal.specs.Cases.PartMode.{AsAsked}
use Rattle.nom_internal.specs.Families.{Family}
use Rattle.nom_internal.specs.Sequence.{then_meaning}

module _ {J B P : Type 0} (v : Model J B) (IsOutput : P → J → Type 0) where
  -- an output of a tree, as an input
  pub record IsBound (u : P) (j : J) : Type 0 where
    pub is_output : IsOutput u j
    pub known : v.IsKnown j

  -- the outputs of one tree are equal as viewed
  abbrev pub AreConsistent : Type 0
  AreConsistent = (u : P) (j k : J) → IsOutput u j → IsOutput u k → IsSame v j k

-- an outcome of which nothing is consumed
abbrev pub held : {V : Type 0} → Outcome V → Outcome V
held = mapped (λ _. 0) (λ t. t)

-- A part at an input of its own, whatever the rest: nothing of the rest is consumed.
abbrev pub bounded_case : {I J Q E : Type 0} → (J → Type 0) → Case I J Q Q E E
bounded_case At = record {
  At = λ i. At;
  mode = AsAsked;
  Becomes = λ i a o. o ≡ held a;
  Blames = λ i a Part. Part;
  part = λ mode. mode;
  Asks = λ _ i a. ⊥;
  Runs = λ Part. Part;
  IsSound = λ Part. Part;
  IsFrugal = λ Part. Part;
  NeverFails = λ Part. Part;
}

-- a parser on an output of a first part's tree
abbrev pub bounded_family : {I J B P Q E : Type 0} → Model J B → (P → J → Type 0) → Meaning J Q E → Family P I Q E
bounded_family v IsOutput m = record {
  at = λ u. case_meaning (bounded_case (IsBound v IsOutput u)) m;
  Runs = m.Runs;
  IsSound = m.IsSound × AreConsistent v IsOutput;
  IsFrugal = m.IsFrugal;
  Settles = m.Settles;
  NeverFails = m.NeverFails;
}

-- A first part, whose outputs are built, and a parser on its output alone, whose rest is dropped: what the first consumes
-- is consumed, and the second's tree is the tree.
abbrev pub and_then_meaning : {I A J B P Q E : Type 0} → Model I A → Model J B → (P → J → Type 0) → Meaning I P E → Meaning J Q E → Meaning I Q E
and_then_meaning w v IsOutput a m = then_meaning w (λ u t. t) (with_outputs true) (λ o. o) a (bounded_family v IsOutput m)

-- a grammar, and another on its output alone
abbrev pub and_then_of : {I A J B P Q O E : Type 0} → Model I A → Model J B → Grammar I P J E → Grammar J Q O E → Grammar I Q O E
and_then_of w v g h = record { meaning = and_then_meaning w v g.IsOutput g.meaning h.meaning; IsOutput = h.IsOutput }
