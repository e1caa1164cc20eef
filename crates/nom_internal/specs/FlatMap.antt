-- A part, and on the rest the parser that a closure gives for the part's output.
use Rattle.std.specs.Prelude.{◌≡◌, true}
use Rattle.nom_error.specs.Modes.{with_outputs}
use Rattle.nom_traits.specs.Input.{Model}
use Rattle.nom_internal.specs.Meaning.{Meaning}
use Rattle.nom_internal.specs.Grammar.{Grammar}
use Rattle.nom_internal.specs.Cases.{labelled_meaning}
use Rattle.nom_internal.specs.Families.{Family, of_value}
use Rattle.nom_internal.specs.Sequence.{then_meaning}

-- what a closure is to parsers: which outputs it takes, which parsers it gives for them, and their states
pub record Maker (O H S : Type 0) : Type 1 where
  pub Takes : O → Type 0
  pub Gives : O → H → Type 0
  pub state : H → S

abbrev pub maker : {O H S : Type 0} → (O → Type 0) → (O → H → Type 0) → (H → S) → Maker O H S
maker Takes Gives state = record { Takes = Takes; Gives = Gives; state = state }

module _ {P O H S : Type 0} (IsOutput : P → O → Type 0) (g : Maker O H S) where
  -- the state of a parser that is given for an output of a tree
  pub record GivesState (t : P) (u : S) : Type 0 where
    pub output : O
    pub is_output : IsOutput t output
    pub parser : H
    pub given : g.Gives output parser
    pub state_is : g.state parser ≡ u

  -- every output is taken, and the parsers that are given run
  pub record IsMaker (Runs : S → Type 0) : Type 0 where
    pub takes : (t : P) (o : O) → IsOutput t o → g.Takes o
    pub runs : (t : P) (o : O) (h : H) → IsOutput t o → g.Gives o h → Runs (g.state h)

  -- the parsers that are given are sound, and of one state for the outputs of one tree
  pub record MakesOne (IsSound : S → Type 0) : Type 0 where
    pub sound : (t : P) (o : O) (h : H) → IsOutput t o → g.Gives o h → IsSound (g.state h)
    pub fixed : (t : P) (o q : O) (h k : H) → IsOutput t o → IsOutput t q → g.Gives o h → g.Gives q k → g.state h ≡ g.state k

  -- of each state that can be given
  abbrev pub OfEach : (S → Type 0) → Type 0
  OfEach Fact = (t : P) (u : S) → GivesState t u → Fact u

  -- of each parser that can be given
  abbrev pub OfEachGiven : (H → Type 0) → Type 0
  OfEachGiven Fact = (t : P) (o : O) (h : H) → IsOutput t o → g.Gives o h → Fact h

  -- an output of a parser whose state can be given; the state is in the tree
  pub record IsGiven {Q X : Type 0} (IsResult : S → Q → X → Type 0) (r : S × Q) (x : X) : Type 0 where
    pub key : P
    pub given : GivesState key r.0
    pub is_output : IsResult r.0 r.1 x

  -- the meanings of the parsers, by their states
  abbrev pub states_family : {I Q E : Type 0} → (S → Meaning I Q E) → Family S I (S × Q) E
  states_family m = record {
    at = λ u. labelled_meaning (λ q. (u, q)) (m u);
    Runs = IsMaker (λ u. (m u).Runs);
    IsSound = MakesOne (λ u. (m u).IsSound);
    IsFrugal = λ mode. OfEach (λ u. (m u).IsFrugal mode);
    Settles = OfEach (λ u. (m u).Settles);
    NeverFails = λ cause. OfEach (λ u. (m u).NeverFails cause);
  }

  -- the meaning of the parser that is given for a tree
  abbrev pub given_family : {I Q E : Type 0} → (S → Meaning I Q E) → Family P I (S × Q) E
  given_family m = record {
    at = (of_value GivesState (states_family m)).at;
    Runs = IsMaker (λ u. (m u).Runs);
    IsSound = MakesOne (λ u. (m u).IsSound);
    IsFrugal = λ mode. OfEach (λ u. (m u).IsFrugal mode);
    Settles = OfEach (λ u. (m u).Settles);
    NeverFails = λ cause. OfEach (λ u. (m u).NeverFails cause);
  }

-- A part, whose outputs are built, and then the parser that is given for its output.
abbrev pub flat_map_meaning : {I A P O H S Q E : Type 0} → Model I A → (P → O → Type 0) → Maker O H S → Meaning I P E → (S → Meaning I Q E) →
    Meaning I (S × Q) E
flat_map_meaning w IsOutput g a m = then_meaning w (λ u t. t) (with_outputs true) (λ o. o) a (given_family IsOutput g m)

-- a grammar, and the one of the parser that is given for its output
abbrev pub flat_map_by : {I A P O H S Q X E : Type 0} → Model I A → Maker O H S → Grammar I P O E → (S → Grammar I Q X E) →
    Grammar I (S × Q) X E
flat_map_by w give g h = record {
  meaning = flat_map_meaning w g.IsOutput give g.meaning (λ s. (h s).meaning);
  IsOutput = IsGiven g.IsOutput give (λ s. (h s).IsOutput);
}
