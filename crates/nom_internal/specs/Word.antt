-- Words: grammars by closed names. `Answers` and the words of each parser, in the modules `Words`, don't unfold by themselves. So
-- what a parser answers by its word is found to be what a contract says, as terms are compared: with nothing written.
use Rattle.std.specs.Prelude.{◌≡◌, Bool}
use Rattle.std.proofs.Common.{subst, sym}
use Rattle.nom_error.specs.Answers.{IResult}
use Rattle.nom_traits.specs.Input.{Model}
use Rattle.nom_internal.specs.Grammar.{Grammar, Parses}

-- a grammar, with the type of its trees inside: no word has it as an argument
pub record Word (I O E : Type 0) : Type 1 where
  pub Tree : Type 0
  pub grammar : Grammar I Tree O E

abbrev pub word : {I V O E : Type 0} → Grammar I V O E → Word I O E
word {V = V} g = record { Tree = V; grammar = g }

-- a grammar for each key, with the type of their trees inside
pub record Words (K I O E : Type 0) : Type 1 where
  pub Tree : Type 0
  pub grammar : K → Grammar I Tree O E

abbrev pub keyed : {K I V O E : Type 0} → (K → Grammar I V O E) → Words K I O E
keyed {V = V} g = record { Tree = V; grammar = g }

module _ {I A O E : Type 0} (w : Model I A) where
  -- what `parse` (true) and `parse_complete` (false) answer by a word
  pub Answers : Word I O E → Bool → I → IResult I O E → Type 0
  Answers h = Parses w h.grammar

  module _ {h : Word I O E} {s : Bool} {i : I} {r : IResult I O E} where
    -- by the word of a grammar, where the grammar is parsed
    pub answers_by : {V : Type 0} {g : Grammar I V O E} → h ≡ word g → Parses w g s i r → Answers h s i r
    unfolding Answers
    answers_by same shown = subst (λ k. Parses w k.grammar s i r) (sym same) shown

    -- and back
    pub parses_by : {V : Type 0} {g : Grammar I V O E} → h ≡ word g → Answers h s i r → Parses w g s i r
    unfolding Answers
    parses_by same answered = subst (λ k. Parses w k.grammar s i r) same answered

module _ {I A O E : Type 0} (w : Model I A) (s : Bool) (i : I) (r : IResult I O E) where
  -- equal words answer alike
  pub answers_same : {h k : Word I O E} → Answers w h s i r → h ≡ k → Answers w k s i r
  answers_same answered same = subst (λ x. Answers w x s i r) same answered
