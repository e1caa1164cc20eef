-- Grammars: what a parser means, and which outputs its parse trees stand for. A word for one is named as the parser, with `_of`, or
-- with `_by` where a closure of any contract is in it.
use Rattle.std.specs.Prelude.{◌≡◌, ℕ, Bool}
use Rattle.nom_error.specs.Answers.{PResult, IResult}
use Rattle.nom_error.specs.Modes.{Modes}
use Rattle.nom_traits.specs.Input.{Model}
use Rattle.nom_traits.specs.Slices.{Slice, IsModelledBy}
use Rattle.nom_internal.specs.Outcome.Outcome.{Accept}
use Rattle.nom_internal.specs.Meaning.{Meaning, ShowsMeaning, ParsesMeaning}

pub record Grammar (I V O E : Type 0) : Type 1 where
  pub meaning : Meaning I V E
  -- which outputs a parse tree stands for
  pub IsOutput : V → O → Type 0

module _ {I A E : Type 0} (w : Model I A) where
  -- what `process` returns at i by the grammar: by what is built of outputs and errors, and the mode
  abbrev pub Shows : {V O : Type 0} → Grammar I V O E → Modes → I → PResult I O E → Type 0
  Shows g mode i r = ShowsMeaning w g.IsOutput g.meaning mode i r

  -- what `parse` (true) and `parse_complete` (false) return at i by the grammar
  abbrev pub Parses : {V O : Type 0} → Grammar I V O E → Bool → I → IResult I O E → Type 0
  Parses g streaming i r = ParsesMeaning w g.IsOutput g.meaning streaming i r

  -- a leaf that accepts a slice of the input
  abbrev pub sliced : Meaning I (Slice w) E → Grammar I (Slice w) I E
  sliced m = record { meaning = m; IsOutput = IsModelledBy w }

-- a leaf whose tree is its output
abbrev pub valued : {I V E : Type 0} → Meaning I V E → Grammar I V V E
valued m = record { meaning = m; IsOutput = λ t o. o ≡ t }

-- an output for what is accepted at i
pub record GivesAt {I V O E : Type 0} (g : Grammar I V O E) (streaming : Bool) (i : I) (o : O) : Type 0 where
  pub length : ℕ
  pub tree : V
  pub accepted : g.meaning.answers streaming i (Accept length tree)
  pub is_output : g.IsOutput tree o
