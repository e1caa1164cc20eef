-- Grammars that unfold, for proofs that take them apart. Each is the grammar of the parser of its name, and the very one that its implementation is
-- proved to parse; those at one type of input stand in `Bytes` and `Texts`.
use Rattle.std.specs.Prelude.{◌≡◌, ◌↔◌, ℕ, Bool, not, IsTrue, List, Option, Vec, Contains}
use Rattle.nom_error.specs.declared.kind.ErrorKind.TheVariants as Kind
use Rattle.nom_internal.specs.Prelude.{IResult, Errors, Model, Slice, View, Grammar, map_by}
use Rattle.nom_bytes.specs.ParsedRuns.{run1_meaning}
use Rattle.nom_calls.specs.Func.{AnswersBy}
use Rattle.nom_character_first.specs.FirstItem.{char_meaning}
use Rattle.nom_multi.specs.Lengths as Lengths
use Rattle.nom_multi.specs.Values as Values
pub use Rattle.nom_internal.specs.Grammar.{Grammar, Parses, sliced, valued}
pub use Rattle.nom_internal.specs.Sequence.{pair_of}
pub use Rattle.nom_sequence.specs.Sequences.{delimited_of, preceded_of, separated_pair_of, terminated_of}
pub use Rattle.nom_branch.specs.Alternatives.{alt_of, or_of}
pub use Rattle.nom_combinator.specs.Verdicts.{complete_of, cut_of, opt_of}
pub use Rattle.nom_combinator.specs.Ends.{all_consuming_of}
pub use Rattle.nom_multi.specs.Many.{many0_of}

-- what a function that others take as a part by `func` answers by the grammar, with what its outputs are compared by
abbrev pub AnswersAsPart : {I A V O E : Type 0} → Model I A → View O → Grammar I V O E → Bool → I → IResult I O E → Type 0
AnswersAsPart w view g streaming i r = AnswersBy w view g.IsOutput g.meaning streaming i r

-- what a function gives for each output
abbrev pub map_of : {I V O P E : Type 0} → (O → P) → Grammar I V O E → Grammar I V P E
map_of f = map_by (λ _. Unit {0}) (λ o p. p ≡ f o)

module _ {I E : Type 0} (w : Model I ℕ) (errs : Errors I E) where
  abbrev pub char_of : ℕ → Grammar I ℕ ℕ E
  char_of c = valued (char_meaning w (λ x. x) errs c)

  -- the items that aren't in a list, one at least
  abbrev pub is_not_of : List ℕ → Grammar I (Slice w) I E
  is_not_of set = sliced w (run1_meaning w (λ item b. IsTrue (not b) ↔ Contains set item) errs Kind.IsNot)

module _ {I A E : Type 0} (w : Model I A) (errs : Errors I E) where
  -- a length, and that many items; `lack` is what is needed where there are fewer
  abbrev pub length_data_of : {V : Type 0} → (lack : ℕ → List A → Option ℕ) → Grammar I V ℕ E → Grammar I (V × Slice w) I E
  length_data_of lack = Lengths.length_data_of w errs lack (λ n. n)

  -- a length, and a grammar on exactly that much
  abbrev pub length_value_of : {V U O : Type 0} → Grammar I V ℕ E → Grammar I U O E → Grammar I U O E
  length_value_of = Values.length_value_of w errs (λ n. n)

  -- a length, and that many outputs of another grammar
  abbrev pub length_count_of : {V U P M : Type 0} → Grammar I V ℕ E → Grammar I U P E → Grammar I (List U) (Vec P M) E
  length_count_of = Lengths.length_count_of w errs (λ n. n)
