-- Grammars that contain themselves, to a depth, as stream parsers.
use Rattle.std.specs.Prelude.{ℕ, zero, suc, true, false}
use Rattle.nom_internal.specs.Prelude.{Errors, IResult, Model, View}
use Rattle.nom_internal.specs.Word.{Answers, Word}
use Rattle.nom_calls.specs.Func.{AreRelated, TellOne}
use Rattle.nom_calls.specs.Words.{stream_given_of}
use Rattle.nom_recursion.specs.Recursion.{too_deep_of}

-- What a function of `streaming` ensures of its answer r at i: what a word says. Each answer by the word at an input whose model is i's is taken
-- as the same outcome, and what is decided stays on each longer input. By it `stream_func` is sound with the function.
pub record StreamsAs {I A O E : Type 0} (w : Model I A) (view : View O) (h : Word I O E) (i : I) (r : IResult I O E) : Type 0 where
  pub shown : Answers w h true i r
  pub consistent : (j : I) (q : IResult I O E) → AreRelated w false i j → Answers w h true j q → TellOne w view false i j r q
  pub stays : (j : I) (q : IResult I O E) → AreRelated w true i j → Answers w h true j q → TellOne w view true i j r q

module _ {I A O E : Type 0} (w : Model I A) (errs : Errors I E) (view : View O) where
  -- a part that takes every input and answers so by a word
  abbrev pub stream_inner_of : Word I O E → Word I O E
  stream_inner_of h = stream_given_of w errs view (λ i. Unit {0}) (λ i r. StreamsAs w view h i r)

  module _ {R : Type 0} (rule_of : (R → Word I O E) → R → Word I O E) where
    -- a rule of a grammar, with at most that many rules in each other
    unfoldable pub stream_rule_of : ℕ → R → Word I O E
    stream_rule_of zero rule = too_deep_of errs
    stream_rule_of (suc depth) rule = rule_of (λ r. stream_inner_of (stream_rule_of depth r)) rule
