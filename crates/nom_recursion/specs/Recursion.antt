-- Grammars that contain themselves, to a depth.
use Rattle.std.specs.Prelude.{◌≡◌, ℕ, zero, suc, Bool}
use Rattle.std.proofs.Common.{refl}
use Rattle.nom_error.specs.declared.kind.ErrorKind.TheVariants as Kind
use Rattle.nom_internal.specs.Prelude.{Cause, ErrorKind, Errors, Fails, Meaning, Model, Outright, Stop, TooLarge, View, valued}
use Rattle.nom_internal.specs.Word.{Answers, Word, word}
use Rattle.nom_calls.specs.Words.{given_of}

-- of the two causes of a failure this one never is
abbrev pub NeverIsTooLarge : Cause → Type 0
NeverIsTooLarge Outright = ⊥
NeverIsTooLarge TooLarge = Unit {0}

-- the failure of a kind, at the start
abbrev pub failing_meaning : {I V E : Type 0} → Errors I E → ErrorKind → Meaning I V E
failing_meaning errs kind = record {
  Runs = Unit {0};
  IsSound = Unit {0};
  answers = λ s i o. o ≡ Stop (Fails Outright);
  blames = λ s i e. errs.of_kind i kind e;
  may_run_out = λ mode i. errs.grows;
  IsFrugal = λ mode. errs.grows → ⊥;
  Settles = Unit {0};
  NeverFails = NeverIsTooLarge;
}

module _ {I O E : Type 0} (errs : Errors I E) where
  -- what stands in the place of a rule that would be too deep
  pub too_deep_of : Word I O E
  too_deep_of = word (valued (failing_meaning errs Kind.TooLarge))

  pub too_deep_worded : too_deep_of ≡ word (valued (failing_meaning errs Kind.TooLarge))
  unfolding too_deep_of
  too_deep_worded = refl

module _ {I A O E : Type 0} (w : Model I A) (errs : Errors I E) (view : View O) (s : Bool) where
  -- what lies inside: a part that takes every input and answers by a word, in the mode
  abbrev pub inner_of : Word I O E → Word I O E
  inner_of h = given_of w errs view (λ i. Unit {0}) (λ i r. Answers w h s i r)

  module _ {R : Type 0} (rule_of : (R → Word I O E) → R → Word I O E) where
    -- a rule of a grammar, with at most that many rules in each other
    unfoldable pub recursive_rule_of : ℕ → R → Word I O E
    recursive_rule_of zero rule = too_deep_of errs
    recursive_rule_of (suc depth) rule = rule_of (λ r. inner_of (recursive_rule_of depth r)) rule

  -- a grammar of one rule, with at most that many layers in each other
  abbrev pub recursive_of : (Word I O E → Word I O E) → ℕ → Word I O E
  recursive_of layer_of depth = recursive_rule_of {R = Unit {0}} (λ inner _. layer_of (inner tt)) depth tt
