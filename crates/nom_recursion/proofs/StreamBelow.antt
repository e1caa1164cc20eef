-- One rule of a grammar that contains itself, by those below, as a stream parser.
use Rattle.std.proofs.Common.{◌≡◌, ℕ, ◌-◌, ◌∙◌, zero, suc, Bool, true, false, refl, ap, arith, subst, sym}
use Rattle.nom_error.specs.declared.kind.ErrorKind.TheVariants as Kind
use Rattle.nom_internal.specs.Prelude.{Accept, Errors, Fails, Grammar, IResult, Model, Needs, Outcome, Outright, Parsed, ParseRanOut, Refuse, Stop, View}
use Rattle.nom_internal.specs.Grammar.{Parses}
use Rattle.nom_internal.specs.Word.{Answers, Word, answers_by, parses_by, word}
use Rattle.nom_calls.specs.Func as Func
use Rattle.nom_calls.specs.Func.{IsStreamParser, StreamsBy, TakenAs, TellOne}
use Rattle.nom_calls.specs.Words.{stream_given_of}
use Rattle.nom_recursion.specs.Recursion.{failing_meaning, too_deep_of, too_deep_worded}
use Rattle.nom_recursion.specs.Streams.{StreamsAs, stream_inner_of, stream_rule_of}
use Rattle.nom_recursion.proofs.Below.{take_any}

module _ {I A O E : Type 0} (w : Model I A) (view : View O) where
  -- by the grammar of a word
  pub streams_as : {V : Type 0} {g : Grammar I V O E} {h : Word I O E} {i : I} {r : IResult I O E} → h ≡ word g →
      StreamsBy w view g.IsOutput g.meaning true i r → StreamsAs w view h i r
  unfolding Func.Answers
  streams_as same by = record {
    shown = answers_by w same by.answer.shown;
    consistent = λ j q related a. by.answer.consistent j q related (parses_by w same a);
    stays = λ j q related a. by.stays j q related (parses_by w same a);
  }

  -- a function that answers so is a stream parser
  pub streams_soundly : {h : Word I O E} {Gives : I → IResult I O E → Type 0} → ((i : I) (r : IResult I O E) → Gives i r → StreamsAs w view h i r) →
      IsStreamParser w view Gives
  streams_soundly f = record {
    parser = record { consistent = λ i j r q related a b. (f i r a).consistent j q related (f j q b).shown };
    stays = λ i j r q related a b. (f i r a).stays j q related (f j q b).shown;
  }

  module _ (errs : Errors I E) where
    -- what stands in the place of a rule that would be too deep is taken as a failure
    told_deep : (i : I) (r : IResult I O E) (o : Outcome view.Value) →
        Parses w (record { meaning = failing_meaning errs Kind.TooLarge; IsOutput = λ v x. x ≡ v }) true i r →
        TakenAs w view i r o → o ≡ Stop (Fails Outright)
    told_deep i r o (ParseRanOut e h) t = absurd (subst (λ x. TakenAs w view i x o) e t)
    told_deep i r o (Parsed (Accept n v) a p) t = cc (a)
    told_deep i r o (Parsed Refuse a p) t = cc (a)
    told_deep i r o (Parsed (Stop (Fails cause)) a p) t = subst (λ x. TakenAs w view i x o) p.2 t
    told_deep i r o (Parsed (Stop (Needs k)) a p) t = cc (a)

    deep_told : (i : I) (r : IResult I O E) (o : Outcome view.Value) → Answers w (too_deep_of errs) true i r → TakenAs w view i r o → o ≡ Stop (Fails Outright)
    deep_told i r o a t = told_deep i r o (parses_by w (too_deep_worded errs) a) t

    deep_one : (longer : Bool) (i j : I) (r q : IResult I O E) → Answers w (too_deep_of errs) true i r → Answers w (too_deep_of errs) true j q →
        TellOne w view longer i j r q
    unfolding TellOne
    deep_one longer i j r q a b = λ o p t k u. deep_told i r o a t ∙ sym (deep_told j q p b u)

    pub deep_streams : (i : I) (r : IResult I O E) → Answers w (too_deep_of errs) true i r → StreamsAs w view (too_deep_of errs) i r
    deep_streams i r a = record {
      shown = a;
      consistent = λ j q related b. deep_one false i j r q a b;
      stays = λ j q related b. deep_one true i j r q a b;
    }

    module _ {R : Type 0} (rule_of : (R → Word I O E) → R → Word I O E) where
      -- where no rule may lie inside
      pub stream_deepest : (d : ℕ) (q : R) (i : I) (r : IResult I O E) → d ≡ 0 → StreamsAs w view (too_deep_of errs) i r →
          StreamsAs w view (stream_rule_of w errs view rule_of d q) i r
      unfolding stream_rule_of
      stream_deepest d q i r e h = subst (λ k. StreamsAs w view (stream_rule_of w errs view rule_of k q) i r) (sym e) h

      below : (d : ℕ) (q : R) → (d ≡ 0 → ⊥) → stream_rule_of w errs view rule_of d q ≡ rule_of (λ p. stream_inner_of w errs view
          (stream_rule_of w errs view rule_of (d - 1) p)) q
      unfolding stream_rule_of
      below zero q h = absurd (h refl)
      below (suc d) q h =
          let e : suc d - 1 ≡ d = omega arith in ap (λ k. rule_of (λ p. stream_inner_of w errs view (stream_rule_of w errs view rule_of k p)) q) (sym e)

      -- and else by what functions inside answer, which take every input
      pub stream_below : (d : ℕ) (Takes : R → I → Type 0) (q : R) (i : I) (r : IResult I O E) → (d ≡ 0 → ⊥) →
          StreamsAs w view (rule_of (λ p. stream_given_of w errs view (Takes p) (StreamsAs w view (stream_rule_of w errs view rule_of (d - 1) p))) q) i r →
          ((p : R) (i : I) → IsProp (Takes p i)) → ((p : R) (i : I) → Takes p i) → StreamsAs w view (stream_rule_of w errs view rule_of d q) i r
      stream_below d Takes q i r n h one all =
          subst (λ k. StreamsAs w view k i r) (sym (below d q n))
          (subst (λ T. StreamsAs w view (rule_of (λ p. stream_given_of w errs view (T p) (StreamsAs w view (stream_rule_of w errs view rule_of (d - 1) p)))
          q) i r)
          (take_any Takes one all) h)
