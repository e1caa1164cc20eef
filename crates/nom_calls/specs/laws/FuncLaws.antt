-- The laws of functions as parsers.
use Rattle.std.specs.Prelude.{◌≡◌, ℕ, Bool, true, false, ◌++◌, Ok, Err}
use Rattle.std.proofs.Common.{sym, ◌∙◌, ap, subst, inl, inr}
use Rattle.nom_internal.specs.Prelude.{IResult, Incomplete, Error, Failure, OutOfMemory, Errors, Model, IsBoundary, IsSame, Related, same_then, same_sym}
use Rattle.nom_internal.specs.Prelude.{View, Outcome, Cause, Accept, Stop, Fails, Outright, TooLarge, IsLawful, IsSteady, Agree, Keeps}
use Rattle.nom_calls.specs.Func.{AreRelated, TakenAs, TellOne, FuncOutcome, FuncAnswers, FuncNeverFails, NeverFailsItself, IsParser, IsStreamParser}
use Rattle.nom_calls.specs.Func.{TakesAll, func_meaning}

module _ {I A : Type 0} (w : Model I A) where
  -- inputs whose models are those of related ones are related alike
  related_consistent : (longer : Bool) (x y u v : I) → IsSame w u x → IsSame w v y → Related w longer x y → Related w longer u v
  related_consistent true x y u v p q r = record {
    more = r.more;
    added = r.added;
    whole = q.elements_are ∙ (r.whole ∙ ap (λ xs. xs ++ r.more) (sym p.elements_are));
    mark_is = q.mark_is ∙ (r.mark_is ∙ sym p.mark_is);
  }
  related_consistent false x y u v p q r = same_then w u x v p (same_then w x y v r (same_sym w v y q))

  place_consistent : (x y : I) (n : ℕ) → IsSame w x y → IsBoundary w x n → IsBoundary w y n
  place_consistent x y n r p = record { front = p.front; rest = p.rest; whole = sym r.elements_are ∙ p.whole; length_is = p.length_is }

  module _ {O E : Type 0} (view : View O) where
    accepts_within : (i : I) (r : IResult I O E) (n : ℕ) (t : view.Value) → TakenAs w view i r (Accept n t) → IsBoundary w i n
    accepts_within i (Ok (j, v)) n t (inl h) = let same : h.0 ≡ n = cc (h.2) in subst (IsBoundary w i) same (h.1).place
    accepts_within i (Ok (j, v)) n t (inr h) = cc (h.1)
    accepts_within i (Err (Incomplete k)) n t h = cc
    accepts_within i (Err (Error e)) n t h = cc
    accepts_within i (Err (Failure e)) n t h = cc
    accepts_within i (Err OutOfMemory) n t h = absurd h

    never_too_large : (i : I) (r : IResult I O E) → TakenAs w view i r (Stop (Fails TooLarge)) → ⊥
    never_too_large i (Ok (j, v)) (inl h) = cc (h.2)
    never_too_large i (Ok (j, v)) (inr h) = cc (h.1)
    never_too_large i (Err (Incomplete k)) h = cc
    never_too_large i (Err (Error e)) h = cc
    never_too_large i (Err (Failure e)) h = cc
    never_too_large i (Err OutOfMemory) h = h

    -- what answers that are taken as one outcome are taken as
    told_one : (longer : Bool) (i j : I) (r q : IResult I O E) → TellOne w view longer i j r q → (o p : Outcome view.Value) →
        TakenAs w view i r o → Keeps longer o → TakenAs w view j q p → o ≡ p
    unfolding TellOne
    told_one longer i j r q h = h

    module _ (Gives : I → IResult I O E → Type 0) where
      fails_by_answer : (i : I) (r : IResult I O E) → w.IsKnown i → NeverFailsItself w Gives → Gives i r →
          TakenAs w view i r (Stop (Fails Outright)) → ⊥
      fails_by_answer i (Ok (j, v)) k f g (inl h) = cc (h.2)
      fails_by_answer i (Ok (j, v)) k f g (inr h) = f.rests i j v k g h.0
      fails_by_answer i (Err (Incomplete n)) k f g h = cc
      fails_by_answer i (Err (Error e)) k f g h = cc
      fails_by_answer i (Err (Failure e)) k f g h = f.no_failure i e k g
      fails_by_answer i (Err OutOfMemory) k f g h = h

      never_fails : (cause : Cause) → FuncNeverFails w Gives cause → (i : I) → FuncAnswers w view Gives i (Stop (Fails cause)) → ⊥
      never_fails TooLarge h i a = never_too_large a.at a.outcome.answer a.outcome.told
      never_fails Outright h i a = fails_by_answer a.at a.outcome.answer a.known h a.outcome.given a.outcome.told

      -- what the function's outcomes at an input keep, those at inputs of its model keep
      agrees_consistent : (longer : Bool) → Agree w longer (FuncOutcome w view Gives) (FuncOutcome w view Gives) →
          Agree w longer (FuncAnswers w view Gives) (FuncAnswers w view Gives)
      agrees_consistent longer f x y o p kx ky r a k b = f a.at b.at o p a.known b.known (related_consistent longer x y a.at b.at a.consistent b.consistent r)
          a.outcome k b.outcome

      consistent : (x y : I) (o : Outcome view.Value) → IsSame w x y → FuncAnswers w view Gives x o → FuncAnswers w view Gives y o
      consistent x y o r a = record { at = a.at; known = a.known; consistent = same_then w a.at x y a.consistent r; outcome = a.outcome }

      lawful_under : (errs : Errors I E) (Runs IsSound : Type 0) → Agree w false (FuncOutcome w view Gives) (FuncOutcome w view Gives) →
          IsLawful w (func_meaning w view Gives errs Runs IsSound)
      lawful_under errs Runs IsSound one = record {
        within = λ s i n t h a. place_consistent a.at i n a.consistent (accepts_within a.at a.outcome.answer n t a.outcome.told);
        one_outcome = λ s. agrees_consistent false one;
        consistent = λ s x y o kx ky r a k. consistent x y o r a;
        frugal = λ mode i h f g. f i h g;
        settles = λ t x y o kx ky r a k. consistent x y o r a;
        blames_consistent = λ t s i o e h a b d z. z;
        never_fails = λ cause h s i k a. never_fails cause h i a;
      }

      -- the outcomes of answers that are taken as one
      pub agrees : (longer : Bool) → ((i j : I) (r q : IResult I O E) → AreRelated w longer i j →
          Gives i r → Gives j q → TellOne w view longer i j r q) → Agree w longer (FuncOutcome w view Gives) (FuncOutcome w view Gives)
      agrees longer f x y o p kx ky r a k b =
          let related = f x y a.answer b.answer (record { from_known = kx; to_known = ky; related = r }) a.given b.given in
          told_one longer x y a.answer b.answer related o p a.told k b.told

      module _ (errs : Errors I E) (Takes : I → Type 0) where
        pub func_lawful : (let IsSound : Type 0 = IsParser w view Gives in IsSound →
            IsLawful w (func_meaning w view Gives errs (TakesAll w Takes) IsSound))
        func_lawful p = lawful_under errs (TakesAll w Takes) (IsParser w view Gives) (agrees false p.consistent)

        pub stream_func_lawful : (let IsSound : Type 0 = IsStreamParser w view Gives in IsSound →
            IsLawful w (func_meaning w view Gives errs (TakesAll w Takes) IsSound))
        stream_func_lawful p = lawful_under errs (TakesAll w Takes) (IsStreamParser w view Gives) (agrees false p.parser.consistent)

        pub stream_func_steady : (let IsSound : Type 0 = IsStreamParser w view Gives in IsSound →
            IsSteady w (func_meaning w view Gives errs (TakesAll w Takes) IsSound))
        stream_func_steady p = record { stays = agrees_consistent true (agrees true p.stays) }
