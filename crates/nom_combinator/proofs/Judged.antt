-- Lemmas on a part whose outcome becomes another.
use Rattle.std.proofs.Common.{◌≡◌, ℕ, Bool, true, false, Ok, Err, Option, Some, None, refl, sym, ◌∙◌, ap, subst, inl, inr}
use Rattle.nom_internal.specs.Prelude.{Needed, Incomplete, Error, Failure, PResult, Refuses, with_outputs, Built, Modes, modes, Model, InputLaws, IsSuffixOf}
use Rattle.nom_internal.specs.Prelude.{Slice, IsFirst, IsModelledBy, recognized_meaning, Outcome, Accept, Refuse, Stop, Fails, Needs, Outright, ShowsOutcome}
use Rattle.nom_internal.specs.Prelude.{RanOut, Shown, Meaning, ShowsMeaning, case_meaning, RunsOutBeside, Cause, Reason}
use Rattle.nom_error.specs.declared.answer.Err as Answer
use Rattle.nom_internal.proofs.Consumed.{rest_self, slice_before, recognized_err}
use Rattle.nom_internal.proofs.Shown.{both_built, accepts, built_error}
use Rattle.nom_internal.proofs.Cased.{here, passing_err, plain_err}
use Rattle.nom_combinator.specs.Verdicts.{complete_case, complete_meaning, WithSlice, consumed_meaning, verdict_case, cut_outcome, NeverCut}
use Rattle.nom_combinator.specs.Verdicts.{cut_meaning, opt_outcome, opt_meaning, OptOutput, Looks, peek_meaning, not_case, not_meaning}

-- what neither accepts nor refuses passes
module _ {I A P T O X E : Type 0} (w : Model I A) (becomes : Outcome P → Outcome T) (errors : Bool → Bool) (Never : (Cause → Type 0) → Cause → Type 0)
    (stops : (why : Reason) → Stop why ≡ becomes (Stop why))
    (IsOutput : P → O → Type 0) (IsResult : T → X → Type 0) (m : Meaning I P E) (mode : Modes) (i : I) where
  pub verdict_passes : (f k : Answer.Err E (Option E) Needed) → f ≡ k → ((x : Option E) → k ≡ Error x → ⊥) →
      ShowsMeaning w IsOutput m (modes mode.outputs (errors mode.errors) mode.streaming) i (Err f) →
      ShowsMeaning w IsResult (case_meaning (verdict_case becomes errors Never) m) mode i (Err k)
  verdict_passes f k q other h =
      passing_err w IsOutput IsResult (verdict_case becomes errors Never) m mode i
      (record {
        at_is = refl;
        refuses = λ b e. absurd (other b e);
        fails = λ cause. stops (Fails cause);
        undecided = λ n e d. stops (Needs d);
        blames_failure = λ _ e b. b;
      }) q h

-- a refusal that was shown, with its error where that is built
pub record Refusal {E : Type 0} (Answered : Type 0) (IsError : E → Type 0) (errors : Bool) (b : Option E) : Type 0 where
  pub answered : Answered
  pub error_is : Built errors IsError b

module _ {I A P O E : Type 0} (w : Model I A) (IsOutput : P → O → Type 0) (m : Meaning I P E) (mode : Modes) (i : I) (b : Option E) where
  refusal_of : (o : Outcome P) → m.answers mode.streaming i o → ShowsOutcome w IsOutput mode i (m.blames mode.streaming i) o (Err (Error b)) →
      Refusal (m.answers mode.streaming i Refuse) (m.blames mode.streaming i) mode.errors b
  refusal_of (Accept n v) a h = cc (h.4)
  refusal_of Refuse a h = let same : h.0 ≡ b =
      cc (h.2) in record { answered = a; error_is = subst (λ z. Built mode.errors (m.blames mode.streaming i) z) same h.1 }
  refusal_of (Stop (Fails cause)) a h = cc (h.2)
  refusal_of (Stop (Needs k)) a h = cc (h.2)

  shown_refusal : ShowsMeaning w IsOutput m mode i (Err (Error b)) → Refusal (m.answers mode.streaming i Refuse) (m.blames mode.streaming i) mode.errors b
  shown_refusal (RanOut e h) = cc (e)
  shown_refusal (Shown o a h) = refusal_of o a h

  pub refuses : (f : Answer.Err E (Option E) Needed) → f ≡ Error b → ShowsMeaning w IsOutput m mode i (Err f) →
      Refusal (m.answers mode.streaming i Refuse) (m.blames mode.streaming i) mode.errors b
  refuses f q h = shown_refusal (subst (λ y. ShowsMeaning w IsOutput m mode i (Err y)) q h)

-- a refusal that is final
module _ {I A P O E : Type 0} (w : Model I A) (IsOutput : P → O → Type 0) (m : Meaning I P E) (mode : Modes) (i : I) where
  abbrev CutShown : PResult I O E → Type 0
  CutShown = ShowsMeaning w IsOutput (cut_meaning m) mode i

  abbrev CutPart : PResult I O E → Type 0
  CutPart = ShowsMeaning w IsOutput m (modes mode.outputs true mode.streaming) i

  pub cut_passes : (f k : Answer.Err E (Option E) Needed) → f ≡ k → ((x : Option E) → k ≡ Error x → ⊥) → CutPart (Err f) → CutShown (Err k)
  cut_passes = verdict_passes w cut_outcome (λ _. true) NeverCut (λ why. refl) IsOutput IsOutput m mode i

  pub cut_ok : (p : I × Option O) → CutPart (Ok p) → CutShown (Ok p)
  cut_ok p h = let a = accepts h in Shown (Accept a.length a.tree) (here (Accept a.length a.tree) a.answered refl) (p.0, p.1, a.rest_is, a.built_is, refl)

  pub cut_refused : (f : Answer.Err E (Option E) Needed) (b : Option E) (e : E) → f ≡ Error b → b ≡ Some e → CutPart (Err f) → CutShown (Err (Failure e))
  cut_refused f b e q is h =
      let r = refuses w IsOutput m (modes mode.outputs true mode.streaming) i b f q h in
      let same : r.error_is.0 ≡ e = cc (r.error_is.1, is) in
      Shown (Stop (Fails Outright)) (here Refuse r.answered refl) (e, here Refuse r.answered (subst (λ z. m.blames mode.streaming i z) same r.error_is.2), refl)

-- an option that is built of what was built
module _ {P O : Type 0} (IsOutput : P → O → Type 0) where
  pub option_built : (b : Bool) (v : P) (x : Option O) (y : Option (Option O)) → Built b (IsOutput v) x → Built b (λ z. z ≡ x) y →
      Built b (OptOutput IsOutput (Some v)) y
  option_built true v x y h k = (k.0, k.1, (h.0, k.2 ∙ h.1, h.2))
  option_built false v x y h k = k

-- an option
module _ {I A P O E : Type 0} (w : Model I A) (l : InputLaws w) (IsOutput : P → O → Type 0) (m : Meaning I P E) (mode : Modes) (i : I) where
  abbrev OptShown : PResult I (Option O) E → Type 0
  OptShown = ShowsMeaning w (OptOutput IsOutput) (opt_meaning m) mode i

  abbrev OptPart : PResult I O E → Type 0
  OptPart = ShowsMeaning w IsOutput m (modes mode.outputs false mode.streaming) i

  pub opt_passes : (f k : Answer.Err E (Option E) Needed) → f ≡ k → ((x : Option E) → k ≡ Error x → ⊥) → OptPart (Err f) → OptShown (Err k)
  opt_passes = verdict_passes w opt_outcome (λ _. false) (λ Part. Part) (λ why. refl) IsOutput (OptOutput IsOutput) m mode i

  pub opt_ok : (j : I) (x : Option O) (y : Option (Option O)) → OptPart (Ok (j, x)) → Built mode.outputs (λ z. z ≡ x) y → OptShown (Ok (j, y))
  opt_ok j x y h k =
      let a = accepts h in
      Shown (Accept a.length (Some a.tree)) (here (Accept a.length a.tree) a.answered refl)
      (j, y, a.rest_is, option_built IsOutput mode.outputs a.tree x y a.built_is k, refl)

  pub opt_refused : w.IsKnown i → (f : Answer.Err E (Option E) Needed) (b : Option E) (y : Option (Option O)) → f ≡ Error b → OptPart (Err f) →
      Built mode.outputs (λ z. z ≡ None) y → OptShown (Ok (i, y))
  opt_refused known f b y q h k =
      let r = refuses w IsOutput m (modes mode.outputs false mode.streaming) i b f q h in
      Shown (Accept 0 None) (here Refuse r.answered refl) (i, y, rest_self w l i known, k, refl)

-- a look ahead
module _ {I A P O E : Type 0} (w : Model I A) (l : InputLaws w) (IsOutput : P → O → Type 0) (m : Meaning I P E) (mode : Modes) (i : I) where
  abbrev PeekShown : PResult I O E → Type 0
  PeekShown = ShowsMeaning w IsOutput (peek_meaning m) mode i

  pub peek_err : (f : Answer.Err E (Option E) Needed) (r : PResult I O E) →
      ShowsMeaning w IsOutput m mode i (Err f) → r ≡ Err f → PeekShown r
  peek_err f r h e = subst (λ z. PeekShown z) (sym e) (plain_err w IsOutput IsOutput (λ b. b) (λ i. Looks) m mode i f h)

  pub peek_ok : w.IsKnown i → (j : I) (x : Option O) → ShowsMeaning w IsOutput m mode i (Ok (j, x)) → PeekShown (Ok (i, x))
  peek_ok known j x h =
      let a = accepts h in
      Shown (Accept 0 a.tree) (here (Accept a.length a.tree) a.answered refl) (i, x, rest_self w l i known, a.built_is, refl)

-- a part that must refuse
module _ {I A P O E : Type 0} (w : Model I A) (l : InputLaws w) (IsOutput : P → O → Type 0) (Own : I → E → Type 0) (Grows : Type 0) (m : Meaning I P E)
    (mode : Modes) (i : I) where
  abbrev NotShown : PResult I (Unit {0}) E → Type 0
  NotShown = ShowsMeaning w (λ t o. o ≡ t) (not_meaning Own Grows m) mode i

  abbrev NotPart : PResult I O E → Type 0
  NotPart = ShowsMeaning w IsOutput m (modes false false mode.streaming) i

  pub not_passes : (f k : Answer.Err E (Option E) Needed) → f ≡ k → ((x : Option E) → k ≡ Error x → ⊥) → NotPart (Err f) → NotShown (Err k)
  not_passes f k q other h = passing_err w IsOutput (λ t o. o ≡ t)
      (not_case Own Grows) m mode i (record {
        at_is = refl;
        refuses = λ b e. absurd (other b e);
        fails = λ _. refl;
        undecided =
            λ n e d. refl;
        blames_failure = λ _ e b. inr (tt, b);
      }) q h

  pub not_refused : w.IsKnown i → (f : Answer.Err E (Option E) Needed) (b : Option E) (y : Option (Unit {0})) → f ≡ Error b → NotPart (Err f) →
      Built mode.outputs (λ z. z ≡ tt) y → NotShown (Ok (i, y))
  not_refused known f b y q h k =
      let r = refuses w IsOutput m (modes false false mode.streaming) i b f q h in
      Shown (Accept 0 tt) (here Refuse r.answered refl) (i, y, rest_self w l i known, k, refl)

  accepted_refusal : (n : ℕ) (v : P) → m.answers mode.streaming i (Accept n v) → (f : Answer.Err E (Option E) Needed) →
      Refuses (Own i) Grows mode.errors f → NotShown (Err f)
  accepted_refusal n v a f (inl h) = RanOut (ap Err h.0) (RunsOutBeside (here (Accept n v) a (tt, h.1, h.2)))
  accepted_refusal n v a f (inr h) =
      Shown Refuse (here (Accept n v) a refl) (h.0, built_error mode.errors _ _ h.0 (λ e g. here (Accept n v) a (inl (tt, g))) h.1, ap Err h.2)

  pub not_accepted : (p : I × Option O) (f : Answer.Err E (Option E) Needed) → NotPart (Ok p) → Refuses (Own i) Grows mode.errors f → NotShown (Err f)
  not_accepted p f h k = let a = accepts h in accepted_refusal a.length a.tree a.answered f k

-- a part that runs as on a complete input
module _ {I A P O E : Type 0} (w : Model I A) (IsOutput : P → O → Type 0) (Own : I → E → Type 0) (Grows : Type 0) (m : Meaning I P E) (mode : Modes)
    (i : I) where
  abbrev CompleteShown : PResult I O E → Type 0
  CompleteShown = ShowsMeaning w IsOutput (complete_meaning Own Grows m) mode i

  abbrev CompletePart : PResult I O E → Type 0
  CompletePart = ShowsMeaning w IsOutput m (modes mode.outputs mode.errors false) i

  pub complete_passes : (f k : Answer.Err E (Option E) Needed) → f ≡ k → ((x : Needed) → k ≡ Incomplete x → ⊥) → CompletePart (Err f) → CompleteShown (Err k)
  complete_passes f k q other h =
      passing_err w IsOutput IsOutput (complete_case Own Grows) m mode i
      (record {
        at_is = refl;
        refuses = λ b e. (refl, refl, λ z g. inr (tt, g));
        fails = λ _. refl;
        undecided = λ n e. absurd (other n e);
        blames_failure = λ _ e b. inr (tt, b);
      }) q h

  pub complete_ok : (p : I × Option O) → CompletePart (Ok p) → CompleteShown (Ok p)
  complete_ok p h = let a = accepts h in Shown (Accept a.length a.tree) (here (Accept a.length a.tree) a.answered refl) (p.0, p.1, a.rest_is, a.built_is, refl)

  wanted_refusal : (d : Option ℕ) → m.answers false i (Stop (Needs d)) → (r : Answer.Err E (Option E) Needed) → Refuses (Own i) Grows mode.errors r →
      CompleteShown (Err r)
  wanted_refusal d a r (inl h) = RanOut (ap Err h.0) (RunsOutBeside (here (Stop (Needs d)) a (tt, h.1, h.2)))
  wanted_refusal d a r (inr h) =
      Shown Refuse (here (Stop (Needs d)) a refl) (h.0, built_error mode.errors _ _ h.0 (λ e g. here (Stop (Needs d)) a (inl (tt, g))) h.1, ap Err h.2)

  wanted_of : (x : Needed) (o : Outcome P) → m.answers false i o →
      ShowsOutcome w IsOutput (modes mode.outputs mode.errors false) i (m.blames false i) o (Err (Incomplete x)) → (r : Answer.Err E (Option E) Needed) →
      Refuses (Own i) Grows mode.errors r → CompleteShown (Err r)
  wanted_of x (Accept n v) a h r g = absurd (cc (h.4))
  wanted_of x Refuse a h r g = absurd (cc (h.2))
  wanted_of x (Stop (Fails cause)) a h r g = absurd (cc (h.2))
  wanted_of x (Stop (Needs d)) a h r g = wanted_refusal d a r g

  wanted : (x : Needed) → CompletePart (Err (Incomplete x)) → (r : Answer.Err E (Option E) Needed) → Refuses (Own i) Grows mode.errors r → CompleteShown (Err r)
  wanted x (RanOut e h) r g = absurd (cc (e))
  wanted x (Shown o a h) r g = wanted_of x o a h r g

  pub complete_wanted : (f : Answer.Err E (Option E) Needed) (x : Needed) → f ≡ Incomplete x → CompletePart (Err f) →
      (r : Answer.Err E (Option E) Needed) → Refuses (Own i) Grows mode.errors r → CompleteShown (Err r)
  complete_wanted f x q h r g = wanted x (subst (λ y. CompletePart (Err y)) q h) r g

-- what a part consumes
module _ {I A P O E : Type 0} (w : Model I A) (IsOutput : P → O → Type 0) (m : Meaning I P E) (mode : Modes) (i : I) where
  pub recognize_err : (f : Answer.Err E (Option E) Needed) (r : PResult I I E) →
      ShowsMeaning w IsOutput m (with_outputs false mode) i (Err f) → r ≡ Err f → ShowsMeaning w (IsModelledBy w) (recognized_meaning w m) mode i r
  recognize_err f r h e = subst (λ z. ShowsMeaning w (IsModelledBy w) (recognized_meaning w m) mode i z) (sym e) (recognized_err w IsOutput m mode i f h)

  pub has_rest : (j : I) (x : Option O) → ShowsMeaning w IsOutput m mode i (Ok (j, x)) → (n : ℕ) × IsSuffixOf w i n j
  has_rest j x h = let a = accepts h in (a.length, a.rest_is)

  abbrev ConsumedShown : PResult I (I × O) E → Type 0
  ConsumedShown = ShowsMeaning w (λ t o. IsModelledBy w t.0 o.0 × IsOutput t.1 o.1) (consumed_meaning w m) mode i

  pub consumed_err : (f : Answer.Err E (Option E) Needed) (r : PResult I (I × O) E) →
      ShowsMeaning w IsOutput m mode i (Err f) → r ≡ Err f → ConsumedShown r
  consumed_err f r h e = subst (λ z. ConsumedShown z) (sym e)
      (plain_err w IsOutput (λ t o. IsModelledBy w t.0 o.0 × IsOutput t.1 o.1) (λ b. b) (λ i. WithSlice w i) m mode i f h)

  pub consumed_ok : (j : I) (x : Option O) (b : Option I) (y : Option (I × O)) → ShowsMeaning w IsOutput m mode i (Ok (j, x)) →
      ((n : ℕ) (t : Slice w) → IsSuffixOf w i n j → IsFirst w i n t → Built mode.outputs (IsModelledBy w t) b) →
      ((a : I) (c : O) → b ≡ Some a → x ≡ Some c → y ≡ Some (a, c)) → (b ≡ None → y ≡ None) → ConsumedShown (Ok (j, y))
  consumed_ok j x b y h f both none =
      let a = accepts h in
      let t = slice_before a.rest_is in
      Shown (Accept a.length (t.0, a.tree)) (here (Accept a.length a.tree) a.answered (t.0, t.1, refl))
      (j, y, a.rest_is, both_built (IsModelledBy w t.0) (IsOutput a.tree) mode.outputs b x y (f a.length t.0 a.rest_is t.1) a.built_is both none, refl)
