-- Lemmas on the answers on an input that grows.
use Rattle.std.proofs.Common.{◌≡◌, ℕ, ◌-◌, ◌<◌, ◌++◌, true, false, List, length, slice_index, Ok, Err, Option, sym, ◌∙◌, ap, subst, refl}
use Rattle.std.proofs.Common.{arith, append_assoc, ◌⊎◌, inl, inr}
use Rattle.nom_internal.specs.Prelude.{Needed, Incomplete, OutOfMemory, IResult, size_of, AsksForMore, HasRests, WithRest, Model, InputLaws, IsBoundary}
use Rattle.nom_internal.specs.Prelude.{Grammar, Parses}
use Rattle.nom_internal.specs.Prelude.{IsPrefixOf, IsSuffixOf, input_len, same_self, same_front, rest_related, View, IsPinned, Outcome, Accept, Refuse, Stop}
use Rattle.nom_internal.specs.Prelude.{Fails, Needs, Outright, TooLarge, ParsesOutcome, ParsesAnswer, IsDecided, ParseRanOut, Parsed, Meaning, IsLawful}
use Rattle.nom_internal.specs.Prelude.{IsSteady}
use Rattle.nom_internal.specs.Prelude.{ParsesMeaning}
use Rattle.nom_internal.specs.Promises.{IsOfWhole}
use Rattle.nom_internal.proofs.Consumed.{before_length}
use Rattle.nom_calls.specs.Growing.{Waits, AnswersOn, IsGrown, AgreesWithWhole}
use Rattle.nom_calls.specs.Growing.IsBeginning.{AtCut, AtEnd}
use Rattle.nom_calls.specs.Growing.AnswersOn.{RanOutOn, ShownOn}

-- the place in the whole where a rest in a beginning starts
pub rest_place_in : {I A : Type 0} {w : Model I A} {x j : I} {n a b : ℕ} {whole : I} {cut : ℕ} → IsSuffixOf w x n j → a ≡ input_len w x → b ≡ input_len w j →
    IsPrefixOf w whole cut x → IsBoundary w whole (a - b)
rest_place_in {w = w} {j = j} p e f q = record {
  front = p.front;
  rest = w.elements j ++ q.rest;
  whole = q.whole ∙ (ap (λ xs. xs ++ q.rest) p.whole ∙ append_assoc p.front (w.elements j) q.rest);
  length_is = p.length_is ∙ before_length p e f;
}

-- the acceptance on a beginning, with the rest of the whole at its place
pub accepts_in_whole : {I A O E : Type 0} {w : Model I A} {x whole rest k : I} {output : O} {a b : ℕ} {r : IResult I O E} →
    r ≡ Ok (rest, output) → a ≡ input_len w x → b ≡ input_len w rest → IsSuffixOf w whole (a - b) k →
    WithRest (IsSuffixOf w x) (IsSuffixOf w whole) r (Ok (k, output))
accepts_in_whole {I = I} {O = O} {w = w} {x = x} {whole = whole} {rest = rest} {k = k} {output = output} was e f q = record {
  accepts = λ j v n h p.
      let same : ◌≡◌ {A = I × O} (rest, output) (j, v) = cc (was, h) in
      let here : IsSuffixOf w x n rest = subst (λ i. IsSuffixOf w x n i) (sym (ap (λ t. t.0) same)) p in
      (k, subst (λ t. IsSuffixOf w whole t k) (sym (before_length here e f)) q, ap (λ u. Ok (k, u)) (ap (λ t. t.1) same));
  else_same = λ u h. cc (was, h);
}

decided_from : {V : Type 0} (o : Outcome V) → (o ≡ Stop (Fails TooLarge) → ⊥) → ((k : Option ℕ) → o ≡ Stop (Needs k) → ⊥) → IsDecided o
decided_from (Accept n v) h k = tt
decided_from Refuse h k = tt
decided_from (Stop (Fails Outright)) h k = tt
decided_from (Stop (Fails TooLarge)) h k = h refl
decided_from (Stop (Needs n)) h k = k n refl

module _ {I A V O E : Type 0} (w : Model I A) (IsOutput : V → O → Type 0) (IsError : E → Type 0) (x : I) where
  undecided_of : (k : Needed) (o : Outcome V) → ParsesOutcome w IsOutput x IsError o (Err (Incomplete k)) → o ≡ Stop (Needs (size_of k))
  undecided_of k (Accept n v) s = cc (s.4)
  undecided_of k Refuse s = cc (s.2)
  undecided_of k (Stop (Fails cause)) s = cc (s.2)
  undecided_of k (Stop (Needs n)) s =
      let same : k ≡ s.0 = cc (s.2) in
      ap (λ d. Stop (Needs d)) (sym s.1 ∙ ap size_of (sym same))

  -- what is shown on a beginning is shown on the whole, with the rest there
  shown_in_whole : (whole : I) (o : Outcome V) (r r' : IResult I O E) → WithRest (IsSuffixOf w x) (IsSuffixOf w whole) r r' →
      ParsesOutcome w IsOutput x IsError o r → ParsesOutcome w IsOutput whole IsError o r'
  shown_in_whole whole (Accept n v) r r' t s = let k = t.accepts s.0 s.1 n s.4 s.2 in (k.0, s.1, k.1, s.3, k.2)
  shown_in_whole whole Refuse r r' t s = (s.0, s.1, t.else_same _ s.2)
  shown_in_whole whole (Stop (Fails cause)) r r' t s = (s.0, s.1, t.else_same _ s.2)
  shown_in_whole whole (Stop (Needs k)) r r' t s = (s.0, s.1, t.else_same _ s.2)

  rest_of : (o : Outcome V) (j : I) (v : O) → ParsesOutcome {E = E} w IsOutput x IsError o (Ok (j, v)) → (n : ℕ) × IsSuffixOf w x n j
  rest_of (Accept n u) j v s =
      let same : ◌≡◌ {A = I × O} (j, v) (s.0, s.1) = cc (s.4) in
      (n, subst (λ i. IsSuffixOf w x n i) (sym (ap (λ t. t.0) same)) s.2)
  rest_of Refuse j v s = cc (s.2)
  rest_of (Stop (Fails cause)) j v s = cc (s.2)
  rest_of (Stop (Needs k)) j v s = cc (s.2)

  rest_answered : (Answers : Outcome V → Type 0) (RunsOut : Type 0) (j : I) (v : O) → ParsesAnswer w IsOutput x Answers IsError RunsOut (Ok (j, v)) →
      (n : ℕ) × IsSuffixOf w x n j
  rest_answered Answers RunsOut j v (ParseRanOut e h) = cc
  rest_answered Answers RunsOut j v (Parsed o a s) = rest_of o j v s

pub rest_shown : {I A V O E : Type 0} {w : Model I A} {IsOutput : V → O → Type 0} {IsError : E → Type 0} {x : I} {Answers : Outcome V → Type 0}
    {RunsOut : Type 0} {r : IResult I O E} → ParsesAnswer w IsOutput x Answers IsError RunsOut r →
    HasRests (λ j. (n : ℕ) × IsSuffixOf w x n j) r
rest_shown {w = w} {IsOutput = IsOutput} {IsError = IsError} {x = x} {Answers = Answers} {RunsOut = RunsOut} s j v e =
    rest_answered w IsOutput IsError x Answers RunsOut j v (subst (λ t. ParsesAnswer w IsOutput x Answers IsError RunsOut t) e s)

-- what is shown at one state is shown at an equal one
pub shown_along : {I A V O E State : Type 0} (w : Model I A) (grammar : State → Grammar I V O E) (x : I) (r : IResult I O E) (s t : State) →
    s ≡ t → Parses w (grammar s) true x r → Parses w (grammar t) true x r
shown_along w grammar x r s t e h = subst (λ u. Parses w (grammar u) true x r) e h

module _ {I A V O E : Type 0} (w : Model I A) (l : InputLaws w) (IsOutput : V → O → Type 0) (m : Meaning I V E) (laws : IsLawful w m) (whole : I) where
  waits_shown : (cut : ℕ) (x : I) (k : Needed) → IsPrefixOf w whole cut x → ParsesMeaning w IsOutput m true x (Err (Incomplete k)) → Waits w m whole cut
  waits_shown cut x k p (ParseRanOut e h) = cc
  waits_shown cut x k p (Parsed o a s) =
      let b = subst (λ z. m.answers true x z) (undecided_of w IsOutput (m.blames true x) x k o s) a in
      record {
        beginning = x;
        begins = p;
        needed = size_of k;
        answered = b;
        only = λ y z q c. laws.one_outcome true x y (Stop (Needs (size_of k))) z p.known q.known (same_front w l whole cut x y p q) b tt c;
      }

  pub waits : (cut : ℕ) (x : I) (r : IResult I O E) → IsPrefixOf w whole cut x → AsksForMore r →
      ParsesMeaning w IsOutput m true x r → Waits w m whole cut
  waits cut x r p e s = waits_shown cut x e.0 p (subst (λ t. ParsesMeaning w IsOutput m true x t) e.1 s)

module _ {I A V O E : Type 0} (w : Model I A) (IsOutput : V → O → Type 0) (m : Meaning I V E) (laws : IsLawful w m) (whole : I) (known : w.IsKnown whole)
    (cuts : List ℕ) (index : ℕ) (before : (k : ℕ) → k < index → Waits w m whole (slice_index cuts k)) where
  module _ (more : (xs : List A) → w.IsMore xs) (steady : IsSteady w m) (inside : index < length cuts) (x : I)
      (p : IsPrefixOf w whole (slice_index cuts index) x) (r r' : IResult I O E) (decided : AsksForMore r → ⊥)
      (rest : WithRest (IsSuffixOf w x) (IsSuffixOf w whole) r r') where
    asks : (k : Option ℕ) → ParsesOutcome w IsOutput x (m.blames true x) (Stop (Needs k)) r → AsksForMore r
    asks k s = (s.0, s.2)

    not_undecided : (o : Outcome V) → ParsesOutcome w IsOutput x (m.blames true x) o r → (k : Option ℕ) → o ≡ Stop (Needs k) → ⊥
    not_undecided o s k e = decided (asks k (subst (λ z. ParsesOutcome w IsOutput x (m.blames true x) z r) e s))

    answer_at : ParsesMeaning w IsOutput m true x r → AnswersOn w IsOutput m whole cuts index x r'
    answer_at (ParseRanOut e h) = RanOutOn (rest.else_same OutOfMemory e) h
    answer_at (Parsed o a s) = ShownOn (record {
      outcome = o;
      answered = a;
      decided = λ _. not_undecided o s;
      shown = shown_in_whole w IsOutput (m.blames true x) x whole o r r' rest s;
      stays = λ t z b. steady.stays x whole o z p.known known (record { more = p.rest; added = more p.rest; whole = p.whole; mark_is = sym p.mark_is }) a
          (decided_from o t (not_undecided o s)) b;
    })

    pub grown_at : ParsesMeaning w IsOutput m true x r → IsGrown w IsOutput m whole cuts index r'
    grown_at s = record {
      in_range = omega (arith, inside);
      waited = before;
      beginning = x;
      begins = AtCut inside p;
      answer = answer_at s;
    }

  module _ (r : IResult I O E) (at_end : index ≡ length cuts) where
    answer_whole : ParsesMeaning w IsOutput m true whole r → AnswersOn w IsOutput m whole cuts index whole r
    answer_whole (ParseRanOut e h) = RanOutOn e h
    answer_whole (Parsed o a s) = ShownOn (record {
      outcome = o;
      answered = a;
      decided = λ b. absurd (omega (arith, b, at_end));
      shown = s;
      stays = λ t z b. laws.one_outcome true whole whole o z known known (same_self w whole) a tt b;
    })

    pub grown_whole : ParsesMeaning w IsOutput m true whole r → IsGrown w IsOutput m whole cuts index r
    grown_whole s = record {
      in_range = omega (arith, at_end);
      waited = before;
      beginning = whole;
      begins = AtEnd at_end refl;
      answer = answer_whole s;
    }

is_too_large : {V : Type 0} (o : Outcome V) → (o ≡ Stop (Fails TooLarge)) ⊎ (o ≡ Stop (Fails TooLarge) → ⊥)
is_too_large (Accept n v) = inr (λ e. cc)
is_too_large Refuse = inr (λ e. cc)
is_too_large (Stop (Fails Outright)) = inr (λ e. cc)
is_too_large (Stop (Fails TooLarge)) = inl refl
is_too_large (Stop (Needs k)) = inr (λ e. cc)

-- one `parse` of the whole, beside the answer on a beginning with the rest of the whole
module _ {I A V O E : Type 0} (w : Model I A) (l : InputLaws w) (view : View O) (Pins : Type 0) (IsOutput : V → O → Type 0)
    (pinned : Pins → IsPinned view IsOutput) (m : Meaning I V E) (whole beginning : I) where
  of_outcome : (o : Outcome V) (r s : IResult I O E) → m.answers true beginning o →
      ParsesOutcome w IsOutput whole (m.blames true beginning) o r → (o ≡ Stop (Fails TooLarge) → ⊥) → ParsesOutcome w IsOutput whole (m.blames true whole)
      o s →
      IsOfWhole w view Pins IsOutput m beginning r s
  of_outcome (Accept n v) r s a h f t =
      let answer : IsOfWhole w view Pins IsOutput m beginning (Ok (h.0, h.1)) s =
      (t.0, t.1, rest_related w l false whole whole n h.0 t.0 (same_self w whole) h.2 t.2, (λ p. (pinned p).one_view v h.1 t.1 h.3 t.3), t.4) in
      subst (λ z. IsOfWhole w view Pins IsOutput m beginning z s) (sym h.4) answer
  of_outcome Refuse r s a h f t = subst (λ z. IsOfWhole w view Pins IsOutput m beginning z s) (sym h.2) (t.0, t.2)
  of_outcome (Stop (Fails Outright)) r s a h f t = subst (λ z. IsOfWhole w view Pins IsOutput m beginning z s) (sym h.2) (inr (t.0, t.2))
  of_outcome (Stop (Fails TooLarge)) r s a h f t = absurd (f refl)
  of_outcome (Stop (Needs k)) r s a h f t = subst (λ z. IsOfWhole w view Pins IsOutput m beginning z s) (sym h.2) (t.0, t.1 ∙ sym h.1, t.2)

  large_failure : (r s : IResult I O E) → m.answers true beginning (Stop (Fails TooLarge)) →
      ParsesOutcome w IsOutput whole (m.blames true beginning) (Stop (Fails TooLarge)) r → IsOfWhole w view Pins IsOutput m beginning r s
  large_failure r s a h = subst (λ z. IsOfWhole w view Pins IsOutput m beginning z s) (sym h.2) (inl a)

  of_shown : (o p : Outcome V) (r s : IResult I O E) → m.answers true beginning o →
      ParsesOutcome w IsOutput whole (m.blames true beginning) o r → ((o ≡ Stop (Fails TooLarge) → ⊥) → o ≡ p) → ParsesOutcome w IsOutput whole
      (m.blames true whole) p s →
      IsOfWhole w view Pins IsOutput m beginning r s
  of_shown o p r s a h f t = elim (is_too_large o) as (λ _. IsOfWhole w view Pins IsOutput m beginning r s) [
    | inl e ↦ large_failure r s (subst (λ z. m.answers true beginning z) e a) (subst (λ z. ParsesOutcome w IsOutput whole (m.blames true beginning) z r) e h)
    | inr other ↦ of_outcome o r s a h other (subst (λ z. ParsesOutcome w IsOutput whole (m.blames true whole) z s) (sym (f other)) t)
  ]

  module _ (cuts : List ℕ) (index : ℕ) (r s : IResult I O E) where
    of_answer : AnswersOn w IsOutput m whole cuts index beginning r → ParsesMeaning w IsOutput m true whole s → (s ≡ Err OutOfMemory) ⊎
        IsOfWhole w view Pins IsOutput m beginning r s
    of_answer (RanOutOn e h) t = inr (subst (λ z. IsOfWhole w view Pins IsOutput m beginning z s) (sym e) tt)
    of_answer (ShownOn a) (ParseRanOut e h) = inl e
    of_answer (ShownOn a) (Parsed p b t) = inr (of_shown a.outcome p r s a.answered a.shown (λ f. a.stays f p b) t)

pub agrees : {I A V O E : Type 0} (w : Model I A) (l : InputLaws w) (view : View O) (Pins : Type 0) (IsOutput : V → O → Type 0) (m : Meaning I V E)
    (whole : I) (cuts : List ℕ) (index : ℕ) (r : IResult I O E) → (Pins → IsPinned view IsOutput) →
    IsGrown w IsOutput m whole cuts index r → AgreesWithWhole w view Pins IsOutput m whole cuts index r
agrees w l view Pins IsOutput m whole cuts index r pinned g = record {
  beginning = g.beginning;
  begins = g.begins;
  of_whole = λ s. of_answer w l view Pins IsOutput pinned m whole g.beginning cuts index r s g.answer;
}
