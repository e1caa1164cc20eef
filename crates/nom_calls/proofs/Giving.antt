-- Lemmas on the items that calls of `next` give, one after another.
use Rattle.std.proofs.Common.{◌≡◌, ℕ, true, List, [], ◌∷◌, length, Ok, Err, Option, Some, None, refl, sym, ◌∙◌, ap, subst, inl, inr}
use Rattle.std.specs.Iterator.{Yields}
use Rattle.std.specs.List.{AllZip}
use Rattle.nom_internal.specs.Prelude.{IResult, Model, IsSuffixOf, Outcome, Accept, Refuse, Stop, ParsesOutcome, ParseRanOut, Parsed, Meaning}
use Rattle.nom_internal.specs.Prelude.{ParsesMeaning, Grammar}
use Rattle.nom_internal.specs.Prelude.{Fails, Needs}
use Rattle.nom_error.specs.declared.answer.Err.TheVariants as Variant
use Rattle.nom_calls.specs.Iterated.{AreItems, CanGive}
use Rattle.nom_calls.specs.Steps.{Moves, Gives, Next, GivesItems, EndsThere, StaysEnded, FinishesSo, IsFinish, has_ended, HoldsEnd, EndsHolding}
use Rattle.nom_calls.specs.Steps.{Finishes, FinishesThere}
use Rattle.nom_calls.specs.declared.items.State.{State}
use Rattle.nom_calls.specs.declared.items.State.TheVariants.{Running, Done, Failure, Incomplete, OutOfMemory}

-- an item that was given: its piece was accepted, and what is left is held
record IsItem {I A V O E : Type 0} (w : Model I A) (IsOutput : V → O → Type 0) (m : Meaning I V E) (i : I) (v : O) (j : I) (s : State E) : Type 0 where
  size : ℕ
  tree : V
  accepted : m.answers true i (Accept size tree)
  rest_is : IsSuffixOf w i size j
  output_is : IsOutput tree v
  runs : s ≡ Running

module _ {I A V O E : Type 0} (w : Model I A) (IsOutput : V → O → Type 0) (m : Meaning I V E) (i : I) where
  -- what an answer is, by what was given for it
  item_of_answer : (q : IResult I O E) (v : O) (j : I) (s : State E) → Moves i q (Some v) j s → (o : Outcome V) →
      m.answers true i o → ParsesOutcome w IsOutput i (m.blames true i) o q → IsItem w IsOutput m i v j s
  item_of_answer (Ok (k, u)) v j s g (Accept n t) a h =
      let both : ◌≡◌ {A = I × O} (h.0, h.1) (k, u) = cc (h.4) in
      let value : h.1 ≡ v = ap (λ (z : I × O). z.1) both ∙ cc (g.0) in
      let place : h.0 ≡ j = ap (λ (z : I × O). z.0) both ∙ sym g.1 in
      record {
        size = n;
        tree = t;
        accepted = a;
        rest_is = subst (λ z. IsSuffixOf w i n z) place h.2;
        output_is = subst (λ z. IsOutput t z) value h.3;
        runs =
            g.2;
      }
  item_of_answer (Ok (k, u)) v j s g Refuse a h = absurd (cc (h.2))
  item_of_answer (Ok (k, u)) v j s g (Stop (Fails cause)) a h = absurd (cc (h.2))
  item_of_answer (Ok (k, u)) v j s g (Stop (Needs d)) a h = absurd (cc (h.2))
  item_of_answer (Err (Variant.Error e)) v j s g o a h = absurd (cc (g.0))
  item_of_answer (Err (Variant.Failure e)) v j s g o a h = absurd (cc (g.0))
  item_of_answer (Err (Variant.Incomplete k)) v j s g o a h = absurd (cc (g.0))
  item_of_answer (Err Variant.OutOfMemory) v j s g o a h = absurd (cc (g.0))

  item_of : (q : IResult I O E) (v : O) (j : I) (s : State E) → Moves i q (Some v) j s → ParsesMeaning w IsOutput m true i q →
      IsItem w IsOutput m i v j s
  item_of q v j s g (ParseRanOut e h) = absurd (cc ((subst (λ z. Moves i z (Some v) j s) e g).0))
  item_of q v j s g (Parsed o a h) = item_of_answer q v j s g o a h

  given_item : (p : State E) (v : O) (j : I) (s : State E) → p ≡ Running → Gives w IsOutput m i p (Some v) j s → IsItem w IsOutput m i v j s
  given_item Running v j s e g = item_of g.0 v j s g.2 g.1
  given_item Done v j s e g = absurd (cc (e))
  given_item (Failure x) v j s e g = absurd (cc (e))
  given_item (Incomplete k) v j s e g = absurd (cc (e))
  given_item OutOfMemory v j s e g = absurd (cc (e))

  end_of_answer : (q : IResult I O E) (j : I) (s : State E) → Moves i q None j s → (o : Outcome V) → m.answers true i o →
      ParsesOutcome w IsOutput i (m.blames true i) o q → EndsHolding m i s × (j ≡ i)
  end_of_answer q j s g (Accept n t) a h = absurd (cc ((subst (λ z. Moves i z None j s) h.4 g).0))
  end_of_answer q j s g Refuse a h = let k = subst (λ z. Moves i z None j s) h.2 g in (inl (Refuse, a, k.2), k.1)
  end_of_answer q j s g (Stop (Fails cause)) a h = let k = subst (λ z. Moves i z None j s) h.2 g in (inl (Stop (Fails cause), a, (h.0, h.1, k.2)), k.1)
  end_of_answer q j s g (Stop (Needs d)) a h = let k = subst (λ z. Moves i z None j s) h.2 g in (inl (Stop (Needs d), a, (h.0, h.1, k.2)), k.1)

  end_of : (q : IResult I O E) (j : I) (s : State E) → Moves i q None j s → ParsesMeaning w IsOutput m true i q →
      EndsHolding m i s × (j ≡ i)
  end_of q j s g (ParseRanOut e h) = let k = subst (λ z. Moves i z None j s) e g in (inr (h, k.2), k.1)
  end_of q j s g (Parsed o a h) = end_of_answer q j s g o a h

  given_end : (p : State E) (j : I) (s : State E) → p ≡ Running → Gives w IsOutput m i p None j s → EndsHolding m i s × (j ≡ i)
  given_end Running j s e g = end_of g.0 j s g.2 g.1
  given_end Done j s e g = absurd (cc (e))
  given_end (Failure x) j s e g = absurd (cc (e))
  given_end (Incomplete k) j s e g = absurd (cc (e))
  given_end OutOfMemory j s e g = absurd (cc (e))

  -- what ended gives nothing
  nothing_moves : (q : IResult I O E) (j : I) (s : State E) → Moves i q None j s → s ≡ Running → ⊥
  nothing_moves (Ok (k, u)) j s g e = cc (g.0)
  nothing_moves (Err (Variant.Error x)) j s g e = cc (e, g.2)
  nothing_moves (Err (Variant.Failure x)) j s g e = cc (e, g.2)
  nothing_moves (Err (Variant.Incomplete k)) j s g e = cc (e, g.2)
  nothing_moves (Err Variant.OutOfMemory) j s g e = cc (e, g.2)

  ended_holds : (p : State E) (j : I) (s : State E) → Gives w IsOutput m i p None j s → s ≡ Running → ⊥
  ended_holds Running j s g e = nothing_moves g.0 j s g.2 e
  ended_holds Done j s g e = cc (e, g.2)
  ended_holds (Failure x) j s g e = cc (e, g.2)
  ended_holds (Incomplete k) j s g e = cc (e, g.2)
  ended_holds OutOfMemory j s g e = cc (e, g.2)

  ended_gives : (p : State E) (r : Option O) (j : I) (s : State E) → (p ≡ Running → ⊥) → Gives w IsOutput m i p r j s → (r ≡ None) × (j ≡ i) × (s ≡ p)
  ended_gives Running r j s e g = absurd (e refl)
  ended_gives Done r j s e g = g
  ended_gives (Failure x) r j s e g = g
  ended_gives (Incomplete k) r j s e g = g
  ended_gives OutOfMemory r j s e g = g

-- what `finish` answers of what is held
module _ {I V E : Type 0} (m : Meaning I V E) (i : I) where
  ended_finishes : (o : Outcome V) (s : State E) (r : IResult I (Unit {0}) E) → HoldsEnd m i o s → IsFinish i s r → Finishes m i o r
  ended_finishes (Accept n v) s r h f = absurd h
  ended_finishes Refuse s r h f = subst (λ z. IsFinish i z r) h f
  ended_finishes (Stop (Fails cause)) s r h f = (h.0, h.1, subst (λ z. IsFinish i z r) h.2 f)
  ended_finishes (Stop (Needs k)) s r h f = (h.0, h.1, subst (λ z. IsFinish i z r) h.2 f)

  finishes_there : (s : State E) (r : IResult I (Unit {0}) E) → EndsHolding m i s → IsFinish i s r → FinishesThere m i r
  finishes_there s r (inl h) f = inl (h.0, h.1, ended_finishes h.0 s r h.2 f)
  finishes_there s r (inr h) f = inr (h.0, subst (λ z. IsFinish i z r) h.1 f)

module _ {X S I A V O E : Type 0} (w : Model I A) (grammar : S → Grammar I V O E) (state : X → S) (place : X → I)
    (held : X → State E) where
  abbrev Steps : X → Option O → X → Type 0
  Steps = Next w grammar state place held

  -- after items it runs on, with the parser's state
  pub still_runs : (vs : List O) (s t : X) → held s ≡ Running → Yields Steps s vs t → (held t ≡ Running) × (state t ≡ state s)
  still_runs [] s t e y = (subst (λ z. held z ≡ Running) y e, ap state (sym y))
  still_runs (v ∷ vs) s t e y =
      let step : Steps s (Some v) y.0 = y.1 in
      let item = given_item w (grammar (state s)).IsOutput (grammar (state s)).meaning (place s) (held s) v (place y.0) (held y.0) e step.gives in
      let others = still_runs vs y.0 t item.runs y.2 in
      (others.0, others.1 ∙ step.kept)

  gives_running : (s : X) (vs : List O) (t : X) → held s ≡ Running → Yields Steps s vs t → (ts : List V) × AllZip (grammar (state s)).IsOutput ts vs ×
      AreItems w ((grammar (state s)).meaning.answers true) (length vs) (place s) ts
  gives_running s [] t e y = ([], tt, refl)
  gives_running s (v ∷ vs) t e y =
      let step : Steps s (Some v) y.0 = y.1 in
      let item = given_item w (grammar (state s)).IsOutput (grammar (state s)).meaning (place s) (held s) v (place y.0) (held y.0) e step.gives in
      let others = gives_running y.0 vs t item.runs y.2 in (
        item.tree ∷ others.0,
        (item.output_is, subst (λ z. AllZip (grammar z).IsOutput others.0 vs) step.kept others.1),
        (
          item.size,
          place y.0,
          item.accepted,
          item.rest_is,
          subst (λ z. AreItems w ((grammar z).meaning.answers true) (length vs) (place y.0) others.0)
              step.kept others.2,
        ),
      )

  -- one that ended gives no items
  gives_none : (s : X) (vs : List O) (t : X) → (held s ≡ Running → ⊥) → Yields Steps s vs t → vs ≡ []
  gives_none s [] t e y = refl
  gives_none s (v ∷ vs) t e y =
      let step : Steps s (Some v) y.0 = y.1 in
      absurd (cc ((ended_gives w (grammar (state s)).IsOutput (grammar (state s)).meaning (place s) (held s) (Some v) (place y.0) (held y.0) e step.gives).0))

  gives_by : (s : X) (h : State E) → held s ≡ h → (vs : List O) (t : X) → Yields Steps s vs t → (ts : List V) × AllZip (grammar (state s)).IsOutput ts vs ×
      CanGive w ((grammar (state s)).meaning.answers true) (has_ended h) (length vs) (place s) ts
  gives_by s Running e vs t y = gives_running s vs t e y
  gives_by s Done e vs t y = ([], subst (λ z. AllZip (grammar (state s)).IsOutput [] z) (sym (gives_none s vs t (λ r. cc (e, r)) y)) tt, refl)
  gives_by s (Failure x) e vs t y = ([], subst (λ z. AllZip (grammar (state s)).IsOutput [] z) (sym (gives_none s vs t (λ r. cc (e, r)) y)) tt, refl)
  gives_by s (Incomplete k) e vs t y = ([], subst (λ z. AllZip (grammar (state s)).IsOutput [] z) (sym (gives_none s vs t (λ r. cc (e, r)) y)) tt, refl)
  gives_by s OutOfMemory e vs t y = ([], subst (λ z. AllZip (grammar (state s)).IsOutput [] z) (sym (gives_none s vs t (λ r. cc (e, r)) y)) tt, refl)

  pub gives_items : (s : X) → GivesItems w grammar state place held s
  gives_items s vs t y = gives_by s (held s) refl vs t y

  pub ends_there : (s : X) → EndsThere w grammar state place held s
  ends_there s e vs t u y n =
      let runs = still_runs vs s t e y in
      let ends = given_end w (grammar (state t)).IsOutput (grammar (state t)).meaning (place t) (held t) (place u) (held u) runs.0 n.gives in
      (subst (λ z. EndsHolding (grammar z).meaning (place t) (held u)) runs.1 ends.0, ends.1)

  pub stays_ended : (s : X) → StaysEnded w grammar state place held s
  stays_ended s vs t u v r y n o =
      ended_gives w (grammar (state u)).IsOutput (grammar (state u)).meaning (place u) (held u) r (place v) (held v)
      (ended_holds w (grammar (state t)).IsOutput (grammar (state t)).meaning (place t) (held t) (place u) (held u) n.gives) o.gives

  pub finishes_so : (s : X) → FinishesSo w grammar state place held s
  finishes_so s e vs t y = (
    (λ r f. subst (λ z. IsFinish (place t) z r) (still_runs vs s t e y).0 f),
    (λ u r n f.
        let ends = ends_there s e vs t u y n in
        finishes_there (grammar (state s)).meaning (place t) (held u) r ends.0 (subst (λ z. IsFinish z (held u) r) ends.1 f)),
  )
