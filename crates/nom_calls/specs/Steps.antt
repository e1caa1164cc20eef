-- The answers of `next` and `finish`, by the place that is reached and by what is held.
use Rattle.std.specs.Prelude.{◌≡◌, Bool, true, false, ◌⊎◌, List, length, Ok, Err, Option, Some, None}
use Rattle.std.specs.Iterator.{Yields}
use Rattle.std.specs.List.{AllZip}
use Rattle.nom_internal.specs.Prelude.{IResult, size_of, modes, Needed, Model, Outcome, Accept, Refuse, Stop, Fails, Needs, Meaning, ParsesMeaning, Grammar}
use Rattle.nom_error.specs.declared.answer.Err.TheVariants as Variant
use Rattle.nom_calls.specs.Iterated.{CanGive}
use Rattle.nom_calls.specs.declared.items.State.{State}
use Rattle.nom_calls.specs.declared.items.State.TheVariants as Held

-- what `next` gives for an answer of the parser at i, the place j after it, and what is held then
abbrev pub Moves : {I O E : Type 0} → I → IResult I O E → Option O → I → State E → Type 0
Moves i (Ok (k, v)) r j s = (r ≡ Some v) × (j ≡ k) × (s ≡ Held.Running)
Moves i (Err (Variant.Error e)) r j s = (r ≡ None) × (j ≡ i) × (s ≡ Held.Done)
Moves i (Err (Variant.Failure e)) r j s = (r ≡ None) × (j ≡ i) × (s ≡ Held.Failure e)
Moves i (Err (Variant.Incomplete k)) r j s = (r ≡ None) × (j ≡ i) × (s ≡ Held.Incomplete k)
Moves i (Err Variant.OutOfMemory) r j s = (r ≡ None) × (j ≡ i) × (s ≡ Held.OutOfMemory)

-- nothing is given, and all stays as it was
abbrev pub Rests : {I O E : Type 0} → I → State E → Option O → I → State E → Type 0
Rests i s r j t = (r ≡ None) × (j ≡ i) × (t ≡ s)

module _ {I A V O E : Type 0} (w : Model I A) (IsOutput : V → O → Type 0) (m : Meaning I V E) where
  -- One `next` at the place i: while it runs, by what `parse` answers there; after it ended, nothing is given.
  abbrev pub Gives : I → State E → Option O → I → State E → Type 0
  Gives i Held.Running r j t = (q : IResult I O E) × ParsesMeaning w IsOutput m true i q × Moves i q r j t
  Gives i Held.Done r j t = Rests i Held.Done r j t
  Gives i (Held.Failure e) r j t = Rests i (Held.Failure e) r j t
  Gives i (Held.Incomplete k) r j t = Rests i (Held.Incomplete k) r j t
  Gives i Held.OutOfMemory r j t = Rests i Held.OutOfMemory r j t

  -- and the parser's state p stays, as q
  pub record IsStep {S : Type 0} (p q : S) (i : I) (s : State E) (r : Option O) (j : I) (t : State E) : Type 0 where
    pub kept : q ≡ p
    pub gives : Gives i s r j t

-- `finish`, by the place that is reached and by what is held
abbrev pub IsFinish : {I E : Type 0} → I → State E → IResult I (Unit {0}) E → Type 0
IsFinish i Held.Running r = r ≡ Ok (i, tt)
IsFinish i Held.Done r = r ≡ Ok (i, tt)
IsFinish i (Held.Failure e) r = r ≡ Err (Variant.Failure e)
IsFinish i (Held.Incomplete k) r = r ≡ Err (Variant.Incomplete k)
IsFinish i Held.OutOfMemory r = r ≡ Err Variant.OutOfMemory

-- the items have ended
abbrev pub has_ended : {E : Type 0} → State E → Bool
has_ended Held.Running = false
has_ended Held.Done = true
has_ended (Held.Failure e) = true
has_ended (Held.Incomplete k) = true
has_ended Held.OutOfMemory = true

module _ {I V E : Type 0} (m : Meaning I V E) (i : I) where
  -- what is held where the items end at i with an outcome
  abbrev pub HoldsEnd : Outcome V → State E → Type 0
  HoldsEnd (Accept n v) s = ⊥
  HoldsEnd Refuse s = s ≡ Held.Done
  HoldsEnd (Stop (Fails cause)) s = (e : E) × m.blames true i e × (s ≡ Held.Failure e)
  HoldsEnd (Stop (Needs k)) s = (needed : Needed) × (size_of needed ≡ k) × (s ≡ Held.Incomplete needed)

  -- the items end at i, since something else than an acceptance is answered there, or since memory runs out: then that is held
  abbrev pub EndsHolding : State E → Type 0
  EndsHolding s = ((o : Outcome V) × m.answers true i o × HoldsEnd o s) ⊎ (m.may_run_out (modes true true true) i × (s ≡ Held.OutOfMemory))

  -- what `finish` answers where the items ended at i with an outcome
  abbrev pub Finishes : Outcome V → IResult I (Unit {0}) E → Type 0
  Finishes (Accept n v) r = ⊥
  Finishes Refuse r = r ≡ Ok (i, tt)
  Finishes (Stop (Fails cause)) r = (e : E) × m.blames true i e × (r ≡ Err (Variant.Failure e))
  Finishes (Stop (Needs k)) r = (needed : Needed) × (size_of needed ≡ k) × (r ≡ Err (Variant.Incomplete needed))

  -- and where they ended there
  abbrev pub FinishesThere : IResult I (Unit {0}) E → Type 0
  FinishesThere r = ((o : Outcome V) × m.answers true i o × Finishes o r) ⊎ (m.may_run_out (modes true true true) i × (r ≡ Err Variant.OutOfMemory))

-- iterators X, by the parser's state, the place reached and what is held
module _ {X S I A V O E : Type 0} (w : Model I A) (grammar : S → Grammar I V O E) (state : X → S) (place : X → I)
    (held : X → State E) where
  abbrev pub Next : X → Option O → X → Type 0
  Next s r t = IsStep w (grammar (state s)).IsOutput (grammar (state s)).meaning (state s) (state t) (place s) (held s) r (place t) (held t)

  -- What calls of `next` give: the outputs of items, each begun where the one before ended, and none after they ended.
  abbrev pub GivesItems : X → Type 0
  GivesItems s =
      (vs : List O) (t : X) → Yields Next s vs t →
      (ts : List V) × AllZip (grammar (state s)).IsOutput ts vs × CanGive w ((grammar (state s)).meaning.answers true) (has_ended (held s)) (length vs)
      (place s) ts

  -- A call that gives nothing, of one that ran, stands at a place where something else than an acceptance is answered, or where memory
  -- runs out; that is held then, at this place.
  abbrev pub EndsThere : X → Type 0
  EndsThere s =
      held s ≡ Held.Running → (vs : List O) (t u : X) → Yields Next s vs t → Next t None u → EndsHolding (grammar (state s)).meaning (place t) (held u) ×
      (place u ≡ place t)

  -- and from then on nothing is given, and all stays
  abbrev pub StaysEnded : X → Type 0
  StaysEnded s =
      (vs : List O) (t u v : X) (r : Option O) → Yields Next s vs t → Next t None u → Next u r v → (r ≡ None) × (place v ≡ place u) × (held v ≡ held u)

  -- What `finish` answers: as long as items are given, the place that is reached; and after a call that gave nothing, by what ended them.
  abbrev pub FinishesSo : X → Type 0
  FinishesSo s =
      held s ≡ Held.Running → (vs : List O) (t : X) → Yields Next s vs t →
      ((r : IResult I (Unit {0}) E) → IsFinish (place t) (held t) r → r ≡ Ok (place t, tt))
      × ((u : X) (r : IResult I (Unit {0}) E) → Next t None u → IsFinish (place u) (held u) r → FinishesThere (grammar (state s)).meaning (place t) r)
