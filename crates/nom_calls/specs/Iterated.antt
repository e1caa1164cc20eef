-- The items that a parser accepts one after another.
use Rattle.std.specs.Prelude.{◌≡◌, ℕ, suc, zero, ◌<◌, ◌≤◌, Bool, true, false, List, [], ◌∷◌, ◌++◌, length, map}
use Rattle.std.specs.List.{AllZip}
use Rattle.nom_internal.specs.Prelude.{Model, IsSuffixOf, Extends, IsSame, input_len, View, Outcome, Accept, Refuse, Stop, Meaning}

-- the outcome is no acceptance
abbrev pub Ends : {V : Type 0} → Outcome V → Type 0
Ends (Accept n v) = ⊥
Ends Refuse = Unit {0}
Ends (Stop why) = Unit {0}

module _ {I A V : Type 0} (w : Model I A) (Answers : I → Outcome V → Type 0) where
  -- The trees of the items from an input on, up to a limit: each of a piece that is accepted, and each begun where the one before
  -- ended, until something else than an acceptance is answered.
  abbrev pub AreItems : ℕ → I → List V → Type 0
  AreItems zero i ts = ts ≡ []
  AreItems (suc n) i [] = (o : Outcome V) × Answers i o × Ends o
  AreItems (suc n) i (t ∷ ts) = (k : ℕ) × (j : I) × Answers i (Accept k t) × IsSuffixOf w i k j × AreItems n j ts

  -- the trees of the items that can still be given, by whether they have ended
  abbrev pub CanGive : Bool → ℕ → I → List V → Type 0
  CanGive true limit i ts = ts ≡ []
  CanGive false limit i ts = AreItems limit i ts

module _ {I A V E : Type 0} (w : Model I A) (m : Meaning I V E) where
  -- the items that can be given on an input are a beginning of those on every input that extends it
  abbrev pub ItemsStay : Type 0
  ItemsStay =
      (ended : Bool) (limit : ℕ) (x y : I) (ts us : List V) → w.IsKnown x → w.IsKnown y → Extends w x y →
      CanGive w (m.answers true) ended limit x ts → CanGive w (m.answers true) ended limit y us → (more : List V) × (us ≡ ts ++ more)

  -- inputs that are equal as models have the same items, and no others
  abbrev pub ItemsAreOne : Type 0
  ItemsAreOne =
      (ended : Bool) (limit : ℕ) (x y : I) (ts us : List V) → w.IsKnown x → w.IsKnown y → IsSame w x y →
      CanGive w (m.answers true) ended limit x ts → CanGive w (m.answers true) ended limit y us → ts ≡ us

  -- where each acceptance consumes something, there are no more items than the input is long
  abbrev pub ItemsFit : Type 0
  ItemsFit =
      ((i : I) (k : ℕ) (t : V) → m.answers true i (Accept k t) → 0 < k) → (ended : Bool) (limit : ℕ) (x : I) (ts : List V) →
      CanGive w (m.answers true) ended limit x ts → length ts ≤ input_len w x

  -- Of the outputs that are given for the items on an input and on one that extends it, the first are equal as viewed, where the parser pins.
  abbrev pub OutputsStay : {O : Type 0} → View O → (Pins : Type 0) → (V → O → Type 0) → Type 0
  OutputsStay {O} view Pins IsOutput =
      (ended : Bool) (limit : ℕ) (x y : I) (ts us : List V) (vs vs' : List O) → w.IsKnown x → w.IsKnown y → Extends w x y →
      CanGive w (m.answers true) ended limit x ts → CanGive w (m.answers true) ended limit y us →
      AllZip IsOutput ts vs → AllZip IsOutput us vs' → Pins → (more : List view.Value) × (map view.value vs' ≡ map view.value vs ++ more)
