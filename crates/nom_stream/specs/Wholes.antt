-- The items of a stream, as items of the whole of its data.
use Rattle.std.specs.Prelude.{◌≡◌, ℕ, ◌+◌, ◌-◌, ◌^◌, ◌≤◌, min, ◌⊎◌, Bool, true, false, List, [], ◌∷◌, ◌++◌, length, take, Option, Some, None, Ok, Err}
use Rattle.std.specs.List.{AllZip}
use Rattle.nom_internal.specs.Prelude.{size_of, bytes_model, IsSuffixOf, Outcome, Accept, Refuse, Stop, Fails, Needs, Outright, TooLarge, Meaning, Grammar}
use Rattle.nom_error.specs.declared.value.Error.{Error}
use Rattle.nom_calls.specs.Iterated.{AreItems}
use Rattle.nom_stream.specs.declared.stream.Stop.TheVariants as Stopped
use Rattle.nom_stream.specs.declared.stream.Stream.{Stream}
use Rattle.nom_stream.specs.Held.{held_of, last_of}
use Rattle.nom_stream.specs.Items.{Bytes}
use Rattle.nom_stream.specs.Streams.{Decides, ItemResult}

-- These are the bytes that no item had yet: those that are held, and those that the reader has left, where they are known. A stream that
-- has ended has none of the latter; that holds of a new one, and calls of `next_item` keep it.
abbrev pub HasLeft : {R A : Type 0} → (R → Option (List ℕ)) → Stream R A → List ℕ → Type 0
HasLeft left s xs = (after : List ℕ) × (left s.source.inner ≡ Some after) × (xs ≡ held_of s.held ++ after) × (s.ended ≡ true → after ≡ [])

-- the items that were told, and how many bytes they have
abbrev pub items_of : {O : Type 0} → List (ItemResult O) → List O
items_of [] = []
items_of (Ok (Some (n, o)) ∷ rs) = o ∷ items_of rs
items_of (Ok None ∷ rs) = items_of rs
items_of (Err e ∷ rs) = items_of rs

abbrev pub used_of : {O : Type 0} → ItemResult O → ℕ
used_of (Ok (Some (n, o))) = n
used_of (Ok None) = 0
used_of (Err e) = 0

abbrev pub used_by : {O : Type 0} → List (ItemResult O) → ℕ
used_by [] = 0
used_by (r ∷ rs) = used_of r + used_by rs

-- more is needed
abbrev pub IsLacking : {V : Type 0} → Outcome V → Type 0
IsLacking (Accept n v) = ⊥
IsLacking Refuse = ⊥
IsLacking (Stop (Fails cause)) = ⊥
IsLacking (Stop (Needs k)) = Unit {0}

module _ {V : Type 0} (m : Meaning Bytes V (Error Bytes)) where
  -- The outcome at an input after which nothing comes: the streaming one, as `iterator` has it; or (true) where more is needed, the
  -- complete one.
  abbrev pub AtWhole : (complete : Bool) → Bytes → Outcome V → Type 0
  AtWhole false i p = m.answers true i p
  AtWhole true i p = (m.answers true i p × (IsLacking p → ⊥)) ⊎ ((k : Option ℕ) × m.answers true i (Stop (Needs k)) × m.answers false i p)

  -- a failure: of the whole, or since what is lacking of a beginning is too large
  abbrev pub TellsFailure : Bytes → Outcome V → Type 0
  TellsFailure i p = (p ≡ Stop (Fails Outright)) ⊎ (p ≡ Stop (Fails TooLarge)) ⊎
      ((x : Bytes) × (more : List ℕ) × (i.now ≡ x.now ++ more) × m.answers true x (Stop (Fails TooLarge)))

-- What an answer tells of the outcome p at i, the bytes that no item had before; t is the stream after it.
abbrev pub TellsWhole : {R A V O : Type 0} → Grammar Bytes V O (Error Bytes) → Stream R A → ItemResult O → Bytes → Outcome V → Type 0
TellsWhole {V = V} grammar t (Ok (Some (n, o))) i p = (v : V) × grammar.IsOutput v o × (Accept n v ≡ p)
TellsWhole grammar t (Ok None) i p = (i.now ≡ []) × (k : Option ℕ) × grammar.meaning.answers true i (Stop (Needs k))
TellsWhole grammar t (Err (Stopped.Refused e at)) i p = p ≡ Refuse
TellsWhole grammar t (Err (Stopped.Failed e at)) i p = TellsFailure grammar.meaning i p
TellsWhole {V = V} grammar t (Err Stopped.Nothing) i p = (v : V) × (Accept 0 v ≡ p)
TellsWhole grammar t (Err (Stopped.Incomplete k)) i p = (held_of t.held ≡ i.now) × (Stop (Needs (size_of k)) ≡ p)
TellsWhole grammar t (Err Stopped.TooLong) i p = t.settings.most ≤ length (held_of t.held)
TellsWhole grammar t (Err (Stopped.Fault e)) i p = Unit {0}
TellsWhole grammar t (Err Stopped.OutOfMemory) i p = Unit {0}

module _ {R A V O : Type 0} (left : R → Option (List ℕ)) (grammar : Grammar Bytes V O (Error Bytes)) where
  -- calls of `next_item`, one after another, and what each answered
  abbrev pub Calls : List (ItemResult O) → Stream R A → Stream R A → Type 0
  Calls [] s t = t ≡ s
  Calls (r ∷ rs) s t = (u : Stream R A) × Decides left grammar s u r × Calls rs u t

  -- The answers rs, of which the items are the first of those that the whole has; place is where the next one begins.
  pub record AreOfWhole (s t : Stream R A) (rs : List (ItemResult O)) (whole : Bytes) (limit : ℕ) (trees : List V) : Type 0 where
    pub first : List V
    pub others : List V
    pub trees_are : trees ≡ first ++ others
    pub items : AllZip grammar.IsOutput first (items_of rs)
    pub place : Bytes
    pub begins : IsSuffixOf bytes_model whole (used_by rs) place
    pub left_then : HasLeft left t place.now
    pub go_on : AreItems bytes_model (AtWhole grammar.meaning s.settings.complete) limit place others
    pub offset : t.offset ≡ min (s.offset + used_by rs) (2 ^ 64 - 1)
    pub settings : t.settings ≡ s.settings

module _ (A : Type 0) {R V O : Type 0} (left : R → Option (List ℕ)) (grammar : Grammar Bytes V O (Error Bytes)) where
  -- One answer is that of the whole, however its bytes came.
  abbrev pub AnswersWhole : Type 0
  AnswersWhole =
      (s t : Stream R A) (r : ItemResult O) → Decides left grammar s t r → (whole : Bytes) → bytes_model.IsKnown whole → HasLeft left s whole.now →
      (p : Outcome V) → AtWhole grammar.meaning s.settings.complete whole p → TellsWhole grammar t r whole p

  -- The bytes of an item, as they are lent after the call, are the first of those that no item had before it.
  abbrev pub BytesOfWhole : Type 0
  BytesOfWhole =
      (s t : Stream R A) (n : ℕ) (o : O) → Decides left grammar s t (Ok (Some (n, o))) → (whole : List ℕ) → HasLeft left s whole →
      last_of n t.held ≡ take n whole

  -- The items that calls give are those of the whole, in order, each where the one before ended, however its bytes came, and also
  -- where calls between them gave none.
  abbrev pub ItemsOfWhole : Type 0
  ItemsOfWhole =
      (s t : Stream R A) (rs : List (ItemResult O)) → Calls left grammar rs s t → (whole : Bytes) → bytes_model.IsKnown whole → HasLeft left s whole.now →
      s.offset ≤ 2 ^ 64 - 1 →
      (limit : ℕ) (trees : List V) → AreItems bytes_model (AtWhole grammar.meaning s.settings.complete) (length (items_of rs) + limit) whole trees →
      AreOfWhole left grammar s t rs whole limit trees
