-- Written bytes, as a grammar reads them: on every input that begins with them and goes on as it may, it accepts exactly them.
use Rattle.std.specs.Prelude.{◌≡◌, ℕ, Bool, false, ◌⊎◌, List, [], ◌++◌}
use Rattle.nom_internal.specs.Prelude.{IResult, Model, items_len, IsSuffixOf, View, Grammar, Meaning, Outcome, Accept, Refuse, ParsesMeaning}
use Rattle.nom_error.specs.declared.answer.Err.TheVariants.{OutOfMemory}
use Rattle.std.specs.Prelude.{Ok, Err}

-- anything may follow
abbrev pub Anything : {A : Type 0} → List A → Type 0
Anything _ = Unit {0}

-- a slice of an input with these items
pub record Holds {I A : Type 0} (w : Model I A) (v : I) (xs : List A) : Type 0 where
  pub known : w.IsKnown v
  pub elements_are : w.elements v ≡ xs

module _ {I A V : Type 0} (w : Model I A) where
  -- an acceptance of a length, with a tree of which the fact holds
  abbrev pub IsTaken : (V → Type 0) → ℕ → Outcome V → Type 0
  IsTaken Fact n o = (t : V) × (o ≡ Accept n t) × Fact t

  -- On every input that begins with the items, where what follows them is of a kind, each outcome accepts exactly them, with a tree of
  -- which the fact holds. A record, by which relation, fact and kind are found.
  pub record ReadsBefore (P : I → Outcome V → Type 0) (Fact : V → Type 0) (Follow : List A → Type 0) (xs : List A) : Type 0 where
    pub read : (i : I) (rest : List A) (o : Outcome V) → w.IsKnown i → w.elements i ≡ xs ++ rest → Follow rest → P i o →
        IsTaken Fact (items_len w.item_len xs) o

-- an input of these items is refused, in one mode or in both
abbrev pub NoItemIn : {I A V E : Type 0} → Model I A → Meaning I V E → (streaming : Bool) → List A → Type 0
NoItemIn {I} {V = V} w m s rest = (i : I) (o : Outcome V) → w.IsKnown i → w.elements i ≡ rest → m.answers s i o → o ≡ Refuse

abbrev pub NoItem : {I A V E : Type 0} → Model I A → Meaning I V E → List A → Type 0
NoItem w m rest = (s : Bool) → NoItemIn w m s rest

-- nothing follows
abbrev pub IsEnd : {A : Type 0} → List A → Type 0
IsEnd rest = rest ≡ []

module _ {I A V O E : Type 0} (w : Model I A) (g : Grammar I V O E) where
  -- A form of a value, before what may follow, is read in both modes, and the value is an output of each tree.
  pub record Reads (Form : O → List A → Type 0) (Follow : List A → Type 0) : Type 0 where
    pub reads : (v : O) (xs : List A) → Form v xs → (streaming : Bool) → ReadsBefore w (g.meaning.answers streaming) (λ t. g.IsOutput t v) Follow xs

  -- A form of a value that ends a complete input is read, and the value is an output of each tree.
  pub record ReadsAtEnd (Form : O → List A → Type 0) : Type 0 where
    pub reads : (v : O) (xs : List A) → Form v xs → ReadsBefore w (g.meaning.answers false) (λ t. g.IsOutput t v) IsEnd xs

  -- items are read, as whatever tree, whatever follows
  pub record ReadsSome (xs : List A) : Type 0 where
    pub reads : (streaming : Bool) → ReadsBefore w (g.meaning.answers streaming) (λ _. Unit {0}) Anything xs

module _ {I A V O E : Type 0} (w : Model I A) (view : View O) (Pins : Type 0) (g : Grammar I V O E) where
  -- What is answered on an input that begins with items: it is accepted, with what follows the items as the rest and, where outputs are
  -- pinned, an output that is equal as viewed; memory that runs out aside.
  abbrev pub IsReadBack : O → List A → List A → I → IResult I O E → Type 0
  IsReadBack v xs rest i r = (r ≡ Err OutOfMemory) ⊎ ((j : I) × (b : O) × IsSuffixOf w i (items_len w.item_len xs) j × (w.elements j ≡ rest) ×
      (Pins → view.value b ≡ view.value v) × (r ≡ Ok (j, b)))

  -- so it is of all forms of all values, before what may follow, in both modes
  abbrev pub ReadsBack : (O → List A → Type 0) → (List A → Type 0) → Type 0
  ReadsBack Form Follow = (streaming : Bool) (v : O) (xs rest : List A) (i : I) (r : IResult I O E) → Form v xs → w.IsKnown i →
      w.elements i ≡ xs ++ rest → Follow rest → ParsesMeaning w g.IsOutput g.meaning streaming i r → IsReadBack v xs rest i r
