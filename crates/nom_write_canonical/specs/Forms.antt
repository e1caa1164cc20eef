-- Formats with one form a value: whatever is accepted is a form of its output, and no value has two.
use Rattle.std.specs.Prelude.{◌≡◌, ℕ, Bool, List, ◌++◌, Result, Ok, Err}
use Rattle.nom_internal.specs.Prelude.{Accept, AreValues, Grammar, IResult, Model, Outcome, ParsesMeaning, items_len}
use Rattle.nom_sink.specs.declared.error.WriteError.{WriteError}
use Rattle.nom_sink.specs.Choices.{IsUnfit}
use Rattle.nom_sink.specs.Written.{SinkModel, Space, Written}
use Rattle.nom_write.specs.Choices.{BranchForms, first_forms, or_forms}

module _ {I A : Type 0} (w : Model I A) (Fact : List A → Type 0) (i : I) (n : ℕ) where
  -- an input begins with items, of a length, of which the fact holds
  pub record HasFront : Type 0 where
    pub front : List A
    pub rest : List A
    pub whole : w.elements i ≡ front ++ rest
    pub length_is : items_len w.item_len front ≡ n
    pub fact : Fact front

module _ {I A V : Type 0} (w : Model I A) (P : I → Outcome V → Type 0) (Fact : V → List A → Type 0) where
  -- the items of each acceptance are such that the fact of its tree holds
  pub record AcceptsOnly : Type 0 where
    pub front : (i : I) (n : ℕ) (t : V) → w.IsKnown i → P i (Accept n t) → HasFront w (Fact t) i n

-- items are a form of each output of a tree
abbrev pub FormOf : {I A V O E : Type 0} → Grammar I V O E → (O → List A → Type 0) → V → List A → Type 0
FormOf {O = O} g Form t xs = (v : O) → g.IsOutput t v → Form v xs

module _ {I A V O E : Type 0} (w : Model I A) (g : Grammar I V O E) (Form : O → List A → Type 0) where
  -- in both modes whatever is accepted is a form of its outputs
  pub record AcceptsForms : Type 0 where
    pub accepts : (s : Bool) → AcceptsOnly w (g.meaning.answers s) (FormOf g Form)

module _ {I A V O E : Type 0} (w : Model I A) (g : Grammar I V O E) (items : List A) where
  -- in both modes nothing is accepted but these items
  pub record AcceptsItems : Type 0 where
    pub accepts : (s : Bool) → AcceptsOnly w (g.meaning.answers s) (λ _ xs. xs ≡ items)

-- no two lists of values, such as bytes, are forms
pub record IsOneForm {A : Type 0} (IsValue : A → Type 0) (Form : List A → Type 0) : Type 0 where
  pub one : (xs ys : List A) → AreValues IsValue xs → AreValues IsValue ys → Form xs → Form ys → xs ≡ ys

-- No value that the second of two writes is one that the first writes: the first can't write it, whatever the room, and has no form of it.
pub record Excludes {O A : Type 0} (First : O → List A → Type 0) (Fails : O → Space → WriteError → Type 0) (Second : O → List A → Type 0) : Type 0 where
  pub unfit : (v : O) (xs : List A) → Second v xs → IsUnfit (Fails v)
  pub apart : (v : O) (xs ys : List A) → First v xs → Second v ys → ⊥

-- some branches, of which none writes a value that one before it writes
pub record Exclusive (O A : Type 0) : Type 1 where
  pub forms : BranchForms O A
  pub AreExclusive : Type 0

abbrev pub first_exclusive : {P O A : Type 0} → (P → O → List A → Type 0) → (P → O → Space → WriteError → Type 0) → P → Exclusive O A
first_exclusive Form Fails p = record { forms = first_forms Form Fails p; AreExclusive = Unit {0} }

-- the branches before, and one more
abbrev pub or_exclusive : {P O A : Type 0} → Exclusive O A → (P → O → List A → Type 0) → (P → O → Space → WriteError → Type 0) → P → Exclusive O A
or_exclusive before Form Fails p = record {
  forms = or_forms before.forms Form Fails p;
  AreExclusive = before.AreExclusive × Excludes before.forms.Form before.forms.Fails (Form p);
}

-- no value has two forms
abbrev pub HasOneForm : {O A : Type 0} → (A → Type 0) → (O → List A → Type 0) → Type 0
HasOneForm {O} {A} IsValue Form = (v : O) (xs ys : List A) → AreValues IsValue xs → AreValues IsValue ys → Form v xs → Form v ys → xs ≡ ys

-- Items that are a form of an output of what was accepted are those that were consumed.
abbrev pub WritesBack : {I A V O E : Type 0} → Model I A → (A → Type 0) → Grammar I V O E → (O → List A → Type 0) → Type 0
WritesBack {I} {A} {O = O} w IsValue g Form = (streaming : Bool) (i j : I) (v : O) (xs : List A) → w.IsKnown i →
    ParsesMeaning w g.IsOutput g.meaning streaming i (Ok (j, v)) → AreValues IsValue xs → Form v xs → w.elements i ≡ xs ++ w.elements j

-- What came of an output that is written again, beside the parser's answer: the sink holds more just the items that were consumed, or it
-- holds what it did. Where nothing was accepted, nothing is written.
abbrev pub IsWrittenAgain : {I S O E : Type 0} → Model I ℕ → SinkModel S ℕ → (O → Space → WriteError → Type 0) → (old new : S) → I → IResult I O E →
    IResult I (O × Result (Unit {0}) WriteError) E → Type 0
IsWrittenAgain w m Fails old new i (Ok x) r = (a : Result (Unit {0}) WriteError) × (r ≡ Ok (x.0, (x.1, a))) ×
    Written (λ xs. w.elements i ≡ xs ++ w.elements x.0) (Fails x.1) m old new a
IsWrittenAgain w m Fails old new i (Err e) r = (r ≡ Err e) × (m.items new ≡ m.items old)
