-- Folds of items by closures that may take memory.
use Rattle.std.specs.Prelude.{◌≡◌, ℕ, ◌++◌, ◌⊎◌, Bool, true, false, None, List, Option, Some, Result, Ok, Err}
use Rattle.nom_error.specs.declared.answer.OutOfMemory.{OutOfMemory}
use Rattle.nom_error.specs.declared.answer.Err as Answer
use Rattle.nom_error.specs.declared.kind.ErrorKind.TheVariants as Kind
use Rattle.nom_internal.specs.Prelude.{Errors, Needed, Grammar, Model, Meaning, Modes, Outcome, Family, then_meaning}
use Rattle.nom_repeat.specs.Items.{item_turn, items_meaning}
use Rattle.nom_repeat.specs.Repeat.{Pieces, TurnsBy}
use Rattle.nom_repeat.specs.Repeat.Turn.{Takes}
use Rattle.nom_repeat.specs.Bounds.{any_limits, one_limits}
use Rattle.nom_repeat.specs.declared.items.Limits.{Limits}
use Rattle.nom_repeat.specs.declared.items.TooFew.TheVariants.{Fresh}
use Rattle.nom_multi_fold.specs.Folds.{Folds}
use Rattle.nom_multi_fold.specs.Under.{under}

-- the value that is there
abbrev pub IsPresent : {R : Type 0} → Option R → R → Type 0
IsPresent x r = x ≡ Some r

-- the first value, where outputs are built: the closure makes it, or finds no memory
abbrev pub Starts : {R E : Type 0} → Bool → (Result R OutOfMemory → Type 0) → Result (Option R) (Answer.Err E (Option E) Needed) → Type 0
Starts {R} true Inits (Ok x) = (r : R) × (x ≡ Some r) × Inits (Ok r)
Starts true Inits (Err e) = (f : OutOfMemory) × Inits (Err f) × (e ≡ Answer.Err.OutOfMemory)
Starts false Inits q = q ≡ Ok None

-- what one more item makes of a value, where both are built: the closure takes the item, or finds no memory
abbrev pub FoldsItem : {R T : Type 0} → (R → T → Result R OutOfMemory → Type 0) → Option R → Option T → Result (Option R) OutOfMemory → Type 0
FoldsItem {R} Gives (Some r) (Some x) (Ok y) = (z : R) × (y ≡ Some z) × Gives r x (Ok z)
FoldsItem Gives (Some r) (Some x) (Err f) = (e : OutOfMemory) × Gives r x (Err e)
FoldsItem Gives (Some r) None q = q ≡ Ok None
FoldsItem Gives None x q = q ≡ Ok None

-- the closures take no memory, so they never lack any
abbrev pub InitsWithoutMemory : {R : Type 0} → (Result R OutOfMemory → Type 0) → Type 0
InitsWithoutMemory Inits = (e : OutOfMemory) → Inits (Err e) → ⊥

abbrev pub FoldsWithoutMemory : {R T : Type 0} → (R → T → Result R OutOfMemory → Type 0) → Type 0
FoldsWithoutMemory {R} {T} Gives = (r : R) (x : T) (e : OutOfMemory) → Gives r x (Err e) → ⊥

-- the closure finds no memory for a first value
pub record LacksFirst {R : Type 0} (Inits : Result R OutOfMemory → Type 0) : Type 0 where
  pub lacking : OutOfMemory
  pub lacks : Inits (Err lacking)

module _ {I V T R : Type 0} (IsOutput : V → T → Type 0) (Inits : R → Type 0) (Gives : R → T → Result R OutOfMemory → Type 0) (b : Limits)
    (Item : I → Outcome V → Type 0) where
  -- After the items of these trees another one is taken; and for the value that the fold reached and that item's output the closure
  -- finds no memory.
  pub record LacksAt (vs : List V) (k : ℕ) (j : I) : Type 0 where
    pub length : ℕ
    pub tree : V
    pub taken : TurnsBy b.most (item_turn b) (λ _. Item) k j (Takes length tree)
    pub value : R
    pub reached : Folds IsOutput Inits (λ r x y. Gives r x (Ok y)) vs value
    pub output : T
    pub is_output : IsOutput tree output
    pub lacking : OutOfMemory
    pub lacks : Gives value output (Err lacking)

  -- the closure finds no memory after some of the items from i on
  pub record LacksMemory {A : Type 0} (w : Model I A) (i : I) : Type 0 where
    pub trees : List V
    pub taken : ℕ
    pub pieces : Pieces w (TurnsBy b.most (item_turn b) (λ _. Item)) (LacksAt trees) 0 i trees taken

-- a meaning whose memory may run out for another cause too, which never comes where it is frugal
abbrev pub beside : {I V E : Type 0} → (Modes → I → Type 0) → (Modes → Type 0) → Meaning I V E → Meaning I V E
beside Lacks Never m = record {
  Runs = m.Runs;
  IsSound = m.IsSound;
  answers = m.answers;
  blames = m.blames;
  may_run_out = λ mode i. m.may_run_out mode i ⊎ Lacks mode i;
  IsFrugal = λ mode. m.IsFrugal mode × Never mode;
  Settles = m.Settles;
  NeverFails = m.NeverFails;
}

-- What is meant, after a first value is made. Where outputs are built, memory runs out too where the closure finds none for it.
abbrev pub begun_meaning : {I V R E : Type 0} → (Result R OutOfMemory → Type 0) → Meaning I V E → Meaning I V E
begun_meaning Inits = beside (λ mode i. (mode.outputs ≡ true) × LacksFirst Inits) (λ mode. mode.outputs ≡ true → InitsWithoutMemory Inits)

module _ {I A V T R E : Type 0} (w : Model I A) (errs : Errors I E) (IsOutput : V → T → Type 0) (Gives : R → T → Result R OutOfMemory → Type 0)
    (m : Meaning I V E) where
  -- Items within limits, folded from a first value. Where outputs are built, memory runs out too where the closure finds none for
  -- the value reached and the next item.
  abbrev pub folded_meaning : Limits → (R → Type 0) → Meaning I (List V) E
  folded_meaning b Inits =
      beside (λ mode i. (mode.outputs ≡ true) × LacksMemory IsOutput Inits Gives b (m.answers mode.streaming) w i)
      (λ mode. mode.outputs ≡ true → FoldsWithoutMemory Gives) (items_meaning w errs b ⊥ m)

  -- any number of items, after others, from a value that those reach
  abbrev pub later_items : (R → Type 0) → Family (List V) I (List V) E
  later_items Inits = record {
    at = λ vs. folded_meaning (any_limits Kind.Many1) (Folds IsOutput Inits (λ r x y. Gives r x (Ok y)) vs);
    Runs = m.Runs;
    IsSound = m.IsSound;
    IsFrugal = (folded_meaning (any_limits Kind.Many1) Inits).IsFrugal;
    Settles = m.Settles;
    NeverFails = m.NeverFails;
  }

  -- any number of items; one that consumes nothing is refused
  abbrev pub fold_many0_alloc_meaning : Type 0 → (Result R OutOfMemory → Type 0) → Meaning I (List V) E
  fold_many0_alloc_meaning Premise Inits = under Premise (begun_meaning Inits (folded_meaning (any_limits Kind.Many0) (λ r. Inits (Ok r))))

  -- One item at least: a first one, whose refusal is one of the kind at the start, and which may be empty; and then any number.
  abbrev pub first_and_later : (R → Type 0) → Meaning I (List V) E
  first_and_later Inits =
      then_meaning w (λ vs us. vs ++ us) (λ o. o) (λ o. o) (folded_meaning (one_limits (Fresh Kind.Many1) true) Inits) (later_items Inits)

  abbrev pub fold_many1_alloc_meaning : Type 0 → (Result R OutOfMemory → Type 0) → Meaning I (List V) E
  fold_many1_alloc_meaning Premise Inits = under Premise (begun_meaning Inits (first_and_later (λ r. Inits (Ok r))))

-- items of a grammar, folded by closures that may take memory
module _ {I A V O R E : Type 0} (w : Model I A) (errs : Errors I E) (Premise : Type 0) (Inits : Result R OutOfMemory → Type 0)
    (Gives : R → O → Result R OutOfMemory → Type 0) (g : Grammar I V O E) where
  abbrev pub fold_many0_alloc_by : Grammar I (List V) R E
  fold_many0_alloc_by = record {
    meaning = fold_many0_alloc_meaning w errs g.IsOutput Gives g.meaning Premise Inits;
    IsOutput = Folds g.IsOutput (λ r. Inits (Ok r)) (λ r x y. Gives r x (Ok y));
  }

  abbrev pub fold_many1_alloc_by : Grammar I (List V) R E
  fold_many1_alloc_by = record {
    meaning = fold_many1_alloc_meaning w errs g.IsOutput Gives g.meaning Premise Inits;
    IsOutput = Folds g.IsOutput (λ r. Inits (Ok r)) (λ r x y. Gives r x (Ok y));
  }
