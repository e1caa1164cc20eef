-- Items in a buffer.
use Rattle.std.specs.Prelude.{◌≡◌, ℕ, Bool, true, false, Option, Some, None, Err, List, ◌++◌, ◌⊎◌, drop, length, set}
use Rattle.std.specs.List.{AllZip}
use Rattle.nom_internal.specs.Prelude.{PResult, OutOfMemory, Errors, Model, Meaning, Modes, Outcome, Grammar}
use Rattle.nom_repeat.specs.Repeat.{TurnsBy, Pieces}
use Rattle.nom_repeat.specs.Repeat.Turn.{Ends}
use Rattle.nom_repeat.specs.Items.{item_turn, items_meaning}
use Rattle.nom_repeat.specs.Bounds.{exact_limits}

-- just that many items, which takes no memory
abbrev pub fill_meaning : {I A V E : Type 0} → Model I A → Errors I E → ℕ → Meaning I V E → Meaning I (List V) E
fill_meaning w errs n m = items_meaning w errs (exact_limits n) ⊥ m

-- nothing is told of the items beside the buffer
abbrev pub IsDone : {V : Type 0} → List V → Unit {0} → Type 0
IsDone vs o = Unit {0}

-- the outputs of the trees at the front, where outputs are built, and what stood after them
abbrev pub HoldsItems : {V T : Type 0} → (V → T → Type 0) → Bool → List T → List V → List T → Type 0
HoldsItems {T = T} IsOutput true old vs new = (xs : List T) × AllZip IsOutput vs xs × (new ≡ xs ++ drop (length xs) old)
HoldsItems IsOutput false old vs new = new ≡ old

-- No further item is accepted: the buffer is full, or the part answers otherwise, or memory runs out in it, which is then the answer
-- of the whole.
abbrev pub StopsFilling : {I V E : Type 0} → Meaning I V E → ℕ → Modes → (RanOut : Type 0) → ℕ → I → Type 0
StopsFilling {V = V} m n mode RanOut k j =
    ((o : Outcome (Unit {0})) × TurnsBy (Some n) (item_turn (exact_limits n)) (λ _. m.answers mode.streaming) k j (Ends o))
    ⊎ (m.may_run_out mode j × RanOut)

-- that memory ran out is answered
abbrev pub IsRanOut : {I O E : Type 0} → PResult I O E → Type 0
IsRanOut r = r ≡ Err OutOfMemory

-- What a buffer holds afterwards, by whether it was answered that memory ran out: the outputs of all items that were accepted in turn,
-- as many as it has room for.
pub record IsFilled {I A V T E : Type 0} (w : Model I A) (IsOutput : V → T → Type 0) (m : Meaning I V E) (mode : Modes) (i : I) (old new : List T)
    (RanOut : Type 0) : Type 0 where
  pub trees : List V
  pub taken : ℕ
  pub pieces : Pieces w (TurnsBy (Some (length old)) (item_turn (exact_limits (length old))) (λ _. m.answers mode.streaming))
      (StopsFilling m (length old) mode RanOut) 0 i trees taken
  pub holds : HoldsItems IsOutput mode.outputs old trees new

-- an item is written at a place
abbrev pub IsPut : {T : Type 0} → List T → ℕ → Option T → List T → Type 0
IsPut old place (Some item) new = new ≡ set old place item
IsPut old place None new = new ≡ old

-- items of a grammar, as many as a buffer has room for
abbrev pub fill_of : {I A V O E : Type 0} → Model I A → Errors I E → ℕ → Grammar I V O E → Grammar I (List V) (Unit {0}) E
fill_of w errs n g = record { meaning = fill_meaning w errs n g.meaning; IsOutput = IsDone }
