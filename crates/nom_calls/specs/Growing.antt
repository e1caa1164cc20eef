-- The answers of a parser on an input that grows.
use Rattle.std.specs.Prelude.{◌≡◌, ℕ, ◌<◌, ◌≤◌, true, ◌⊎◌, List, length, slice_index, Err, Option}
use Rattle.nom_internal.specs.Prelude.{IResult, OutOfMemory, modes, Model, IsBoundary, IsPrefixOf, View, Outcome, Stop, Fails, Needs, TooLarge}
use Rattle.nom_internal.specs.Prelude.{ParsesOutcome, Meaning}
use Rattle.nom_internal.specs.Prelude.{ParsesMeaning}
use Rattle.nom_internal.specs.Promises.{IsOfWhole}

module _ {I A : Type 0} (w : Model I A) (whole : I) (cuts : List ℕ) where
  -- each cut is a place
  abbrev pub AreCuts : Type 0
  AreCuts = (k : ℕ) → k < length cuts → IsBoundary w whole (slice_index cuts k)

  -- the beginning at the cut of an index; the number of cuts stands for the whole
  pub data IsBeginning (index : ℕ) (x : I) : Type 0 where
    AtCut : index < length cuts → IsPrefixOf w whole (slice_index cuts index) x → IsBeginning index x
    AtEnd : index ≡ length cuts → x ≡ whole → IsBeginning index x

-- on the beginning at a cut the outcome is that more is needed, and no other
pub record Waits {I A V E : Type 0} (w : Model I A) (m : Meaning I V E) (whole : I) (cut : ℕ) : Type 0 where
  pub beginning : I
  pub begins : IsPrefixOf w whole cut beginning
  pub needed : Option ℕ
  pub answered : m.answers true beginning (Stop (Needs needed))
  pub only : (x : I) (o : Outcome V) → IsPrefixOf w whole cut x → m.answers true x o → Stop (Needs needed) ≡ o

module _ {I A V O E : Type 0} (w : Model I A) (IsOutput : V → O → Type 0) (m : Meaning I V E) (whole : I) (cuts : List ℕ) (index : ℕ) where
  -- the outcome on a beginning, shown with the rest in the whole
  pub record ShowsBeginning (beginning : I) (r : IResult I O E) : Type 0 where
    pub outcome : Outcome V
    pub answered : m.answers true beginning outcome
    pub decided : index < length cuts → (k : Option ℕ) → outcome ≡ Stop (Needs k) → ⊥
    pub shown : ParsesOutcome w IsOutput whole (m.blames true beginning) outcome r
    -- unless what is lacking is too large, it is the outcome on the whole
    pub stays : (outcome ≡ Stop (Fails TooLarge) → ⊥) → (o : Outcome V) → m.answers true whole o → outcome ≡ o

  -- memory ran out on a beginning, where it may, or its outcome is shown
  pub data AnswersOn (beginning : I) (r : IResult I O E) : Type 0 where
    RanOutOn : r ≡ Err OutOfMemory → m.may_run_out (modes true true true) beginning → AnswersOn beginning r
    ShownOn : ShowsBeginning beginning r → AnswersOn beginning r

  -- the answer at the least cut whose beginning does not wait, or at the end
  pub record IsGrown (r : IResult I O E) : Type 0 where
    pub in_range : index ≤ length cuts
    pub waited : (k : ℕ) → k < index → Waits w m whole (slice_index cuts k)
    pub beginning : I
    pub begins : IsBeginning w whole cuts index beginning
    pub answer : AnswersOn beginning r

-- Verdict, view of the output, and rest are those of one `parse` of the whole, running out of memory aside, where the parser pins;
-- unless what is lacking on the beginning is too large.
pub record AgreesWithWhole {I A V O E : Type 0} (w : Model I A) (view : View O) (Pins : Type 0) (IsOutput : V → O → Type 0) (m : Meaning I V E)
    (whole : I) (cuts : List ℕ) (index : ℕ) (r : IResult I O E) : Type 0 where
  pub beginning : I
  pub begins : IsBeginning w whole cuts index beginning
  pub of_whole : (s : IResult I O E) → ParsesMeaning w IsOutput m true whole s → (s ≡ Err OutOfMemory) ⊎
      IsOfWhole w view Pins IsOutput m beginning r s
