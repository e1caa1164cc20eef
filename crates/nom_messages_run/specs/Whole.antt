-- The lines that are written of messages, one after another: those of the whole of the data.
use Rattle.std.specs.Prelude.{◌≡◌, ℕ, ◌+◌, ◌-◌, ◌^◌, ◌<◌, ◌≤◌, min, Bool, false, List, [], ◌∷◌, ◌++◌, length, take, Option, Some, None}
use Rattle.nom_io.specs.Account.{Account}
use Rattle.nom_io.specs.Written.{Wrote}
use Rattle.nom_error.specs.declared.value.Error.{Error}
use Rattle.nom_internal.specs.Prelude.{bytes_model, IsSuffixOf, Outcome, Accept, Grammar}
use Rattle.nom_calls.specs.Iterated.{AreItems}
use Rattle.nom_stream.specs.declared.stream.Stop as Why
use Rattle.nom_stream.specs.declared.stream.Stop.TheVariants as Stop
use Rattle.nom_stream.specs.declared.stream.Stream.{Stream}
use Rattle.nom_stream.specs.Items.{Bytes}
use Rattle.nom_stream.specs.Wholes.{AtWhole, HasLeft, TellsWhole}
use Rattle.nom_messages_run.specs.declared.messages.Received.{Received}
use Rattle.nom_messages_run.specs.Pipe.{WroteAll, ending_status, ending_text, received_text, stopped}

-- the last line tells that there is no further message
abbrev pub IsTheEnd : (complete : Bool) → Option Why.Stop → Type 0
IsTheEnd complete None = complete ≡ false
IsTheEnd complete (Some (Stop.Refused kind len)) = Unit {0}
IsTheEnd complete (Some (Stop.Failed kind len)) = ⊥
IsTheEnd complete (Some Stop.Nothing) = ⊥
IsTheEnd complete (Some (Stop.Incomplete needed)) = Unit {0}
IsTheEnd complete (Some Stop.TooLong) = ⊥
IsTheEnd complete (Some (Stop.Fault error)) = ⊥
IsTheEnd complete (Some Stop.OutOfMemory) = ⊥

module _ {V : Type 0} (grammar : Grammar Bytes V Received (Error Bytes)) (complete : Bool) where
  -- The lines of the messages of these trees, from an input on up to a place: each is accepted where the one before ended, and its line
  -- has its bytes, which are the first ones there.
  abbrev pub LinesOf : List V → (i place : Bytes) → (text : List ℕ) → Type 0
  LinesOf [] i place text = (i ≡ place) × (text ≡ [])
  LinesOf (v ∷ vs) i place text = (n : ℕ) × AtWhole grammar.meaning complete i (Accept n v) × ((message : Received) × grammar.IsOutput v message ×
      ((next : Bytes) × IsSuffixOf bytes_model i n next × ((rest : List ℕ) ×
      (text ≡ received_text message (take n i.now) ++ rest) × LinesOf vs next place rest)))

module _ {R A V : Type 0} (grammar : Grammar Bytes V Received (Error Bytes)) where
  -- What was written, of data that is `whole`, and of which these are the trees of the items: the lines of the first of them, and the
  -- last line, which tells of the outcome after these. Where it tells that there is no further message, they are all.
  pub record WroteWhole (s t : Stream R A) (old new : Account) (status : ℕ) (whole : Bytes) (trees : List V) : Type 0 where
    pub first : List V
    pub others : List V
    pub trees_are : trees ≡ first ++ others
    pub place : Bytes
    pub lines : List ℕ
    pub lines_are : LinesOf grammar s.settings.complete first whole place lines
    pub why : Option Why.Stop
    pub wrote : Wrote old new (lines ++ ending_text why t.offset)
    pub status_is : status ≡ ending_status why
    -- where the last line stands in the data
    pub used : ℕ
    pub begins : IsSuffixOf bytes_model whole used place
    pub offset : t.offset ≡ min (s.offset + used) (2 ^ 64 - 1)
    pub outcome : Outcome V
    pub answers : AtWhole grammar.meaning s.settings.complete place outcome
    pub told : TellsWhole grammar t (stopped why) place outcome
    pub are_all : IsTheEnd s.settings.complete why → others ≡ []

module _ (A : Type 0) {R V : Type 0} (left : R → Option (List ℕ)) (grammar : Grammar Bytes V Received (Error Bytes)) where
  -- What is written is that of the whole, for every way in which its bytes came.
  abbrev pub LinesOfWhole : Type 0
  LinesOfWhole =
      (s t : Stream R A) (old new : Account) (status : ℕ) → WroteAll left grammar s t old new status →
      (whole : Bytes) → bytes_model.IsKnown whole → HasLeft left s whole.now → s.offset ≤ 2 ^ 64 - 1 →
      (limit : ℕ) (trees : List V) → AreItems bytes_model (AtWhole grammar.meaning s.settings.complete) limit whole trees → length trees < limit →
      WroteWhole grammar s t old new status whole trees
