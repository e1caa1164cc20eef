-- Items that go out: each is held or written, whole and in its turn.
use Rattle.std.specs.Prelude.{◌≡◌, ℕ, ◌+◌, ◌-◌, ◌^◌, ◌<◌, ◌≤◌, ◌⊎◌, Bool, true, false, List, [], ◌++◌, length, take}
use Rattle.std.specs.Prelude.{Option, Result, Ok, Err}
use Rattle.std.specs.Prelude.{get_or}
use Rattle.std.specs.Io.KnownBytes.{Appends}
use Rattle.std_io.specs.declared.io.error.Error.{Error}
use Rattle.nom_internal.specs.Prelude.{AreValues}
use Rattle.nom_sink.specs.declared.error.WriteError.{WriteError}
use Rattle.nom_sink.specs.declared.error.WriteError.TheVariants as Write
use Rattle.nom_sink.specs.Lists.{EachForm}
use Rattle.nom_sink.specs.Written.{Space}
use Rattle.nom_sink.specs.Written.Lack.{OfSpace}
use Rattle.nom_write_stream.specs.declared.outgoing.Halted.{Halted}
use Rattle.nom_write_stream.specs.declared.outgoing.Outgoing.{Outgoing}
use Rattle.nom_write_stream.specs.declared.outgoing.Unwritten.{Unwritten}
use Rattle.nom_write_stream.specs.declared.outgoing.Unwritten.TheVariants.{TooLong, Mismatch, Nothing, OverLimit, Fault, OutOfMemory}
use Rattle.nom_io.specs.Account.{one_more}
use Rattle.nom_io.specs.Faults.{NoFault, OneFault}

-- the bytes that aren't written yet
abbrev pub held_of : {W A : Type 0} → Outgoing W A → List ℕ
held_of o = o.held.bytes.items

-- they are bytes, and not more than an input can have
abbrev pub FitsInput : List ℕ → Type 0
FitsInput xs = AreValues (λ b. b < 256) xs × (length xs < 2 ^ 63)

-- a form of an item that can be sent: some bytes, and not more than may be held
pub record IsItem (Form : List ℕ → Type 0) (most : ℕ) (xs : List ℕ) : Type 0 where
  pub form : Form xs
  pub some : 0 < length xs
  pub fits : length xs ≤ most
  pub known : FitsInput xs

-- What was held, and then these bytes, is what was written and then what is held: nothing is lost, nothing comes twice.
abbrev pub Sends : {W A : Type 0} → (W → Option (List ℕ)) → (a b : Outgoing W A) → (xs : List ℕ) → Type 0
Sends contents a b xs =
    (written : List ℕ) × (held_of a ++ xs ≡ written ++ held_of b) × Appends (contents a.target.inner) (contents b.target.inner) written

-- All was written, and the writer was flushed, once; or a write failed, and it wasn't.
abbrev pub Flushes : {W A T : Type 0} → (a b : Outgoing W A) → Result T Error → Type 0
Flushes a b (Ok x) = b.target.flushes ≡ one_more a.target.flushes
Flushes a b (Err e) =
    ((held_of b ≡ []) × (b.target.flushes ≡ one_more a.target.flushes)) ⊎ ((0 < length (held_of b)) × (b.target.flushes ≡ a.target.flushes))

module _ (Form : List ℕ → Type 0) (Fails : Space → WriteError → Type 0) (most : ℕ) where
  -- its writer fails with this error, where some bytes are held and there is room for the most that may be, or for more
  pub record FailsWith (start : ℕ) (e : WriteError) : Type 0 where
    pub room : ℕ
    pub enough : most ≤ room
    pub fails : Fails (record { lack = OfSpace; room = room; start = start }) e

  -- there is no room for it after so many bytes
  abbrev pub NoRoom : (start : ℕ) → Type 0
  NoRoom start = FailsWith start Write.Full ⊎ ((xs : List ℕ) × Form xs × (most < start + length xs))

  -- why it isn't written
  abbrev pub WhyNot : Unwritten → Type 0
  WhyNot (TooLong at) = (start place : ℕ) × (start ≤ most) × FailsWith start (Write.TooLong place) × (at ≡ place - start)
  WhyNot (Mismatch at) = (start place : ℕ) × (start ≤ most) × FailsWith start (Write.Mismatch place) × (at ≡ place - start)
  WhyNot Nothing = Form []
  WhyNot OverLimit = NoRoom 0
  WhyNot (Fault e) = Unit {0}
  WhyNot OutOfMemory = (start : ℕ) × (start ≤ most) × FailsWith start Write.OutOfMemory

-- What `add` does to what is held: a form of the item is added, or there is no room for it, or it can't be written.
abbrev pub WritesFit : {W A : Type 0} → (a b : Outgoing W A) → (List ℕ → Type 0) → (Space → WriteError → Type 0) → Result Bool Unwritten → Type 0
WritesFit a b Form Fails (Ok true) = (xs : List ℕ) × IsItem Form a.most xs × (held_of b ≡ held_of a ++ xs)
WritesFit a b Form Fails (Ok false) = (held_of b ≡ held_of a) × NoRoom Form Fails a.most (length (held_of a))
WritesFit a b Form Fails (Err why) = (held_of b ≡ held_of a) × WhyNot Form Fails a.most why × ((e : Error) → why ≡ Fault e → ⊥)

-- a write failed where that is told, and else none did
abbrev pub CountsUnwritten : {W A : Type 0} → (a b : Outgoing W A) → Unwritten → Type 0
CountsUnwritten a b (TooLong at) = NoFault a.target.faults b.target.faults
CountsUnwritten a b (Mismatch at) = NoFault a.target.faults b.target.faults
CountsUnwritten a b Nothing = NoFault a.target.faults b.target.faults
CountsUnwritten a b OverLimit = NoFault a.target.faults b.target.faults
CountsUnwritten a b (Fault e) = OneFault a.target.faults b.target.faults e
CountsUnwritten a b OutOfMemory = NoFault a.target.faults b.target.faults

module _ {W A : Type 0} (contents : W → Option (List ℕ)) (a b : Outgoing W A) where
  -- what one `write_item` does: a form of the item is held or written after what was held, or there is a reason
  abbrev pub WritesItem : (List ℕ → Type 0) → (Space → WriteError → Type 0) → Result (Unit {0}) Unwritten → Type 0
  WritesItem Form Fails (Ok _) = (xs : List ℕ) × IsItem Form a.most xs × Sends contents a b xs × NoFault a.target.faults b.target.faults
  WritesItem Form Fails (Err why) = Sends contents a b [] × WhyNot Form Fails a.most why × CountsUnwritten a b why

  -- what `write_items` does: forms of the items, one after another; or of those before one, and a reason of that one
  abbrev pub WritesItems : {O : Type 0} → (O → List ℕ → Type 0) → (O → Space → WriteError → Type 0) → List O → Result (Unit {0}) Halted →
      Type 0
  WritesItems Form Fails vs (Ok _) = (xs : List ℕ) × EachForm (λ v. IsItem (Form v) a.most) vs xs × Sends contents a b xs ×
      NoFault a.target.faults b.target.faults
  WritesItems {O} Form Fails vs (Err h) =
      (xs : List ℕ) × EachForm (λ v. IsItem (Form v) a.most) (take h.count vs) xs × Sends contents a b xs × (h.count < length vs) ×
      ((v : O) × (v ≡ get_or vs h.count v) × WhyNot (Form v) (Fails v) a.most h.why) × CountsUnwritten a b h.why
