-- Messages that are written as they are typed.
use Rattle.std.specs.Prelude.{◌≡◌, ℕ, false, ◌+◌, ◌-◌, ◌^◌, ◌<◌, ◌≤◌, Bool, true, List, [], ◌∷◌, ◌++◌, length, take, Option, Some, None, Ok, Err, codes}
use Rattle.std.specs.Fmt.{decimal}
use Rattle.std.specs.List.{All}
use Rattle.std_io.specs.declared.io.error.Error as Io
use Rattle.nom_error.specs.declared.value.Error.{Error}
use Rattle.nom_error.specs.declared.answer.Err.TheVariants as Answer
use Rattle.nom_internal.specs.Prelude.{IResult}
use Rattle.nom.specs.grammars.Bytes.{Bytes, Parses}
use Rattle.nom_stream.specs.ReaderLines.{line_of}
use Rattle.nom_sink.specs.declared.error.WriteError.{WriteError}
use Rattle.nom_sink.specs.declared.error.WriteError.TheVariants as Write
use Rattle.nom_stream.specs.declared.stream.Stop as Stops
use Rattle.nom_stream.specs.declared.stream.Stop.TheVariants as Stop
use Rattle.nom_stream.specs.declared.stream.Stream.{Stream}
use Rattle.nom_stream.specs.Held.{last_of}
use Rattle.nom_stream.specs.Streams.{Decides}
use Rattle.nom_write_stream.specs.declared.outgoing.Outgoing.{Outgoing}
use Rattle.nom_write_stream.specs.declared.outgoing.Unwritten as Unwrittens
use Rattle.nom_write_stream.specs.declared.outgoing.Unwritten.TheVariants as Unwritten
use Rattle.nom_write_stream.specs.Outgoing.{Flushes, IsItem, Sends, held_of}
use Rattle.nom_io.specs.Account.{one_more}
use Rattle.nom_io.specs.Faults.{NoFault, OneFault}
use Rattle.nom_messages_run.specs.declared.protocol.Message.{Message}
use Rattle.nom_messages_run.specs.Forms.{IsLong, IsMessage, body_len}
use Rattle.nom_messages_run.specs.Typed.{typed_of}
use Rattle.nom_messages_run.specs.declared.write.Halt as Halts
use Rattle.nom_messages_run.specs.declared.write.Halt.TheVariants as Halt
use Rattle.nom_messages_run.specs.declared.write.Unsent as Why
use Rattle.nom_messages_run.specs.declared.write.Unsent.TheVariants as Unsent

-- what is answered on a line
abbrev pub AnswersBody : List ℕ → IResult Bytes Message (Error Bytes) → Type 0
AnswersBody xs r = (line : Bytes) × (line.now ≡ xs) × Parses (typed_of (length xs - 5)) false line r

-- a line stands for a message
abbrev pub SaysMessage : List ℕ → Message → Type 0
SaysMessage xs m = (rest : Bytes) × AnswersBody xs (Ok (rest, m))

-- it is refused
abbrev pub IsStop : IResult Bytes Message (Error Bytes) → Type 0
IsStop (Ok p) = ⊥
IsStop (Err Answer.OutOfMemory) = ⊥
IsStop (Err (Answer.Error e)) = Unit {0}
IsStop (Err (Answer.Failure e)) = Unit {0}
IsStop (Err (Answer.Incomplete k)) = Unit {0}

abbrev pub IsRefused : List ℕ → Type 0
IsRefused xs = (r : IResult Bytes Message (Error Bytes)) × IsStop r × AnswersBody xs r

-- a line, without its end, came as the next one
abbrev pub TakesLine : {R A : Type 0} → (R → Option (List ℕ)) → (s t : Stream R A) → List ℕ → Type 0
TakesLine left s t xs = (n x : ℕ) × Decides left line_of s t (Ok (Some (n, x))) × (xs ≡ take x (last_of n t.held))

-- a message is held or written, after what was held
abbrev pub SendsMessage : {W B : Type 0} → (W → Option (List ℕ)) → (a b : Outgoing W B) → Message → Type 0
SendsMessage contents a b m = (xs : List ℕ) × IsItem (IsMessage m) a.most xs × Sends contents a b xs × NoFault a.target.faults b.target.faults

-- nothing was added to what was held
abbrev pub SendsNone : {W B : Type 0} → (W → Option (List ℕ)) → (a b : Outgoing W B) → Type 0
SendsNone contents a b = Sends contents a b []

-- Why no body is made, with memory for so many bytes: there is too little, or the text is too long.
abbrev pub WhyNoBody : (room : ℕ) → Message → WriteError → Type 0
WhyNoBody room m Write.OutOfMemory = room < body_len m
WhyNoBody room m Write.Full = ⊥
WhyNoBody room m (Write.TooLong place) = IsLong m
WhyNoBody room m (Write.Mismatch place) = ⊥

abbrev pub WhyUnmade : (room : ℕ) → Message → Why.Unsent → Type 0
WhyUnmade room m Unsent.LongText = IsLong m
WhyUnmade room m Unsent.OverLimit = ⊥
WhyUnmade room m Unsent.Write = ⊥
WhyUnmade room m Unsent.OutOfMemory = room < body_len m

module _ {W B : Type 0} (a b : Outgoing W B) where
  -- one write failed
  abbrev pub WriteFails : Type 0
  WriteFails = (e : Io.Error) × OneFault a.target.faults b.target.faults e

  -- Why bytes aren't sent after their length: a write failed, or there are more than may be held, or than the length can say. Memory
  -- isn't wanted.
  abbrev pub WhyUnframed : (body : List ℕ) → Unwrittens.Unwritten → Type 0
  WhyUnframed body (Unwritten.TooLong at) = (65535 < length body) × NoFault a.target.faults b.target.faults
  WhyUnframed body (Unwritten.Mismatch at) = ⊥
  WhyUnframed body Unwritten.Nothing = ⊥
  WhyUnframed body Unwritten.OverLimit = (a.most < 2 + length body) × NoFault a.target.faults b.target.faults
  WhyUnframed body (Unwritten.Fault e) = OneFault a.target.faults b.target.faults e
  WhyUnframed body Unwritten.OutOfMemory = ⊥

  -- why a message isn't sent, with memory for a body of so many bytes
  abbrev pub WhyUnsent : (room : ℕ) → Message → Why.Unsent → Type 0
  WhyUnsent room m Unsent.LongText = IsLong m × NoFault a.target.faults b.target.faults
  WhyUnsent room m Unsent.OverLimit = (a.most < 2 + body_len m) × NoFault a.target.faults b.target.faults
  WhyUnsent room m Unsent.Write = WriteFails
  WhyUnsent room m Unsent.OutOfMemory = (room < body_len m) × NoFault a.target.faults b.target.faults

-- what isn't written isn't sent
abbrev pub unsent_of : Unwrittens.Unwritten → Why.Unsent
unsent_of (Unwritten.TooLong at) = Unsent.OverLimit
unsent_of (Unwritten.Mismatch at) = Unsent.OverLimit
unsent_of Unwritten.Nothing = Unsent.OverLimit
unsent_of Unwritten.OverLimit = Unsent.OverLimit
unsent_of (Unwritten.Fault e) = Unsent.Write
unsent_of Unwritten.OutOfMemory = Unsent.OutOfMemory

-- what halts where the message of the line of a number isn't sent
abbrev pub halt_for : (number : ℕ) → Why.Unsent → Halts.Halt
halt_for number Unsent.LongText = Halt.LongText number
halt_for number Unsent.OverLimit = Halt.LongLine number
halt_for number Unsent.Write = Halt.Write
halt_for number Unsent.OutOfMemory = Halt.OutOfMemory

-- and where a stream stops before that line
abbrev pub halt_by : (number : ℕ) → Stops.Stop → Halts.Halt
halt_by number (Stop.Refused kind len) = Halt.Read
halt_by number (Stop.Failed kind len) = Halt.Read
halt_by number Stop.Nothing = Halt.Read
halt_by number (Stop.Incomplete needed) = Halt.Read
halt_by number Stop.TooLong = Halt.LongLine number
halt_by number (Stop.Fault error) = Halt.Read
halt_by number Stop.OutOfMemory = Halt.OutOfMemory

-- Why the line of a number isn't sent, and what halts for it: it is no message, or the message isn't sent.
pub data HaltsLine {W B : Type 0} (room : ℕ) (a b : Outgoing W B) (xs : List ℕ) (number : ℕ) (h : Halts.Halt) : Type 0 where
  Refused : IsRefused xs → NoFault a.target.faults b.target.faults → h ≡ Halt.NoMessage number → HaltsLine room a b xs number h
  NotSent : (m : Message) (why : Why.Unsent) → SaysMessage xs m → WhyUnsent a b room m why → h ≡ halt_for number why → HaltsLine room a b xs number h

-- What halts after some messages, from states of a stream and of what is written to others, and why. Memory is wanted for a body alone that
-- is longer than those before it.
pub data HaltsAt {R A W B : Type 0} (left : R → Option (List ℕ)) (messages : List Message) (t u : Stream R A) (a b : Outgoing W B)
    (h : Halts.Halt) : Type 0 where
  -- the data end
  Ended : Decides left line_of t u (Ok None) → NoFault a.target.faults b.target.faults → h ≡ Halt.End → HaltsAt left messages t u a b h
  -- no line comes
  Stopped : (why : Stops.Stop) → Decides left line_of t u (Err why) → NoFault a.target.faults b.target.faults → h ≡ halt_by (length messages + 1) why →
      HaltsAt left messages t u a b h
  -- the next line comes, and isn't sent
  Taken : (xs : List ℕ) (room : ℕ) → TakesLine left t u xs → All (λ m. body_len m ≤ room) messages →
      HaltsLine room a b xs (length messages + 1) h → HaltsAt left messages t u a b h
  -- no more lines can be counted
  Full : length messages ≡ 2 ^ 64 - 1 → u ≡ t → NoFault a.target.faults b.target.faults → h ≡ Halt.Read → HaltsAt left messages t u a b h

-- Lines came, from states of a stream and of what is written to others, and the messages for which they stand were sent, in order.
pub data SentLines {R A W B : Type 0} (left : R → Option (List ℕ)) (contents : W → Option (List ℕ)) (s : Stream R A) (a : Outgoing W B) :
    (messages : List Message) (t : Stream R A) (b : Outgoing W B) → Type 0 where
  none : SentLines left contents s a [] s a
  line : {messages : List Message} {t u : Stream R A} {b c : Outgoing W B} (xs : List ℕ) (m : Message) →
      SentLines left contents s a messages t b → TakesLine left t u xs → SaysMessage xs m → SendsMessage contents b c m →
      SentLines left contents s a (messages ++ m ∷ []) u c

-- the lines before one were sent, and nothing of that; and what halted there, and why; and nothing was flushed
pub record SentUntil {R A W B : Type 0} (left : R → Option (List ℕ)) (contents : W → Option (List ℕ)) (s : Stream R A) (a : Outgoing W B)
    (h : Halts.Halt) (t : Stream R A) (b : Outgoing W B) : Type 0 where
  pub messages : List Message
  pub stream : Stream R A
  pub outgoing : Outgoing W B
  pub lines : SentLines left contents s a messages stream outgoing
  pub nothing : SendsNone contents outgoing b
  pub why : HaltsAt left messages stream t outgoing b h
  pub flushes : b.target.flushes ≡ a.target.flushes

-- a write failed
abbrev pub is_failed_write : Halts.Halt → Bool
is_failed_write Halt.Write = true
is_failed_write h = false

-- What is done after what halted. After a failed write nothing is written or flushed. Else all that is held is written, and the writer is
-- flushed, once; or a call fails then, and that halts.
pub data Finishes {W B : Type 0} (a b : Outgoing W B) (halt h : Halts.Halt) : Type 0 where
  Left : is_failed_write halt ≡ true → h ≡ halt → b ≡ a → Finishes a b halt h
  Flushed : is_failed_write halt ≡ false → h ≡ halt → held_of b ≡ [] → NoFault a.target.faults b.target.faults →
      b.target.flushes ≡ one_more a.target.flushes → Finishes a b halt h
  Failed : (e : Io.Error) → is_failed_write halt ≡ false → h ≡ Halt.Write → OneFault a.target.faults b.target.faults e →
      Flushes {T = Unit {0}} a b (Err e) → Finishes a b halt h

-- then all that was held was written, unless a write failed
pub record SentBefore {R A W B : Type 0} (left : R → Option (List ℕ)) (contents : W → Option (List ℕ)) (s : Stream R A) (a : Outgoing W B)
    (h : Halts.Halt) (t : Stream R A) (b : Outgoing W B) : Type 0 where
  pub halt : Halts.Halt
  pub outgoing : Outgoing W B
  pub until : SentUntil left contents s a halt t outgoing
  pub nothing : SendsNone contents outgoing b
  pub finishes : Finishes outgoing b halt h

-- the status of the program
abbrev pub status_of : Halts.Halt → ℕ
status_of Halt.End = 0
status_of (Halt.NoMessage number) = 1
status_of (Halt.LongText number) = 1
status_of (Halt.LongLine number) = 1
status_of Halt.Read = 3
status_of Halt.Write = 3
status_of Halt.OutOfMemory = 3

-- and what it tells
abbrev pub halt_text : Halts.Halt → List ℕ
halt_text Halt.End = []
halt_text (Halt.NoMessage number) = decimal number ++ codes ": error: expected ping NUMBER, text BYTES or close\n"
halt_text (Halt.LongText number) = decimal number ++ codes ": error: the text is longer than 255 bytes\n"
halt_text (Halt.LongLine number) = decimal number ++ codes ": error: the line is longer than may be held\n"
halt_text Halt.Read = codes "file fault\n"
halt_text Halt.Write = []
halt_text Halt.OutOfMemory = codes "out of memory\n"
