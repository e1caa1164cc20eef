-- Messages that are written, and read back as the same messages.
use Rattle.std.specs.Prelude.{◌≡◌, ℕ, ◌-◌, ◌^◌, ◌<◌, ◌≤◌, List, [], ◌++◌, length, Option, Some, None}
use Rattle.nom_io.specs.Account.{Account}
use Rattle.nom_io.specs.Written.{Wrote}
use Rattle.nom_internal.specs.Prelude.{bytes_model}
use Rattle.nom.specs.grammars.Bytes.{Big, all_consuming_of, length_value_of, number_of}
use Rattle.nom_run.specs.Texts.{lines_text}
use Rattle.nom_stream.specs.declared.stream.Stop as Why
use Rattle.nom_stream.specs.declared.stream.Stop.TheVariants as Stop
use Rattle.nom_stream.specs.declared.stream.Stream.{Stream}
use Rattle.nom_stream.specs.Wholes.{HasLeft}
use Rattle.nom_write.specs.Reads.{Anything, Reads}
use Rattle.nom_write_stream.specs.declared.outgoing.Outgoing.{Outgoing}
use Rattle.nom_write_stream.specs.Outgoing.{held_of}
use Rattle.nom_messages_run.specs.declared.protocol.Message.{Message}
use Rattle.nom_messages_run.specs.declared.protocol.Message.TheVariants as Sent
use Rattle.nom_messages_run.specs.Protocol.{body_of}
use Rattle.nom_messages_run.specs.Messages.{message_of}
use Rattle.nom_messages_run.specs.declared.messages.Received.{Received}
use Rattle.nom_messages_run.specs.declared.messages.Received.TheVariants.{Ping, Text, Close}
use Rattle.nom_messages_run.specs.Forms.{IsMessage}
use Rattle.nom_messages_run.specs.Pipe.{WroteAll, ending_text}
use Rattle.nom_messages_run.specs.Report.{message_text}
use Rattle.nom_messages_run.specs.Sent.{SentBefore}
use Rattle.nom_messages_run.specs.declared.write.Halt as Halts

-- a message, as a stream has it
abbrev pub received : Message → Received
received (Sent.Ping number) = Ping number
received (Sent.Text bytes) = Text (length bytes.now)
received Sent.Close = Close

-- the bytes of a message that a stream has so
abbrev pub IsReceived : Received → List ℕ → Type 0
IsReceived r xs = (m : Message) × IsMessage m xs × (r ≡ received m)

-- Whatever follows the bytes of a message, they are accepted, exactly, in both modes, and the message is an output of each tree: of a stream
-- of messages, and of a file.
abbrev pub StreamReadsBack : Type 0
StreamReadsBack = Reads bytes_model message_of IsReceived Anything

abbrev pub FileReadsBack : Type 0
FileReadsBack = Reads bytes_model (length_value_of (number_of Big 2) (all_consuming_of body_of)) IsMessage Anything

-- why not all of them are told: a read failed, memory ran out, or less may be held than the longest message has
abbrev pub CutsShort : (most : ℕ) → Why.Stop → Type 0
CutsShort most (Stop.Refused kind len) = ⊥
CutsShort most (Stop.Failed kind len) = ⊥
CutsShort most Stop.Nothing = ⊥
CutsShort most (Stop.Incomplete needed) = ⊥
CutsShort most Stop.TooLong = most < 259
CutsShort most (Stop.Fault error) = Unit {0}
CutsShort most Stop.OutOfMemory = Unit {0}

-- What is told of messages: the lines of all, and the end; or those of the first of them, and why no more.
pub data TellsBack (messages : List Message) (most offset : ℕ) (text : List ℕ) (status : ℕ) : Type 0 where
  Whole : text ≡ lines_text message_text messages ++ ending_text None offset → status ≡ 0 → TellsBack messages most offset text status
  Short : (first others : List Message) (why : Why.Stop) → messages ≡ first ++ others → CutsShort most why →
      text ≡ lines_text message_text first ++ ending_text (Some why) offset → status ≡ 3 → TellsBack messages most offset text status

-- Messages of lines were sent, and all of them was written. A stream has just what was written, and what is told of it was written too:
-- it tells these messages.
abbrev pub SentReadBack : (A B C : Type 0) {R W S : Type 0} → (R → Option (List ℕ)) → (W → Option (List ℕ)) → (S → Option (List ℕ)) → Type 0
SentReadBack A B C {R} {W} {S} left contents left' =
    (s t : Stream R A) (a b : Outgoing W B) (h : Halts.Halt) (sent : SentBefore left contents s a h t b) (before taken : List ℕ) →
    held_of a ≡ [] → held_of b ≡ [] → contents a.target.inner ≡ Some before → contents b.target.inner ≡ Some (before ++ taken) →
    length taken < 2 ^ 63 → (u v : Stream S C) (old new : Account) (status : ℕ) → HasLeft left' u taken → u.offset ≤ 2 ^ 64 - 1 →
    WroteAll left' message_of u v old new status →
    (text : List ℕ) × Wrote old new text × TellsBack sent.until.messages u.settings.most v.offset text status
