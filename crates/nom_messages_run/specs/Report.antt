-- The report on a file of messages.
use Rattle.std.proofs.Common.{inl, inr}
use Rattle.std.specs.Prelude.{ℕ, List, ◌++◌, codes, Vec}
use Rattle.std.specs.Fmt.{decimal}
use Rattle.nom_error.specs.declared.value.Error.{Error}
use Rattle.nom_internal.specs.Prelude.{Meaning}
use Rattle.nom.specs.grammars.Bytes.{Bytes}
use Rattle.nom_messages_run.specs.declared.protocol.Message.{Message}
use Rattle.nom_messages_run.specs.declared.protocol.Message.TheVariants.{Ping, Text, Close}
use Rattle.nom_messages_run.specs.Protocol.{Body, messages_of}
use Rattle.nom_run.specs.Report.{IsReportBy}
use Rattle.nom_run.specs.Texts.{bytes_text, lines_text}

abbrev pub ping_text : ℕ → List ℕ
ping_text number = codes "ping " ++ decimal number ++ codes "\n"

-- the line of a message
abbrev pub message_text : Message → List ℕ
message_text (Ping number) = ping_text number
message_text (Text bytes) = bytes_text (codes "text ") bytes.now
message_text Close = codes "close\n"

-- the lines of an output
abbrev pub lines_of : {A : Type 0} → Vec Message A → List ℕ
lines_of v = lines_text message_text v.items

-- the line of a message, by its tree
abbrev pub body_text : Body → List ℕ
body_text (inl (inl ping)) = ping_text ping.1
body_text (inl (inr text)) = bytes_text (codes "text ") text.1.items
body_text (inr close) = codes "close\n"

abbrev pub bodies_text : List Body → List ℕ
bodies_text ts = lines_text body_text ts

-- the grammar of the messages
abbrev pub message_grammar : Meaning Bytes (List Body) (Error Bytes)
message_grammar = (messages_of {M = Unit {0}}).meaning

-- `text` and `status` are the report on `bytes`, given in the parts that `cuts` make of them
unfoldable pub IsReport : (bytes cuts text : List ℕ) → (status : ℕ) → Type 0
IsReport bytes cuts text status = IsReportBy message_grammar bodies_text bytes cuts text status
