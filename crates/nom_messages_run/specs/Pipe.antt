-- The lines of messages that come one after another, and the last line.
use Rattle.std.specs.Prelude.{◌≡◌, ℕ, ◌-◌, ◌^◌, ◌<◌, ◌⊎◌, List, [], ◌∷◌, ◌++◌, length, drop, codes, Option, Some, None, Result, Ok, Err}
use Rattle.std.specs.Fmt.{decimal}
use Rattle.nom_internal.specs.Prelude.{size_of, Grammar}
use Rattle.nom_error.specs.declared.value.Error.{Error}
use Rattle.nom_io.specs.Account.{Account}
use Rattle.nom_io.specs.Written.{Wrote, WroteFront}
use Rattle.nom_run.specs.declared.error.RunError.{RunError}
use Rattle.nom_run.specs.declared.error.RunError.TheVariants as Error
use Rattle.nom_run.specs.Texts.{bytes_text, error_text, failure_text, need_text}
use Rattle.nom_stream.specs.declared.stream.Stop as Why
use Rattle.nom_stream.specs.declared.stream.Stop.TheVariants as Stop
use Rattle.nom_stream.specs.declared.stream.Stream.{Stream}
use Rattle.nom_stream.specs.Held.{last_of}
use Rattle.nom_stream.specs.Items.{Bytes}
use Rattle.nom_stream.specs.Streams.{Decides, ItemResult}
use Rattle.nom_messages_run.specs.declared.messages.Received.{Received}
use Rattle.nom_messages_run.specs.declared.messages.Received.TheVariants.{Ping, Text, Close}
use Rattle.nom_messages_run.specs.Report.{ping_text}

-- the line of a message, by its bytes: those of a text are the last ones
abbrev pub received_text : Received → (bytes : List ℕ) → List ℕ
received_text (Ping number) bytes = ping_text number
received_text (Text len) bytes = bytes_text (codes "text ") (drop (length bytes - len) bytes)
received_text Close bytes = codes "close\n"

-- what is at an offset
abbrev pub offset_text : (what : List ℕ) → ℕ → List ℕ
offset_text what offset = what ++ codes " at " ++ decimal offset ++ codes "\n"

-- the last line: why there is no further message, at an offset
abbrev pub ending_text : Option Why.Stop → ℕ → List ℕ
ending_text None offset = offset_text (codes "end") offset
ending_text (Some (Stop.Refused kind len)) offset = error_text kind offset
ending_text (Some (Stop.Failed kind len)) offset = failure_text kind offset
ending_text (Some Stop.Nothing) offset = offset_text (codes "empty") offset
ending_text (Some (Stop.Incomplete needed)) offset = need_text (size_of needed)
ending_text (Some Stop.TooLong) offset = offset_text (codes "too long") offset
ending_text (Some (Stop.Fault error)) offset = codes "file fault\n"
ending_text (Some Stop.OutOfMemory) offset = codes "out of memory\n"

-- and the status
abbrev pub ending_status : Option Why.Stop → ℕ
ending_status None = 0
ending_status (Some (Stop.Refused kind len)) = 1
ending_status (Some (Stop.Failed kind len)) = 1
ending_status (Some Stop.Nothing) = 1
ending_status (Some (Stop.Incomplete needed)) = 2
ending_status (Some Stop.TooLong) = 3
ending_status (Some (Stop.Fault error)) = 3
ending_status (Some Stop.OutOfMemory) = 3

-- an answer of `next_item` that is no item
abbrev pub stopped : Option Why.Stop → ItemResult Received
stopped None = Ok None
stopped (Some why) = Err why

module _ {R A V : Type 0} (left : R → Option (List ℕ)) (grammar : Grammar Bytes V Received (Error Bytes)) where
  -- calls of `next_item` gave these messages, one after another, and these are their lines
  abbrev pub Lines : List (ℕ × Received) → (s t : Stream R A) → (text : List ℕ) → Type 0
  Lines [] s t text = (t ≡ s) × (text ≡ [])
  Lines ((n, message) ∷ rs) s t text = (u : Stream R A) × Decides left grammar s u (Ok (Some (n, message))) ×
      ((rest : List ℕ) × (text ≡ received_text message (last_of n u.held) ++ rest) × Lines rs u t rest)

  module _ (s t : Stream R A) (text : List ℕ) where
    -- that many messages came, and these are their lines
    pub record Lists (count : ℕ) : Type 0 where
      pub messages : List (ℕ × Received)
      pub lines : Lines messages s t text
      pub counted : length messages ≡ count

    -- messages came until a call gave none, and these are their lines and the last line
    pub record Ends (status : ℕ) : Type 0 where
      pub before : Stream R A
      pub lines : List ℕ
      pub messages : List (ℕ × Received)
      pub listed : Lines messages s before lines
      pub why : Option Why.Stop
      pub last : Decides left grammar before t (stopped why)
      pub text_is : text ≡ lines ++ ending_text why t.offset
      pub status_is : status ≡ ending_status why

  -- memory was wanted for the first line: that of the first message, or the last line
  abbrev pub LacksFirst : (s t : Stream R A) → Type 0
  LacksFirst s t = (text : List ℕ) × (Lists s t text 1 ⊎ ((status : ℕ) × (e : Ends s t text status) × (e.messages ≡ [])))

  -- What was written: the lines and the last line; the lines of that many messages; or a beginning of either, where there is at
  -- least one line, until a write failed.
  module _ (s t : Stream R A) (a b : Account) where
    abbrev pub WroteAll : (status : ℕ) → Type 0
    WroteAll status = (text : List ℕ) × Ends s t text status × Wrote a b text

    abbrev pub WroteLines : (count : ℕ) → Type 0
    WroteLines count = (text : List ℕ) × Lists s t text count × Wrote a b text

    abbrev pub WroteSome : Type 0
    WroteSome = (text : List ℕ) × (((count : ℕ) × (0 < count) × Lists s t text count) ⊎ ((status : ℕ) × Ends s t text status)) × WroteFront a b text

    -- by what is answered, and whether the sink is as it was
    abbrev pub TellsMessages : (Same : Type 0) → Result ℕ RunError → Type 0
    TellsMessages Same (Ok status) = WroteAll status
    TellsMessages Same (Err Error.Read) = WroteLines (2 ^ 64 - 1)
    TellsMessages Same (Err Error.Write) = WroteSome
    TellsMessages Same (Err Error.OutOfMemory) = Same × LacksFirst s t
    TellsMessages Same (Err Error.Usage) = ⊥
