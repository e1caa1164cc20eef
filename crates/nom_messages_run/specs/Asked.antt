-- What the words of the command line ask for, and what is done for them. The first word is the program's name.
use Rattle.std.specs.Prelude.{◌≡◌, ◌≢◌, ℕ, ◌<◌, ◌⊎◌, Bool, true, false, List, [], length, slice_index_or, codes, Option, None, Result}
use Rattle.nom_io.specs.Account.{Account, one_more}
use Rattle.nom_io.specs.declared.counted.Counted.{Counted}
use Rattle.nom_run.specs.declared.error.RunError.{RunError}
use Rattle.nom_run.specs.declared.error.RunError.TheVariants.{OutOfMemory, Read, Usage}
use Rattle.nom_run.specs.Asked.{ToldAsked}
use Rattle.nom_run.specs.Reporting.{EndsWith, WroteText, fault_text}
use Rattle.nom_stream.specs.declared.settings.Settings.{Settings}
use Rattle.nom_stream.specs.declared.stream.Stream.{Stream}
use Rattle.nom_stream.specs.Held as Held
use Rattle.nom_write_stream.specs.declared.outgoing.Outgoing.{Outgoing}
use Rattle.nom_write_stream.specs.Outgoing.{held_of}
use Rattle.nom_messages_run.specs.declared.program.Task as Tasks
use Rattle.nom_messages_run.specs.declared.program.Task.TheVariants as Task
use Rattle.nom_messages_run.specs.declared.write.Halt as Halts
use Rattle.nom_messages_run.specs.Messages.{message_of}
use Rattle.nom_messages_run.specs.Pipe.{TellsMessages}
use Rattle.nom_messages_run.specs.Report.{IsReport}
use Rattle.nom_messages_run.specs.Sent.{SentBefore, halt_text, status_of}

abbrev pub word : List (List ℕ) → ℕ → List ℕ
word words place = slice_index_or words place []

-- the first word is `--write`
abbrev pub AsksToWrite : List (List ℕ) → Type 0
AsksToWrite words = (1 < length words) × (word words 1 ≡ codes "--write")

-- A report, which has words of its own; the messages of standard input, for `-` alone; or what is written for the lines of a file, or of
-- standard input, for which `-` stands too.
abbrev pub Asks : List (List ℕ) → Tasks.Task → Type 0
Asks words Task.Report = (length words < 2) ⊎ ((word words 1 ≢ codes "--write") × ((word words 1 ≢ codes "-") ⊎ (2 < length words)))
Asks words Task.Input = (length words ≡ 2) × (word words 1 ≡ codes "-")
Asks words Task.WriteInput = AsksToWrite words × ((length words ≡ 2) ⊎ ((length words ≡ 3) × (word words 2 ≡ codes "-")))
Asks words (Task.WriteFile file) = AsksToWrite words × (length words ≡ 3) × (file.now ≡ word words 2) × (word words 2 ≢ codes "-")

-- more words than one after `--write`
abbrev pub AsksTooMuch : List (List ℕ) → Type 0
AsksTooMuch words = AsksToWrite words × (3 < length words)

-- how messages are read, and lines, the last of which may lack its end
abbrev pub message_settings : Settings
message_settings = record { read = 65536; most = 131072; patient = true; complete = false }

abbrev pub line_settings : Settings
line_settings = record { read = 65536; most = 65536; patient = true; complete = true }

-- a stream on a reader of which nothing was read
pub record IsNew {R A : Type 0} (reader : R) (settings : Settings) (s : Stream R A) : Type 0 where
  pub source : s.source.inner ≡ reader
  pub none : s.source.faults.count ≡ 0
  pub held : Held.held_of s.held ≡ []
  pub offset : s.offset ≡ 0
  pub goes_on : s.ended ≡ false
  pub pending : s.pending ≡ None
  pub settings_are : s.settings ≡ settings

-- a buffer before a writer, to which nothing was written, with room for so many bytes
pub record IsNewBefore {W A : Type 0} (writer : W) (most : ℕ) (a : Outgoing W A) : Type 0 where
  pub target : (a.target.inner ≡ writer) × (a.target.faults.count ≡ 0)
  pub held : held_of a ≡ []
  pub most_is : a.most ≡ most

-- no more is done than a line is written that tells an error
abbrev pub OnlyTells : {W : Type 0} → (account : W → Account) → RunError → (a b : W) → (status : ℕ) → Type 0
OnlyTells account error a b status = WroteText (account a) (account b) (fault_text error) × (status ≡ 3)

-- why no further line is written is told, or memory is wanted for that
abbrev pub TellsHalt : {W : Type 0} → (account : W → Account) → Halts.Halt → (a b : W) → (status : ℕ) → Type 0
TellsHalt account halt a b status =
    (WroteText (account a) (account b) (halt_text halt) × (status ≡ status_of halt)) ⊎ OnlyTells account OutOfMemory a b status

-- the lines of a reader's messages are written; and why there are no more, where there is no status
pub record TellsInput {R S : Type 0} (left : R → Option (List ℕ)) (account : S → Account) (input : R) (a b : S) (status : ℕ) (A : Type 0) : Type 0 where
  pub s : Stream R A
  pub t : Stream R A
  pub fresh : IsNew input message_settings s
  pub answer : Result ℕ RunError
  pub between : S
  pub tells : TellsMessages left message_of s t (account a) (account between) (between ≡ a) answer
  pub ends : EndsWith account answer between b status

-- The messages of a reader's lines are written, and why no more is told; or there is no memory to hold them.
module _ {R W E : Type 0} (left : R → Option (List ℕ)) (contents : W → Option (List ℕ)) (account : E → Account) (reader : R) (writer : W)
    (a b : E) (status : ℕ) (A : Type 0) where
  pub record Writes : Type 0 where
    pub s : Stream R A
    pub t : Stream R A
    pub fresh : IsNew reader line_settings s
    pub o : Outgoing W A
    pub p : Outgoing W A
    pub before : IsNewBefore writer 65536 o
    pub halt : Halts.Halt
    pub sent : SentBefore left contents s o halt t p
    pub tells : TellsHalt account halt a b status

  abbrev pub WritesMessages : Type 0
  WritesMessages = Writes ⊎ OnlyTells account OutOfMemory a b status

-- By the folder of the files of lines: the same of the lines of a file, or it couldn't be opened.
module _ {G R W E : Type 0} (IsFile : G → (name : List ℕ) → Counted R → Type 0) (left : R → Option (List ℕ)) (missed : G → ℕ) (files files' : G)
    (contents : W → Option (List ℕ)) (writer : W) (account : E → Account) (a b : E) (status : ℕ) (A : Type 0) where
  abbrev pub WritesFile : (name : List ℕ) → Type 0
  WritesFile name =
      ((file : Counted R) × IsFile files name file × (missed files' ≡ missed files)
      × WritesMessages left contents account file.inner writer a b status A) ⊎
      ((missed files' ≡ one_more (missed files)) × OnlyTells account Read a b status)

-- What is done for words, by a folder, by the same of lines, and by standard input; from `c` to `d`, and from `a` to `b` for faults.
module _ {F S I W E T : Type 0} (IsFile : F → (name : List ℕ) → S → Type 0) (of : S → Account) (missed : F → ℕ) (folder folder' : F)
    (left : I → Option (List ℕ)) (input : I) (contents : W → Option (List ℕ)) (writer : W) (account : E → Account) (a b : E) (told : T → Account)
    (c d : T) (status : ℕ) (A : Type 0) (OfLines : (name : List ℕ) → Type 0) (SameFiles : Type 0) (words : List (List ℕ)) where
  -- for a task
  abbrev pub Performs : Tasks.Task → Type 0
  Performs Task.Report = (b ≡ a) × SameFiles × ToldAsked IsFile of words missed folder folder' IsReport (told c) (told d) status
  Performs Task.Input = (b ≡ a) × SameFiles × (folder' ≡ folder) × TellsInput left told input c d status A
  Performs Task.WriteInput = (d ≡ c) × SameFiles × (folder' ≡ folder) × WritesMessages left contents account input writer a b status A
  Performs (Task.WriteFile file) = (d ≡ c) × (folder' ≡ folder) × OfLines file.now

  -- for the task that they ask for, or `usage`
  abbrev pub Answers : Type 0
  Answers = ((task : Tasks.Task) × Asks words task × Performs task) ⊎
      (AsksTooMuch words × SameFiles × (folder' ≡ folder) × (d ≡ c) × OnlyTells account Usage a b status)
