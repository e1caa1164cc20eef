-- What the words of the command line ask for, and what is done for them. The first word is the program's name.
use Rattle.std.specs.Prelude.{◌≡◌, ◌≢◌, ℕ, ◌<◌, ◌⊎◌, false, true, List, [], length, slice_index_or, codes, Option, None, Result}
use Rattle.nom_io.specs.Account.{Account, one_more}
use Rattle.nom_io.specs.declared.counted.Counted.{Counted}
use Rattle.nom_run.specs.declared.error.RunError.{RunError}
use Rattle.nom_run.specs.declared.error.RunError.TheVariants.{Read, Usage}
use Rattle.nom_run.specs.Asked.{ToldAsked}
use Rattle.nom_run.specs.Reporting.{EndsWith, ToldRun, WroteText, fault_text}
use Rattle.nom_stream.specs.declared.settings.Settings.{Settings}
use Rattle.nom_stream.specs.declared.stream.Stream.{Stream}
use Rattle.nom_stream.specs.Held.{held_of}
use Rattle.nom_json_run.specs.declared.program.Task as Tasks
use Rattle.nom_json_run.specs.declared.program.Task.TheVariants as Task
use Rattle.nom_json_run.specs.JsonLines.{ListsLines}
use Rattle.nom_json_run.specs.Report.{IsNamedReport}

abbrev pub word : List (List ℕ) → ℕ → List ℕ
word words place = slice_index_or words place []

-- a file, or `-` for standard input; and the same after `--lines`
abbrev pub Asks : List (List ℕ) → Tasks.Task → Type 0
Asks words (Task.Text file) = (length words ≡ 2) × (file.now ≡ word words 1) × (word words 1 ≢ codes "-") × (word words 1 ≢ codes "--lines")
Asks words Task.Input = (length words ≡ 2) × (word words 1 ≡ codes "-")
Asks words (Task.Lines file) = (length words ≡ 3) × (word words 1 ≡ codes "--lines") × (file.now ≡ word words 2) × (word words 2 ≢ codes "-")
Asks words Task.InputLines = (length words ≡ 3) × (word words 1 ≡ codes "--lines") × (word words 2 ≡ codes "-")

-- no file, `--lines` without one, or too many words
abbrev pub AsksNothing : List (List ℕ) → Type 0
AsksNothing words = (length words < 2) ⊎ (3 < length words) ⊎ ((length words ≡ 2) × (word words 1 ≡ codes "--lines")) ⊎
    ((length words ≡ 3) × (word words 1 ≢ codes "--lines"))

-- how lines are read: none may have more than 16 MiB, and the last one may lack its end
abbrev pub line_settings : Settings
line_settings = record { read = 65536; most = 16777216; patient = true; complete = true }

-- a stream on a reader of which nothing was read
pub record IsNew {R A : Type 0} (reader : R) (settings : Settings) (s : Stream R A) : Type 0 where
  pub source : s.source.inner ≡ reader
  pub none : s.source.faults.count ≡ 0
  pub held : held_of s.held ≡ []
  pub offset : s.offset ≡ 0
  pub goes_on : s.ended ≡ false
  pub pending : s.pending ≡ None
  pub settings_are : s.settings ≡ settings

-- a reader of which no call was made
pub record IsFresh {R : Type 0} (reader : R) (s : Counted R) : Type 0 where
  pub inner : s.inner ≡ reader
  pub none : (s.calls ≡ 0) × (s.faults.count ≡ 0) × (s.stalled ≡ 0)

-- the account of a reader, by what it has left
abbrev pub account_of : {R : Type 0} → (left : R → Option (List ℕ)) → Counted R → Account
account_of left s = record { bytes = left s.inner; calls = s.calls; failures = s.faults.count; stalls = s.stalled }

-- By what a reader has left, and the account of the sink: what is written, and the status.
module _ {R W : Type 0} (left : R → Option (List ℕ)) (account : W → Account) (reader : R) (a b : W) (status : ℕ) where
  -- the report on what the reader gives
  pub record ChecksText : Type 0 where
    pub s : Counted R
    pub t : Counted R
    pub fresh : IsFresh reader s
    pub told : ToldRun (λ bytes cuts. IsNamedReport (codes "standard input") bytes) (account_of left s) (account_of left t) (account a) (account b) [] status

  -- what is told of the lines that it gives; and why there are no more, where there is no status
  pub record ChecksLines (A : Type 0) : Type 0 where
    pub s : Stream R A
    pub t : Stream R A
    pub fresh : IsNew reader line_settings s
    pub answer : Result ℕ RunError
    pub between : W
    pub lists : ListsLines left s t (account a) (account between) answer
    pub ends : EndsWith account answer between b status

-- no more is done than a line is written that tells an error
abbrev pub OnlyTells : {W : Type 0} → (account : W → Account) → RunError → (a b : W) → (status : ℕ) → Type 0
OnlyTells account error a b status = WroteText (account a) (account b) (fault_text error) × (status ≡ 3)

-- By the folder of the files of lines: the same of the lines of a file, or it couldn't be opened.
module _ {G R W : Type 0} (IsFile : G → (name : List ℕ) → Counted R → Type 0) (left : R → Option (List ℕ)) (missed : G → ℕ) (files files' : G)
    (account : W → Account) (a b : W) (status : ℕ) (A : Type 0) where
  abbrev pub ChecksFile : (name : List ℕ) → Type 0
  ChecksFile name =
      ((file : Counted R) × IsFile files name file × (missed files' ≡ missed files) × ChecksLines left account file.inner a b status A) ⊎
      ((missed files' ≡ one_more (missed files)) × OnlyTells account Read a b status)

-- What is done for words, by a folder, by the same of lines, and by standard input.
module _ {F S I W : Type 0} (IsFile : F → (name : List ℕ) → S → Type 0) (of : S → Account) (missed : F → ℕ) (folder folder' : F)
    (left : I → Option (List ℕ)) (input : I) (account : W → Account) (a b : W) (status : ℕ) (A : Type 0)
    (OfLines : (name : List ℕ) → Type 0) (SameFiles : Type 0) (words : List (List ℕ)) where
  -- for a task
  abbrev pub Performs : Tasks.Task → Type 0
  Performs (Task.Text file) =
      SameFiles × ToldAsked IsFile of words missed folder folder' (λ bytes cuts. IsNamedReport file.now bytes) (account a) (account b) status
  Performs Task.Input = SameFiles × (folder' ≡ folder) × ChecksText left account input a b status
  Performs (Task.Lines file) = (folder' ≡ folder) × OfLines file.now
  Performs Task.InputLines = SameFiles × (folder' ≡ folder) × ChecksLines left account input a b status A

  -- for the task that they ask for, or `usage`
  abbrev pub Answers : Type 0
  Answers = ((task : Tasks.Task) × Asks words task × Performs task) ⊎
      (AsksNothing words × SameFiles × (folder' ≡ folder) × OnlyTells account Usage a b status)
