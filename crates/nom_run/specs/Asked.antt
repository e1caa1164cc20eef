-- The words of a command line, and what they ask for. The first is the program's name.
use Rattle.std.specs.Prelude.{◌≡◌, ℕ, ◌<◌, ◌⊎◌, List, [], length, drop, slice_index_or}
use Rattle.nom_io.specs.Account.{Account, one_more}
use Rattle.nom_run.specs.declared.error.RunError.{RunError}
use Rattle.nom_run.specs.Runs.{CanGrow, CutAbove, MatchRunError, Reported, Stopped}
use Rattle.nom_run.specs.Reporting.{WroteText, fault_text}
use Rattle.nom_run.specs.Words.{Numbers, BadWord, StartsWithNumbers}

-- a file, and then the cuts
pub record Asks (words : List (List ℕ)) (file : List ℕ) (cuts : List ℕ) : Type 0 where
  pub enough : 1 < length words
  pub first : file ≡ slice_index_or words 1 []
  pub others : Numbers (drop 2 words) cuts

-- no file, or cuts that are wrong
abbrev pub IsWrong : List (List ℕ) → Type 0
IsWrong words = (length words < 2) ⊎ BadWord (drop 2 words)

-- By which sources are the file of a name, as it is when a folder opens it; by the account of a source; and by a folder's count of files
-- that it couldn't open: what is done for some words, from one state of a folder to another.
module _ {F S : Type 0} (IsFile : F → (name : List ℕ) → S → Type 0) (account : S → Account) (words : List (List ℕ))
    (missed : F → ℕ) (folder folder' : F) where
  -- the file that the words name was opened, and these are the words' cuts
  pub record Opened (cuts : List ℕ) (s : S) : Type 0 where
    pub name : List ℕ
    pub asks : Asks words name cuts
    pub file : IsFile folder name s
    pub none : missed folder' ≡ missed folder

  -- a file couldn't be opened, or a read of it failed
  abbrev pub WhyRead : Type 0
  WhyRead =
      (missed folder' ≡ one_more (missed folder)) ⊎
      ((cuts : List ℕ) × (s t : S) × Opened cuts s × ((account t).failures ≡ one_more (account s).failures))

  -- memory was wanted for a cut of the words, and no file was opened; or for what was read, or the report
  abbrev pub WhyMemory : Type 0
  WhyMemory =
      ((folder' ≡ folder) × StartsWithNumbers (drop 2 words)) ⊎
      ((cuts : List ℕ) × (s t : S) × Opened cuts s × CanGrow (account s) (account t) cuts)

  -- the words are wrong, and no file was opened; or a cut lies above what was read
  abbrev pub WhyUsage : Type 0
  WhyUsage =
      ((folder' ≡ folder) × IsWrong words) ⊎
      ((cuts : List ℕ) × (s t : S) × Opened cuts s × CutAbove (account s) (account t) cuts)

  -- by the account of the sink
  module _ (IsReport : (bytes cuts text : List ℕ) → (status : ℕ) → Type 0) (a b : Account) where
    -- the report on the file was written, with this status
    abbrev pub ReportsAsked : (status : ℕ) → Type 0
    ReportsAsked status = (cuts : List ℕ) × (s t : S) × Opened cuts s × Reported IsReport (account s) (account t) a b cuts status

    -- of the report on the file a beginning was written, until a write failed
    abbrev pub BeginsAsked : Type 0
    BeginsAsked = (cuts : List ℕ) × (s t : S) × Opened cuts s × Stopped IsReport (account s) (account t) a b cuts

    -- What a program wrote, and its status.
    pub data ToldAsked (status : ℕ) : Type 0 where
      -- the report on the file
      ReportAsked : ReportsAsked status → ToldAsked status
      -- a beginning of it
      BrokenAsked : BeginsAsked → status ≡ 3 → ToldAsked status
      -- the line that tells why there is no report
      FaultAsked : (error : RunError) → MatchRunError error WhyRead ⊥ WhyMemory WhyUsage → WroteText a b (fault_text error) → status ≡ 3 →
          ToldAsked status
