-- The output of a program: where there is no report, and in all cases.
use Rattle.std.specs.Prelude.{◌≡◌, ℕ, ◌⊎◌, List, [], codes, Result, Ok, Err}
use Rattle.nom_io.specs.Account.{Account, one_more}
use Rattle.nom_io.specs.Written.{Wrote, WroteFront}
use Rattle.nom_run.specs.declared.error.RunError.{RunError}
use Rattle.nom_run.specs.declared.error.RunError.TheVariants.{Read, Write, OutOfMemory, Usage}
use Rattle.nom_run.specs.Runs.{CanGrow, CutAbove, Falls, MatchRunError, Reported, Stopped}

-- one line, and nothing where a write failed
abbrev pub fault_text : RunError → List ℕ
fault_text Read = codes "file fault\n"
fault_text Write = []
fault_text OutOfMemory = codes "out of memory\n"
fault_text Usage = codes "usage\n"

-- all of a text was written, or a beginning of it until a write failed
abbrev pub WroteText : (a b : Account) → (text : List ℕ) → Type 0
WroteText a b text = Wrote a b text ⊎ WroteFront a b text

-- What a program wrote to a sink, and its status, where it reports on what a source gave.
pub data ToldRun (IsReport : (bytes cuts text : List ℕ) → (status : ℕ) → Type 0) (s t a b : Account) (cuts : List ℕ) (status : ℕ) : Type 0 where
  -- the report
  ReportRun : Reported IsReport s t a b cuts status → ToldRun IsReport s t a b cuts status
  -- a beginning of it, until a write failed
  BrokenRun : Stopped IsReport s t a b cuts → status ≡ 3 → ToldRun IsReport s t a b cuts status
  -- the line that tells why there is no report
  FaultRun : (error : RunError) → MatchRunError error (t.failures ≡ one_more s.failures) ⊥ (CanGrow s t cuts) (Falls cuts ⊎ CutAbove s t cuts) →
      WroteText a b (fault_text error) → status ≡ 3 → ToldRun IsReport s t a b cuts status

-- An answer's status; or the line that tells why there is none, with status 3. After a failed write there is nothing more.
abbrev pub EndsWith : {W : Type 0} → (account : W → Account) → Result ℕ RunError → (a b : W) → (status : ℕ) → Type 0
EndsWith account (Ok given) a b status = (status ≡ given) × (b ≡ a)
EndsWith account (Err error) a b status = (status ≡ 3) × WroteText (account a) (account b) (fault_text error) × (error ≡ Write → b ≡ a)

-- What is done for words that were read. Where they couldn't be, the line that tells why is written, with status 3, and nothing else is done.
abbrev pub ByWords : {V : Type 0} → Result V RunError → (Done : V → Type 0) → (Same : Type 0) → (a b : Account) → (status : ℕ) → Type 0
ByWords (Ok v) Done Same a b status = Done v
ByWords (Err error) Done Same a b status = Same × WroteText a b (fault_text error) × (status ≡ 3)
