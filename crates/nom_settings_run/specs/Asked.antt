-- What is done for the words of the command line. The first word is the program's name.
use Rattle.std.specs.Prelude.{◌≡◌, ℕ, ◌<◌, ◌≤◌, ◌⊎◌, List, length}
use Rattle.nom_io.specs.Account.{Account}
use Rattle.nom_run.specs.declared.error.RunError.TheVariants.{Usage}
use Rattle.nom_run.specs.Asked.{ToldAsked}
use Rattle.nom_run.specs.Reporting.{WroteText, fault_text}
use Rattle.nom_settings_run.specs.Report.{IsReport}

-- the settings of the file that the second word names; more words are wrong, and nothing is opened for them
abbrev pub Answers : {F S : Type 0} → (IsFile : F → (name : List ℕ) → S → Type 0) → (of : S → Account) → (missed : F → ℕ) → (folder folder' : F) →
    (a b : Account) → (status : ℕ) → (words : List (List ℕ)) → Type 0
Answers IsFile of missed folder folder' a b status words =
    ((length words ≤ 2) × ToldAsked IsFile of words missed folder folder' IsReport a b status) ⊎
    ((2 < length words) × (folder' ≡ folder) × WroteText a b (fault_text Usage) × (status ≡ 3))
