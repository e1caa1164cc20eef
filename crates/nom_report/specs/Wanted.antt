-- The expectations at a place, as contracts see them, and how they are joined.
use Rattle.std.specs.Prelude.{ℕ, List}
use Rattle.nom_error.specs.declared.kind.ErrorKind.{ErrorKind}
use Rattle.nom_report.specs.declared.expectation.Expected.{Expected}
use Rattle.nom_report.specs.declared.expectation.Expected.TheVariants.{Char, Kind, Label}

-- a character, what a kind stands for, or what a label, as bytes, names
pub data Wanted : Type 0 where
  WantedChar : ℕ → Wanted
  WantedKind : ErrorKind → Wanted
  WantedLabel : List ℕ → Wanted

abbrev pub seen : Expected → Wanted
seen (Char c) = WantedChar c
seen (Kind k) = WantedKind k
seen (Label s) = WantedLabel s.now
