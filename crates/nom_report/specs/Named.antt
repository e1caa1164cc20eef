-- A context as contracts see it.
use Rattle.std.specs.Prelude.{ℕ, List}
use Rattle.nom_report.specs.declared.enclosing.Enclosing.{Enclosing}

-- a name, as bytes, and the place where what it names begins
pub record Context : Type 0 where
  pub name : List ℕ
  pub begins : ℕ

abbrev pub named : Enclosing → Context
named e = record { name = e.label.now; begins = e.place }
