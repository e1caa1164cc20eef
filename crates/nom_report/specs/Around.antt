-- The contexts that a report keeps.
use Rattle.std.specs.Prelude.{◌≡◌, ◌↔◌, ◌<◌, ◌⊎◌, IsTrue, List, [], ◌∷◌, ◌++◌, length, map, take}
use Rattle.nom_report.specs.Named.{Context, named}
use Rattle.nom_report.specs.declared.around.Around.{Around}

-- the contexts that are kept, the innermost first
abbrev pub around : Around → List Context
around a = map named (take a.contexts.len a.contexts.items)

-- the contexts of a, and one around them; that one is left out, and it is told, where there are four
pub record IsEnclosed (a : Around) (it : Context) (e : Around) : Type 0 where
  pub kept : around e ≡ take 4 (around a ++ (it ∷ []))
  pub told : IsTrue e.more ↔ (IsTrue a.more ⊎ (4 < length (around a ++ (it ∷ []))))
