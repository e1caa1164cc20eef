-- The prefixes of a term.
use Rattle.std.specs.Prelude.{List, ◌∷◌, Option, Some, None, map}
use Rattle.nom_traits.specs.View.{View}
use Rattle.nom_operators.specs.declared.prefixes.Prefixes.{Prefixes}

-- the first prefix, if any, and more after it
abbrev pub all_prefixes : {P : Type 0} → Option P → List P → List P
all_prefixes (Some p) ps = p ∷ ps
all_prefixes None ps = ps

abbrev pub prefixes_in : {P A : Type 0} → Prefixes P A → List P
prefixes_in k = all_prefixes k.first k.more.items

-- prefixes are viewed as their list
abbrev pub prefixes_view : {P A : Type 0} → View P → View (Prefixes P A)
prefixes_view v = record { Value = List v.Value; value = λ k. map v.value (prefixes_in k) }
