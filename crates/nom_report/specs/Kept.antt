-- The expectations that a report keeps, and how those of two are joined.
use Rattle.std.specs.Prelude.{◌≡◌, ◌<◌, Bool, true, false, ◌||◌, List, [], ◌∷◌, ◌++◌, length, map, take}
use Rattle.std.specs.List.{IsAmong}
use Rattle.nom_report.specs.Wanted.{Wanted, seen}
use Rattle.nom_report.specs.declared.list.Expectations.{Expectations}

-- what is wanted at a place, in order, as far as there is room for it, and whether more is
pub record Kept : Type 0 where
  pub wanted : List Wanted
  pub more : Bool

abbrev pub kept : Expectations → Kept
kept e = record { wanted = map seen (take e.several.len e.several.items); more = e.more }

-- one thing alone
abbrev pub just : Wanted → Kept
just it = record { wanted = it ∷ []; more = false }

-- e is a, where the thing is wanted there; a and the thing at the end, where there are fewer than eight; and a that tells of more where there
-- are eight
pub data AddsExpectation (a : Kept) (it : Wanted) (e : Kept) : Type 0 where
  IsKnown : IsAmong a.wanted it → e ≡ a → AddsExpectation a it e
  HasRoom : (IsAmong a.wanted it → ⊥) → length a.wanted < 8 →
      e ≡ record { wanted = a.wanted ++ (it ∷ []); more = a.more } → AddsExpectation a it e
  IsLeftOut : (IsAmong a.wanted it → ⊥) → length a.wanted ≡ 8 → e ≡ record { wanted = a.wanted; more = true } → AddsExpectation a it e

-- one after another
abbrev pub AddsEach : Kept → List Wanted → Kept → Type 0
AddsEach a [] e = e ≡ a
AddsEach a (it ∷ more) e = (b : Kept) × AddsExpectation a it b × AddsEach b more e

-- what a wants, and then what b wants besides; it tells of more where either does
pub record Joins (a b e : Kept) : Type 0 where
  pub both : Kept
  pub added : AddsEach a b.wanted both
  pub wanted_is : e.wanted ≡ both.wanted
  pub more_is : e.more ≡ both.more || b.more
