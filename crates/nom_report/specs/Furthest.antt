-- Reports of a choice on its branches: the furthest place that any of them reached, and all that was expected there.
use Rattle.std.specs.Prelude.{◌≡◌, ℕ, ◌≤◌, Bool, IsTrue, ◌⊎◌, List, [], ◌∷◌}
use Rattle.std.specs.List.{IsAmong}
use Rattle.nom_internal.specs.Prelude.{Meaning, Model, Refuse}
use Rattle.nom_choose.specs.Lists.{Each, list_meaning}
use Rattle.nom_report.specs.Wanted.{Wanted}
use Rattle.nom_report.specs.Kept.{Kept, kept}
use Rattle.nom_report.specs.Reports.{report_errors}
use Rattle.nom_report.specs.declared.value.Report.{Report}

-- a branch refuses at an input, with an error
abbrev pub refuses_with : {I V E : Type 0} → Bool → Meaning I V E → I → E → Type 0
refuses_with s m i e = m.answers s i Refuse × m.blames s i e

-- each of the branches refuses, with an error of its own
abbrev pub EachRefuses : {I E : Type 0} → List (I → E → Type 0) → I → List E → Type 0
EachRefuses [] i [] = Unit {0}
EachRefuses [] i (e ∷ es) = ⊥
EachRefuses (b ∷ bs) i [] = ⊥
EachRefuses (b ∷ bs) i (e ∷ es) = b i e × EachRefuses bs i es

-- the fact of one of the elements
abbrev pub One : {X : Type 0} → (X → Type 0) → List X → Type 0
One P [] = ⊥
One P (x ∷ xs) = P x ⊎ One P xs

-- all that is wanted by a is wanted by e, or e tells of more
abbrev pub HasAll : Kept → Kept → Type 0
HasAll a e = (it : Wanted) → IsAmong a.wanted it → IsAmong e.wanted it ⊎ IsTrue e.more

module _ {I : Type 0} (place : I → ℕ) where
  -- of some reports: e stands where one of them does, and none got further; it tells what each of them expected there
  pub record TellsFurthest (es : List (Report I)) (e : Report I) : Type 0 where
    pub stands_at_one : One (λ x. x.at ≡ e.at) es
    pub none_further : Each (λ x. place x.at ≤ place e.at) es
    pub tells_all : Each (λ x. place x.at ≡ place e.at → HasAll (kept x.expected) (kept e.expected)) es

  -- Where a choice refuses, so does each branch, with one of some errors, and the choice's report tells what theirs do.
  abbrev pub TellsOfErrors : {A V : Type 0} → Model I A → (I → List (Report I) → Type 0) → Meaning I V (Report I) → Bool → Type 0
  TellsOfErrors w AllRefuse m s = (i : I) (e : Report I) → w.IsKnown i → m.answers s i Refuse → m.blames s i e →
      (es : List (Report I)) × AllRefuse i es × TellsFurthest es e

  abbrev pub TellsOfBranches : {A V : Type 0} → Model I A → List (I → Report I → Type 0) → Meaning I V (Report I) → Bool → Type 0
  TellsOfBranches w bs = TellsOfErrors w (EachRefuses bs)

-- each of some branches, by its state
abbrev pub branches_of : {S I V E : Type 0} → (S → Meaning I V E) → Bool → List S → List (I → E → Type 0)
branches_of part s [] = []
branches_of part s (t ∷ ts) = refuses_with s (part t) ∷ branches_of part s ts

-- the same of the branches of a list, of which there is one at least
abbrev pub TellsOfEach : {S I A V : Type 0} → (I → ℕ) → Model I A → (S → Meaning I V (Report I)) → List S → Bool → Type 0
TellsOfEach place w part [] s = Unit {0}
TellsOfEach place w part (t ∷ ts) s =
    TellsOfBranches place w (branches_of part s (t ∷ ts)) (list_meaning (report_errors place) part (t ∷ ts)) s
