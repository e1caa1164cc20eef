-- The rest of a JSON text at a place within it, by the brackets that lie open there, the innermost first.
use Rattle.std.specs.Prelude.{◌≡◌, ℕ, ◌<◌, ◌≤◌, ◌⊎◌, ◌↔◌, true, List, [], ◌∷◌, Option, MatchOption, length, drop}
use Rattle.nom_json_run.specs.Json.{JsonInside, JsonItem, JsonItems, JsonValue, after_spaces, begins, closing, rest, IsValue}
use Rattle.nom_json_run.specs.Parts.{IsPart}
use Rattle.nom_json_run.specs.Scans.{BeginsAs, FailsFor, IsMissing}
use Rattle.nom_json_run.specs.declared.bracket.Bracket.{Bracket}
use Rattle.nom_json_run.specs.declared.bracket.Fault.{Fault}
use Rattle.nom_json_run.specs.declared.bracket.Awaits.{Awaits}
use Rattle.nom_json_run.specs.declared.bracket.Awaits.TheVariants.{Value, After}
use Rattle.nom_json_run.specs.declared.bracket.Step.{Step}
use Rattle.nom_json_run.specs.declared.bracket.Step.TheVariants.{Go, Stop, Done}

-- the items after one, each after a comma, and then s
abbrev pub Further : Bracket → List ℕ → List ℕ → Type 0
Further o r s = (r ≡ s) ⊎ ((begins 44 r ≡ true) × JsonItems o (after_spaces (rest r)) s)

-- after a value: further items and the closing bracket of each that lies open, and then the end
abbrev pub ClosesAll : List Bracket → List ℕ → Type 0
ClosesAll [] r = r ≡ []
ClosesAll (o ∷ outer) r = (j : List ℕ) × Further o r j × (begins (closing o) j ≡ true) × ClosesAll outer (after_spaces (rest j))

abbrev pub ClosesAfter : (List ℕ → Type 0) → List Bracket → Type 0
ClosesAfter Part inner = (r : List ℕ) × Part r × ClosesAll inner r

-- what stands between brackets from the opening one on, and what follows them
abbrev pub ClosesInside : Bracket → List Bracket → List ℕ → Type 0
ClosesInside o outer i = (r : List ℕ) × JsonInside o i r × ClosesAll outer (after_spaces r)

-- what stands at the place: a value, or what follows one
abbrev pub FinishesText : Awaits → List Bracket → List ℕ → Type 0
FinishesText Value inner i = ClosesAfter (JsonValue i) inner
FinishesText After inner i = ClosesAll inner i

-- A step from a place: where it goes on, the same is awaited of the bytes as before; where it stops it can't come; or all has come.
abbrev pub Stepped : (bytes : List ℕ) → (Before : List ℕ → Type 0) → (at : ℕ) → (inner : List Bracket) → Step → Type 0
Stepped bytes Before at inner (Go stop awaits) = (at < stop) × (stop ≤ length bytes) ×
    ((bs : List ℕ) → BeginsAs bytes stop bs → Before (drop at bs) ↔ FinishesText awaits inner (drop stop bs))
Stepped bytes Before at inner (Stop fault) = FailsFor bytes (λ i. Before i → ⊥) at fault
Stepped bytes Before at inner Done = Before (drop at bytes)

-- what follows the name of a member, or the place itself, is a value where an item stands at the place
pub record IsKey (bytes : List ℕ) (o : Bracket) (at stop : ℕ) : Type 0 where
  pub begins : at ≤ stop
  pub within : stop ≤ length bytes
  pub same : (bs : List ℕ) → BeginsAs bytes stop bs → (r : List ℕ) → JsonItem o (drop at bs) r ↔ JsonValue (drop stop bs) r

-- The fault of bytes that are no value: what is missing isn't at its place. Whatever follows the byte there, the bytes are none, as long as what is
-- missing is missing there.
pub record IsJsonFault (bytes : List ℕ) (fault : Fault) : Type 0 where
  pub within : fault.at ≤ length bytes
  pub part : IsPart fault.missing (drop fault.at bytes)
  pub here : IsValue bytes → ⊥
  pub fails : (bs : List ℕ) → BeginsAs bytes fault.at bs → IsMissing fault.missing (drop fault.at bs) → IsValue bs → ⊥

-- no fault where the bytes are a value, with white space around it; else their fault
abbrev pub IsVerdict : (bytes : List ℕ) → Option Fault → Type 0
IsVerdict bytes verdict = MatchOption verdict (IsValue bytes) (IsJsonFault bytes)
