-- The report on a file.
use Rattle.std.specs.Prelude.{◌≡◌, ℕ, ◌-◌, ◌^◌, ◌≤◌, ◌⊎◌, Bool, false, if◌then◌else◌, List, [], ◌∷◌, length, take, drop, reverse, min, codes, IsUtf8}
use Rattle.std.specs.Prelude.{Result, Ok}
use Rattle.std.specs.Borrow.{Bor}
use Rattle.std.specs.Str.Lossy.{utf8_valid_len}
use Rattle.nom_report.specs.declared.value.Report.{Report}
use Rattle.nom_report.specs.Around.{around}
use Rattle.nom_report.specs.Kept.{kept}
use Rattle.nom_report.specs.Octets.{octets_report}
use Rattle.nom_report.specs.Left.{slice_place}
use Rattle.nom_report.specs.Rendered.{IsRendered}
use Rattle.nom_report.specs.Reports.{IsFurthest}
use Rattle.nom_report.specs.Wanted.{Wanted, WantedChar, WantedLabel}
use Rattle.nom_json_run.specs.declared.bracket.Bracket.{Bracket}
use Rattle.nom_json_run.specs.declared.bracket.Bracket.TheVariants.{Array, Object}
use Rattle.nom_json_run.specs.declared.bracket.Fault.{Fault}
use Rattle.nom_json_run.specs.declared.bracket.Missing as Part
use Rattle.nom_json_run.specs.declared.bracket.Missing.TheVariants as Missing
use Rattle.nom_json_run.specs.Json.{IsJson, after_spaces, begins, closing, opening}
use Rattle.nom_json_run.specs.Walk.{IsJsonFault}

-- what is wanted at a place, in this order, and nothing else, in no context
pub record Wanting (place : Bor (List ℕ)) (wanted : List Wanted) (e : Report (Bor (List ℕ))) : Type 0 where
  pub at_is : e.at ≡ place
  pub expected_is : kept e.expected ≡ record { wanted = wanted; more = false }
  pub inside_is : around e.inside ≡ []
  pub all_inside : e.inside.more ≡ false

-- one of two reports that got further, or what both want where they got as far
abbrev pub JoinsOf : {E : Type 0} (first second : Result (Report (Bor (List ℕ))) E) → Report (Bor (List ℕ)) → Type 0
JoinsOf first second e =
    (a b : Report (Bor (List ℕ))) × (first ≡ Ok a) × (second ≡ Ok b) × IsFurthest slice_place a b e

-- whether a byte is the last of some bytes, but for white space
abbrev pub before_is : ℕ → List ℕ → Bool
before_is byte bs = begins byte (after_spaces (reverse bs))

-- what would be accepted; after an opening bracket the closing one would be too
abbrev pub or_closing : (before : List ℕ) → Bracket → Wanted → List Wanted
or_closing before o wanted = wanted ∷ (if before_is (opening o) before then WantedChar (closing o) ∷ [] else [])

-- what would have been accepted where a part is missing, by what stands before
abbrev pub IsWanted : (before : List ℕ) → Part.Missing → List Wanted → Type 0
IsWanted before Missing.Value ws = ws ≡ or_closing before Array (WantedLabel (codes "a value"))
IsWanted before (Missing.Word word) ws = ws ≡ WantedLabel word.now ∷ []
IsWanted before Missing.Digit ws = ws ≡ WantedLabel (codes "a digit") ∷ []
IsWanted before Missing.Character ws = ws ≡ WantedLabel (codes "a character") ∷ WantedChar 34 ∷ []
IsWanted before Missing.Escape ws = ws ≡ WantedLabel (codes "the letter of an escape") ∷ []
IsWanted before Missing.Hex ws = ws ≡ WantedLabel (codes "a digit in base 16") ∷ []
IsWanted before Missing.Name ws = ws ≡ or_closing before Object (WantedLabel (codes "a name in quotes"))
IsWanted before Missing.Colon ws = ws ≡ WantedChar 58 ∷ []
IsWanted before (Missing.Comma bracket) ws = ws ≡ WantedChar 44 ∷ WantedChar (closing bracket) ∷ []
IsWanted before Missing.End ws = ws ≡ WantedLabel (codes "the end of the text") ∷ []

-- what is missing is wanted where it is missing
pub record TellsFault (bytes : List ℕ) (fault : Fault) (e : Report (Bor (List ℕ))) : Type 0 where
  pub wanted : List Wanted
  pub is_wanted : IsWanted (take fault.at bytes) fault.missing wanted
  pub place : Bor (List ℕ)
  pub place_is : place.now ≡ drop fault.at bytes
  pub wants : Wanting place wanted e

-- a report on a fault in bytes that are text: with the name, the line and the column
pub record IsTextReport (name bytes : List ℕ) (fault : Fault) (text : List ℕ) : Type 0 where
  pub error : Report (Bor (List ℕ))
  pub tells : TellsFault bytes fault error
  pub rendered : IsRendered slice_place name bytes (2 ^ 63 - length bytes) error text

-- a report on bytes that are no text from a place on: with the name and the offset
pub record IsOctetsReport (name bytes : List ℕ) (at : ℕ) (text : List ℕ) : Type 0 where
  pub source : Bor (List ℕ)
  pub source_is : source.now ≡ bytes
  pub place : Bor (List ℕ)
  pub place_is : place.now ≡ drop at bytes
  pub error : Report (Bor (List ℕ))
  pub wants : Wanting place (WantedLabel (codes "a character in UTF-8") ∷ []) error
  pub text_is : text ≡ octets_report name source error

-- The report on the fault of the bytes, or on the first place from which on they are no text; and its place, which is within the bytes.
-- Of a fault behind `inside` that is the place.
abbrev pub IsFaultReport : (name bytes : List ℕ) (inside place : ℕ) (text : List ℕ) → Type 0
IsFaultReport name bytes inside place text = (IsJson bytes → ⊥) × (place ≤ length bytes) ×
    ((IsUtf8 bytes × ((fault : Fault) × IsJsonFault bytes fault × (place ≡ min fault.at inside) × IsTextReport name bytes fault text)) ⊎
    ((IsUtf8 bytes → ⊥) × (place ≡ utf8_valid_len bytes) × IsOctetsReport name bytes place text))

-- nothing is told of a JSON text, with status 0; of all else there is a report, with status 1
abbrev pub IsNamedReport : (name bytes text : List ℕ) → (status : ℕ) → Type 0
IsNamedReport name bytes text status =
    (IsJson bytes × (text ≡ []) × (status ≡ 0)) ⊎ ((status ≡ 1) × ((place : ℕ) × IsFaultReport name bytes (length bytes) place text))
