-- The report on a file of settings.
use Rattle.std.specs.Prelude.{◌≡◌, ℕ, ◌⊎◌, false, List, ◌++◌, take, Result, Ok, Err, Vec, chars, codes, encode_utf8, encode_utf8_all, IsUtf8}
use Rattle.std.specs.Borrow.{Bor}
use Rattle.std.specs.Fmt.{decimal}
use Rattle.std.specs.Str.{IsValidUpTo}
use Rattle.nom_error.specs.Kinds.{description_of}
use Rattle.nom_internal.specs.Prelude.{Needed, ErrorKind, Model, Slice, text_model, Outcome, Accept, Refuse, Stop, Fails, Needs}
use Rattle.nom_error.specs.declared.answer.Err as Answer
use Rattle.nom_error.specs.declared.answer.Err.TheVariants as Stop
use Rattle.nom_error.specs.declared.kind.ErrorKind.TheVariants as Kind
use Rattle.nom_error.specs.declared.value.Error.{Error}
use Rattle.nom_traits.specs.contracts.text.RefStrItems.TheImpl as TextItems
use Rattle.nom_traits.specs.contracts.input.CharValue.TheImpl as CharValue
use Rattle.nom_located.specs.declared.located.Located.{Located}
use Rattle.nom_located.specs.Located.{IsAfter, Place, place, located_model}
use Rattle.nom_run.specs.Texts.{lines_text}
use Rattle.nom_settings_run.specs.Settings.{SectionTree, SettingTree, settings_of}

-- a text that knows its line and column, and its model
abbrev pub Text : Type 0
Text = Located (Bor (List ℕ)) Unit ℕ TextItems.ghosts CharValue.ghosts

abbrev pub place_of : Text → Place
place_of x = place x.offset x.line x.column

abbrev pub seen_there : Model Text ℕ
seen_there = located_model (λ x. x.fragment) place_of (λ x. x.extra) encode_utf8 text_model

-- the names of a setting's section and of the setting, and its value, as they end its line
abbrev pub entry_text : (section name value : List ℕ) → List ℕ
entry_text section name value = section ++ (codes "] " ++ (name ++ (codes "=" ++ (value ++ codes "\n"))))

-- the line of a setting: where its name stands, the name of its section, and its name and value
abbrev pub entry_line : (line column : ℕ) (section name value : List ℕ) → List ℕ
entry_line line column section name value = decimal line ++ (codes ":" ++ (decimal column ++ (codes " [" ++ entry_text section name value)))

-- the line of a fault: where it stands, and its kind
abbrev pub refusal_text : (line column : ℕ) → ErrorKind → List ℕ
refusal_text line column kind = decimal line ++ codes ":" ++ decimal column ++ codes ": " ++ description_of kind ++ codes "\n"

-- the bytes of a tree's characters
abbrev pub bytes_of : Slice seen_there → List ℕ
bytes_of t = encode_utf8_all t.items

-- the lines of settings, by their trees
abbrev pub setting_tree_text : Slice seen_there → SettingTree seen_there → List ℕ
setting_tree_text section t = entry_line t.0.mark.0.0.line t.0.mark.0.0.column (bytes_of section) (bytes_of t.0) (bytes_of t.1)

abbrev pub section_tree_text : SectionTree seen_there → List ℕ
section_tree_text t = lines_text (setting_tree_text t.0) t.1

abbrev pub trees_text : List (SectionTree seen_there) → List ℕ
trees_text ts = lines_text section_tree_text ts

-- the line of a fault that holds of an error
abbrev pub IsRefusalReport : (Error Text → Type 0) → List ℕ → ℕ → Type 0
IsRefusalReport Blames text status = (e : Error Text) × Blames e × (text ≡ refusal_text e.input.line e.input.column e.code) × (status ≡ 1)

-- The text and the status for an outcome on a whole text: the lines of its settings, or the fault. It is of a grammar that never
-- asks for more.
abbrev pub SaysSections : (Error Text → Type 0) → Outcome (List (SectionTree seen_there)) → List ℕ → ℕ → Type 0
SaysSections Blames (Accept n ts) text status = (text ≡ trees_text ts) × (status ≡ 0)
SaysSections Blames Refuse text status = IsRefusalReport Blames text status
SaysSections Blames (Stop (Fails cause)) text status = IsRefusalReport Blames text status
SaysSections Blames (Stop (Needs k)) text status = ⊥

-- of bytes that are text: the grammar's outcome on them, from line 1 and column 1 on, is told
pub record OfText (bytes text : List ℕ) (status : ℕ) : Type 0 where
  pub utf8 : IsUtf8 bytes
  pub whole : Text
  pub whole_is : whole.fragment.now ≡ bytes
  pub begins : place_of whole ≡ place 0 1 1
  pub outcome : Outcome (List (SectionTree seen_there))
  pub answered : (settings_of seen_there {M = Unit {0}}).meaning.answers false whole outcome
  pub says : SaysSections ((settings_of seen_there {M = Unit {0}}).meaning.blames false whole) outcome text status

-- the fault `Char` after the bytes that are text
pub record IsBytesReport (before text : List ℕ) (status : ℕ) : Type 0 where
  pub at : Place
  pub stands : IsAfter (place 0 1 1) before at
  pub text_is : text ≡ refusal_text at.line at.column Kind.Char
  pub status_is : status ≡ 1

-- of other bytes: the first that begins no character is a fault
pub record OfBytes (bytes text : List ℕ) (status : ℕ) : Type 0 where
  pub count : ℕ
  pub longest : IsValidUpTo bytes count
  pub told : IsBytesReport (take count bytes) text status

-- `text` and `status` are the report on `bytes`, in whichever parts they come
unfoldable pub IsReport : (bytes cuts text : List ℕ) → (status : ℕ) → Type 0
IsReport bytes cuts text status = OfText bytes text status ⊎ OfBytes bytes text status

-- the lines of settings, by their outputs
abbrev pub text_bytes : Text → List ℕ
text_bytes x = encode_utf8_all (chars x.fragment.now)

abbrev pub setting_text : Text → (Text × Text) → List ℕ
setting_text section o = entry_line o.0.line o.0.column (text_bytes section) (text_bytes o.0) (text_bytes o.1)

abbrev pub section_text : Text → List (Text × Text) → List ℕ
section_text section os = lines_text (setting_text section) os

abbrev pub sections_text : {A : Type 0} → List (Text × Vec (Text × Text) A) → List ℕ
sections_text os = lines_text (λ o. section_text o.0 o.1.items) os

abbrev AnswerErr : Type 0
AnswerErr = Answer.Err (Error Text) (Error Text) Needed

-- the text and the status where a text isn't accepted
abbrev pub IsStopLine : AnswerErr → List ℕ → ℕ → Type 0
IsStopLine (Stop.Incomplete k) text status = Unit {0}
IsStopLine (Stop.Error e) text status = (text ≡ refusal_text e.input.line e.input.column e.code) × (status ≡ 1)
IsStopLine (Stop.Failure e) text status = (text ≡ refusal_text e.input.line e.input.column e.code) × (status ≡ 1)
IsStopLine Stop.OutOfMemory text status = ⊥

-- the text and the status for an answer
abbrev pub IsSettingsReport : {A : Type 0} → Result (Text × Vec (Text × Vec (Text × Text) A) A) AnswerErr → List ℕ → ℕ → Type 0
IsSettingsReport (Ok a) text status = (text ≡ sections_text a.1.items) × (status ≡ 0)
IsSettingsReport (Err e) text status = IsStopLine e text status
