-- JSON Lines: what is told of lines that come one after another.
use Rattle.std.specs.Prelude.{◌≡◌, ℕ, ◌+◌, ◌-◌, ◌^◌, ◌==◌, ◌⊎◌, Bool, true, false, if◌then◌else◌, List, [], ◌++◌, take, count_by}
use Rattle.std.specs.Prelude.{Option, None, Some, Result, Ok, Err, codes}
use Rattle.std.specs.Fmt.{decimal}
use Rattle.std.specs.List.{before_first}
use Rattle.nom_located.specs.Lines.{begins_character}
use Rattle.nom_stream.specs.ReaderLines.{line_of}
use Rattle.nom_io.specs.Account.{Account}
use Rattle.nom_io.specs.Written.{Wrote, WroteFront}
use Rattle.nom_run.specs.declared.error.RunError.{RunError}
use Rattle.nom_run.specs.declared.error.RunError.TheVariants as Error
use Rattle.nom_stream.specs.declared.stream.Stop as Stops
use Rattle.nom_stream.specs.declared.stream.Stop.TheVariants as Stop
use Rattle.nom_stream.specs.declared.stream.Stream.{Stream}
use Rattle.nom_stream.specs.Held.{last_of}
use Rattle.nom_stream.specs.Streams.{Decides}
use Rattle.nom_json_run.specs.Json.{IsJson}
use Rattle.nom_json_run.specs.Report.{IsFaultReport}

-- the text for a line that is no JSON text: its number, a column in it, and what is wrong there
abbrev pub fault_line : (number column : ℕ) (message : List ℕ) → List ℕ
fault_line number column message = decimal number ++ codes ":" ++ decimal column ++ codes ": " ++ message ++ codes "\n"

-- for a line that is longer than may be held
abbrev pub long_line : (number : ℕ) → List ℕ
long_line number = fault_line number 1 (codes "error: the line is longer than may be held")

-- by a report on the line: the column after some bytes, in characters and from 1 on, and the first line of the report
abbrev pub report_line : (number : ℕ) (before report : List ℕ) → List ℕ
report_line number before report = fault_line number (1 + count_by begins_character before) (before_first (λ b. b == 10) report)

-- the text for a line with so many bytes before its end, which is no JSON text: what is missing behind the end is missing before it
abbrev pub IsLineText : (number inside : ℕ) (bytes text : List ℕ) → Type 0
IsLineText number inside bytes text =
    (place : ℕ) × (report : List ℕ) × IsFaultReport [] bytes inside place report × (text ≡ report_line number (take place bytes) report)

-- Of a line that is a JSON text nothing is told; of another its text. Whether any line was wrong, before and then.
abbrev pub IsLine : (number inside : ℕ) (bytes text : List ℕ) (before then_ : Bool) → Type 0
IsLine number inside bytes text before then_ =
    (IsJson bytes × (text ≡ []) × (then_ ≡ before)) ⊎ (IsLineText number inside bytes text × (then_ ≡ true))

-- no line comes, other than for a limit or for want of memory: so it is where a read failed
abbrev pub StopsAtRead : Stops.Stop → Type 0
StopsAtRead (Stop.Refused kind len) = Unit {0}
StopsAtRead (Stop.Failed kind len) = Unit {0}
StopsAtRead Stop.Nothing = Unit {0}
StopsAtRead (Stop.Incomplete needed) = Unit {0}
StopsAtRead Stop.TooLong = ⊥
StopsAtRead (Stop.Fault error) = Unit {0}
StopsAtRead Stop.OutOfMemory = ⊥

-- So many lines came, from one state of a stream to another: the text is that of those which are no JSON text, in order, and whether
-- there are any. (The end of a line is white space, so that a line may be taken with it.)
pub data CheckedLines {R A : Type 0} (left : R → Option (List ℕ)) (s : Stream R A) : (count : ℕ) (t : Stream R A) (text : List ℕ) (wrong : Bool) → Type 0 where
  none : CheckedLines left s 0 s [] false
  good : {count : ℕ} {t u : Stream R A} {n x : ℕ} {text : List ℕ} {wrong : Bool} → CheckedLines left s count t text wrong →
      Decides left line_of t u (Ok (Some (n, x))) → IsJson (last_of n u.held) → CheckedLines left s (count + 1) u text wrong
  bad : {count : ℕ} {t u : Stream R A} {n x : ℕ} {text more : List ℕ} {wrong : Bool} → CheckedLines left s count t text wrong →
      Decides left line_of t u (Ok (Some (n, x))) → IsLineText (count + 1) x (last_of n u.held) more →
      CheckedLines left s (count + 1) u (text ++ more) true

module _ {R A : Type 0} (left : R → Option (List ℕ)) (s t : Stream R A) (a b : Account) where
  -- that many lines came, and what is told of them was written
  pub record Going (count : ℕ) (wrong : Bool) : Type 0 where
    pub text : List ℕ
    pub lines : CheckedLines left s count t text wrong
    pub wrote : Wrote a b text

  -- The lines came to the end of the data, and what is told of them was written, with status 1 where there is a wrong one, and else 0;
  -- or the next one was longer than may be held, which is told too, with status 3.
  pub record ToldLines (status : ℕ) : Type 0 where
    pub count : ℕ
    pub before : Stream R A
    pub text : List ℕ
    pub wrong : Bool
    pub lines : CheckedLines left s count before text wrong
    pub ends : (Decides left line_of before t (Ok None) × (status ≡ (if wrong then 1 else 0)) × Wrote a b text) ⊎
        (Decides left line_of before t (Err Stop.TooLong) × (status ≡ 3) × Wrote a b (text ++ long_line (count + 1)))

-- What was written where there is no status: what is told of the lines before one.
module _ {R A : Type 0} (left : R → Option (List ℕ)) (s t : Stream R A) (a b : Account) where
  -- the stream gave no line after them, and says why; or they are as many as can be counted
  abbrev pub ReadsNoLine : Type 0
  ReadsNoLine = (count : ℕ) × (before : Stream R A) × (wrong : Bool) × Going left s before a b count wrong ×
      (((why : Stops.Stop) × Decides left line_of before t (Err why) × StopsAtRead why) ⊎ ((count ≡ 2 ^ 64 - 1) × (t ≡ before)))

  -- and a beginning of what is told of that one, until a write failed
  abbrev pub BeginsNext : Type 0
  BeginsNext = (count : ℕ) × (before : Stream R A) × (wrong : Bool) × (between : Account) × Going left s before a between count wrong ×
      (((n x : ℕ) × Decides left line_of before t (Ok (Some (n, x))) ×
      ((text : List ℕ) × (then_ : Bool) × IsLine (count + 1) x (last_of n t.held) text wrong then_ × WroteFront between b text)) ⊎
      (Decides left line_of before t (Err Stop.TooLong) × WroteFront between b (long_line (count + 1))))

  -- memory was wanted by the stream, or for what is told of that one
  abbrev pub LacksNext : Type 0
  LacksNext = (count : ℕ) × (before : Stream R A) × (wrong : Bool) × Going left s before a b count wrong ×
      (Decides left line_of before t (Err Stop.OutOfMemory) ⊎ Decides left line_of before t (Err Stop.TooLong) ⊎
      ((n x : ℕ) × Decides left line_of before t (Ok (Some (n, x)))))

  -- by what is answered
  abbrev pub ListsLines : Result ℕ RunError → Type 0
  ListsLines (Ok status) = ToldLines left s t a b status
  ListsLines (Err Error.Read) = ReadsNoLine
  ListsLines (Err Error.Write) = BeginsNext
  ListsLines (Err Error.OutOfMemory) = LacksNext
  ListsLines (Err Error.Usage) = ⊥
