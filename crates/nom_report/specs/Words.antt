-- Expectations in words.
use Rattle.std.specs.Prelude.{ℕ, ◌+◌, Bool, ◌&&◌, not, nat_eq, if◌then◌else◌, List, [], ◌∷◌, ◌++◌, length, codes, encode_utf8}
use Rattle.std.specs.Char.{is_control}
use Rattle.nom_error.specs.Kinds.{description_of}
use Rattle.nom_error.specs.declared.kind.ErrorKind.{ErrorKind}
use Rattle.nom_error.specs.declared.kind.ErrorKind.TheVariants as Kind
use Rattle.nom_report.specs.Wanted.{Wanted, WantedChar, WantedKind, WantedLabel}

-- what a parser takes that refuses with the kind
abbrev pub kind_text : ErrorKind → List ℕ
kind_text Kind.Tag = codes "fixed text"
kind_text Kind.Alpha = codes "letter"
kind_text Kind.Digit = codes "digit"
kind_text Kind.HexDigit = codes "hexadecimal digit"
kind_text Kind.OctDigit = codes "octal digit"
kind_text Kind.BinDigit = codes "binary digit"
kind_text Kind.AlphaNumeric = codes "letter or digit"
kind_text Kind.Space = codes "space"
kind_text Kind.MultiSpace = codes "white space"
kind_text Kind.Eof = codes "end of input"
kind_text Kind.Char = codes "character"
kind_text Kind.CrLf = codes "line end"
kind_text Kind.Float = codes "number"
kind_text kind = description_of kind

-- A character as it is shown: a tab as it is, U+FFFD in place of another control character. None moves a terminal's cursor so.
abbrev pub shown_char : ℕ → ℕ
shown_char c = if nat_eq c 9 then c else (if is_control c then 0xFFFD else c)

-- between backquotes; tabs and the ends of lines are spelled
abbrev pub char_text : ℕ → List ℕ
char_text c = if nat_eq c 9 then codes "`\\t`" else (if nat_eq c 10 then codes "`\\n`" else (if nat_eq c 13 then codes "`\\r`"
    else (codes "`" ++ encode_utf8 (shown_char c) ++ codes "`")))

abbrev pub expected_text : Wanted → List ℕ
expected_text (WantedChar c) = char_text c
expected_text (WantedKind k) = kind_text k
expected_text (WantedLabel s) = s

-- what stands before the item at an index, of so many: ` or ` before the last, where no more follows
abbrev pub between_text : ℕ → ℕ → Bool → List ℕ
between_text index len more = if nat_eq index 0 then [] else (if (nat_eq (index + 1) len) && not more then codes " or " else codes ", ")

-- items from an index on, of so many
abbrev pub items_text : ℕ → ℕ → Bool → List Wanted → List ℕ
items_text index len more [] = []
items_text index len more (it ∷ its) = between_text index len more ++ expected_text it ++ items_text (index + 1) len more its

-- the first line: as "error: expected `]`, digit or a name"
abbrev pub all_expected_text : List Wanted → Bool → List ℕ
all_expected_text its more = codes "error: expected " ++ items_text 0 (length its) more its ++ (if more then codes " or more" else []) ++ codes "\n"
