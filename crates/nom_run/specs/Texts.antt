-- The lines of a report, as bytes.
use Rattle.std.specs.Prelude.{ℕ, ◌+◌, ◌/◌, ◌%◌, nat_lt, if◌then◌else◌, List, [], ◌∷◌, ◌++◌, length, Option, Some, None, codes}
use Rattle.std.specs.Fmt.{decimal}
use Rattle.nom_error.specs.Kinds.{description_of}
use Rattle.nom_internal.specs.Prelude.{ErrorKind}

-- a digit in base 16: `0` to `9`, then `a` to `f`
abbrev pub hex_digit : ℕ → ℕ
hex_digit n = if nat_lt n 10 then 48 + n else 87 + n

-- two digits for each byte
abbrev pub hex_of : List ℕ → List ℕ
hex_of [] = []
hex_of (byte ∷ bytes) = hex_digit (byte / 16) ∷ hex_digit (byte % 16) ∷ hex_of bytes

-- `index` is that of the cut at which the answer was decided
abbrev pub decided_text : ℕ → List ℕ
decided_text index = codes "decided at " ++ decimal index ++ codes "\n"

-- the digits of bytes, after a space; of none neither
abbrev pub digits_text : List ℕ → List ℕ
digits_text [] = []
digits_text (byte ∷ bytes) = codes " " ++ hex_of (byte ∷ bytes)

-- what the bytes are, how many, and their digits
abbrev pub bytes_text : (name bytes : List ℕ) → List ℕ
bytes_text name bytes = name ++ decimal (length bytes) ++ digits_text bytes ++ codes "\n"

abbrev pub rest_text : ℕ → List ℕ
rest_text count = codes "rest " ++ decimal count ++ codes "\n"

abbrev pub error_text : ErrorKind → ℕ → List ℕ
error_text kind offset = codes "error " ++ description_of kind ++ codes " at " ++ decimal offset ++ codes "\n"

abbrev pub failure_text : ErrorKind → ℕ → List ℕ
failure_text kind offset = codes "failure " ++ description_of kind ++ codes " at " ++ decimal offset ++ codes "\n"

abbrev pub need_text : Option ℕ → List ℕ
need_text None = codes "need more\n"
need_text (Some count) = codes "need " ++ decimal count ++ codes "\n"

-- the lines of a list's items, in order
abbrev pub lines_text : {X : Type 0} → (X → List ℕ) → List X → List ℕ
lines_text line [] = []
lines_text line (x ∷ xs) = line x ++ lines_text line xs
