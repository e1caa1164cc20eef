-- The line of a source at a place, and a caret below it. A source is its bytes before the place and after it.
use Rattle.std.specs.Prelude.{◌≡◌, ◌≢◌, ℕ, ◌+◌, ◌-◌, ◌<◌, Bool, true, false, nat_eq, nat_le, nat_lt, if◌then◌else◌, List, []}
use Rattle.std.specs.Prelude.{◌∷◌, ◌++◌, length, map, take, drop, chars, codes, count_by, min, replicate, slice_index, encode_utf8_all}
use Rattle.std.specs.Fmt.{decimal}
use Rattle.std.specs.Str.{IsCharBoundary}
use Rattle.nom_report.specs.Words.{shown_char}

-- a source at an offset; at its end, where no character begins there
pub data IsCut (source : List ℕ) (offset : ℕ) (before after : List ℕ) : Type 0 where
  AtPlace : IsCharBoundary source offset → before ≡ take offset source → after ≡ drop offset source → IsCut source offset before after
  AtEnd : (IsCharBoundary source offset → ⊥) → before ≡ source → after ≡ [] → IsCut source offset before after

-- none of the bytes ends a line, as 10 does
abbrev pub HasNoEnd : List ℕ → Type 0
HasNoEnd bs = (i : ℕ) → i < length bs → slice_index bs i ≢ 10

-- what stands in the last line of some bytes
pub data IsLastLine (bs line : List ℕ) : Type 0 where
  IsAll : line ≡ bs → HasNoEnd bs → IsLastLine bs line
  IsAfterEnd : (front : List ℕ) → bs ≡ front ++ (10 ∷ line) → HasNoEnd line → IsLastLine bs line

-- what stands before the end of a line, 10, or 13 and 10
pub data IsWithoutReturn (bs line : List ℕ) : Type 0 where
  HasReturn : bs ≡ line ++ (13 ∷ []) → IsWithoutReturn bs line
  HasNone : ((front : List ℕ) → bs ≢ front ++ (13 ∷ [])) → line ≡ bs → IsWithoutReturn bs line

-- what stands in the first line of some bytes
pub data IsFirstLine (bs line : List ℕ) : Type 0 where
  IsRest : line ≡ bs → HasNoEnd bs → IsFirstLine bs line
  IsBeforeEnd : (front rest : List ℕ) → bs ≡ front ++ (10 ∷ rest) → HasNoEnd front → IsWithoutReturn front line → IsFirstLine bs line

-- the number of the line that some bytes end in; the first is 1
abbrev pub line_of : List ℕ → ℕ
line_of bs = 1 + count_by (λ b. nat_eq b 10) bs

-- the characters of a text
abbrev pub columns : List ℕ → ℕ
columns bs = length (chars bs)

-- what leaves as much room as a character: a tab leaves that of a tab
abbrev pub room_char : ℕ → ℕ
room_char c = if nat_eq c 9 then c else 32

-- below a line (true) what leaves room for a character, and else the character as it is shown
abbrev pub written_char : Bool → ℕ → ℕ
written_char true = room_char
written_char false = shown_char

abbrev pub written_text : Bool → List ℕ → List ℕ
written_text below cs = encode_utf8_all (map (written_char below) cs)

-- The characters of the line before the place that are left out, where the line is too wide: all but the last 38. A line of 76 is not too wide.
abbrev pub left_out : ℕ → ℕ → ℕ
left_out before after = if nat_le (before + after) 76 then 0 else before - 38

-- how many characters from the place on are shown: as many as there is room for
abbrev pub shown_after : ℕ → ℕ → ℕ
shown_after before after = min after (76 - (before - left_out before after))

-- `..`, where something is left out
abbrev pub dots : Bool → List ℕ
dots out = if out then codes ".." else []

abbrev pub dots_room : Bool → List ℕ
dots_room out = if out then codes "  " else []

-- the line, of its characters before the place and from it on
abbrev pub line_text : List ℕ → List ℕ → List ℕ
line_text before after =
    let out = left_out (length before) (length after) in
    let inside = shown_after (length before) (length after) in
    dots (nat_lt 0 out) ++ written_text false (drop out before) ++ written_text false (take inside after) ++ dots (nat_lt inside (length after)) ++ codes "\n"

-- the caret, in the column of the place
abbrev pub caret_text : List ℕ → List ℕ → List ℕ
caret_text before after =
    let out = left_out (length before) (length after) in
    dots_room (nat_lt 0 out) ++ written_text true (drop out before) ++ codes "^\n"

-- the line, after its number, and below it the caret
abbrev pub quote_text : ℕ → List ℕ → List ℕ → List ℕ
quote_text line before after =
    decimal line ++ codes " | " ++ line_text before after ++ replicate (length (decimal line)) 32 ++ codes " | " ++ caret_text before after

-- a place, as `3:7`: its line, and its column in characters, the first of each 1; by its line's bytes before it
abbrev pub place_text : ℕ → List ℕ → List ℕ
place_text line before = decimal line ++ codes ":" ++ decimal (1 + columns before)

-- t is the place after some bytes
pub record IsPlaceText (before t : List ℕ) : Type 0 where
  pub left : List ℕ
  pub left_is : IsLastLine before left
  pub text_is : t ≡ place_text (line_of before) left

-- t is the line of the place between some bytes
pub record IsQuote (before after t : List ℕ) : Type 0 where
  pub left : List ℕ
  pub right : List ℕ
  pub left_is : IsLastLine before left
  pub right_is : IsFirstLine after right
  pub text_is : t ≡ quote_text (line_of before) (chars left) (chars right)
