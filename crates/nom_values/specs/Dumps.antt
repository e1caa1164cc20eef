-- Hex dumps: 9 is the tab, 10 the end of a line, 32 the space, 46 the point and 48 the digit 0.
use Rattle.std.specs.Prelude.{ℕ, zero, suc, ◌+◌, ◌-◌, ◌*◌, ◌/◌, ◌%◌, ◌^◌, ◌<◌, nat_le, false, ◌||◌, List, [], ◌∷◌, ◌++◌, length, take, drop, map}
use Rattle.std.specs.Prelude.{replicate, flat_map, if◌then◌else◌}
use Rattle.std.specs.Int.{is_in_range}
use Rattle.std.specs.Fmt.{digits, digit_glyph}

-- a byte as two digits, and a space
abbrev pub hex_byte : ℕ → List ℕ
hex_byte b = digit_glyph false (b / 16) ∷ digit_glyph false (b % 16) ∷ 32 ∷ []

-- what stands for a byte as a character: a point for control characters
abbrev pub shown_byte : ℕ → ℕ
shown_byte b = if is_in_range 32 126 b || nat_le 128 b then b else 46

-- an offset in at least eight digits
abbrev pub offset_digits : ℕ → List ℕ
offset_digits n = let ds = digits 16 false n in replicate (8 - length ds) 48 ++ ds

-- a line of at most `chunk` bytes: the offset, the digits, three spaces for each byte that is missing, and the bytes
abbrev pub dump_line : ℕ → ℕ → List ℕ → List ℕ
dump_line chunk offset bs =
    offset_digits offset ++ (9 ∷ (flat_map hex_byte bs ++ (replicate (3 * (chunk - length bs)) 32 ++ (9 ∷ (map shown_byte bs ++ (10 ∷ []))))))

-- the lines of some bytes, the first with an offset; n is at least how many lines there are
abbrev pub dump_lines : ℕ → ℕ → ℕ → List ℕ → List ℕ
dump_lines zero chunk offset bs = []
dump_lines (suc n) chunk offset [] = []
dump_lines (suc n) chunk offset (b ∷ bs) = dump_line chunk offset (take chunk (b ∷ bs)) ++ dump_lines n chunk (offset + chunk) (drop chunk (b ∷ bs))

-- the dump of some bytes
abbrev pub hex_dump : ℕ → ℕ → List ℕ → List ℕ
hex_dump chunk from bs = dump_lines (length bs) chunk from bs

-- each line's offset fits 64 bits
abbrev pub OffsetsFit : ℕ → ℕ → List ℕ → Type 0
OffsetsFit chunk from bs = (k : ℕ) → k * chunk < length bs → from + k * chunk < 2 ^ 64
