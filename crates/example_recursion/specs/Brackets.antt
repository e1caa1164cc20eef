-- Digits in brackets, by their grammar.
use Rattle.std.specs.Prelude.{ℕ, Bool}
use Rattle.nom.specs.Bytes.{Bytes, BytesWord, alt_of, char_of, delimited_of, digit1_of, or_of, recursive_of, slice_view}

abbrev pub bracket_of : BytesWord Bytes → BytesWord Bytes
bracket_of inner = alt_of (or_of (delimited_of (char_of 40) inner (char_of 41)) digit1_of)

-- digits in brackets, of at most that many layers, in a mode
abbrev pub brackets_of : Bool → ℕ → BytesWord Bytes
brackets_of streaming = recursive_of streaming slice_view bracket_of
