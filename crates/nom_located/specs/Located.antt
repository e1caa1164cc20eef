-- An input that knows where it lies: how far from the start in bytes, in which line, and where in that line.
use Rattle.std.specs.Prelude.{◌≡◌, ℕ, ◌+◌, ◌<◌, ◌≤◌, ◌^◌, Bool, true, false, nat_eq, List, [], ◌∷◌, ◌++◌, length, count_by}
use Rattle.nom_traits.specs.Input.{Model}
use Rattle.nom_located.specs.Moving.{Moving, moving_model}

-- how many bytes stand before it; its line, and its place in that line in bytes, both from 1 on
pub record Place : Type 0 where
  pub offset : ℕ
  pub line : ℕ
  pub column : ℕ

abbrev pub place : ℕ → ℕ → ℕ → Place
place offset line column = record { offset = offset; line = line; column = column }

-- after a byte that ends the line (true), or another
abbrev pub step : Place → Bool → Place
step p true = place (p.offset + 1) (p.line + 1) 1
step p false = place (p.offset + 1) p.line (p.column + 1)

-- after bytes; the byte 10 ends a line
abbrev pub past_bytes : Place → List ℕ → Place
past_bytes p [] = p
past_bytes p (b ∷ bs) = past_bytes (step p (nat_eq b 10)) bs

-- line and column are within what was passed, and what was passed and what is left fit a slice
pub record FitsPlace (p : Place) (len : ℕ) : Type 0 where
  pub fits : p.offset + len < 2 ^ 63
  pub line_from : 1 ≤ p.line
  pub line_to : p.line ≤ p.offset + 1
  pub column_from : 1 ≤ p.column
  pub column_to : p.column ≤ p.offset + 1

-- Values that hold an input, whose items are read as bytes, a place and a label: an item moves the place by its bytes, and the label stays.
module _ {S I A X : Type 0} (fragment : S → I) (at : S → Place) (label : S → X) (read : A → List ℕ) where
  abbrev pub located : Moving S I A
  located = record {
    held = fragment;
    Mark = Place × X;
    mark = λ x. (at x, label x);
    step = λ p a. (past_bytes p.0 (read a), p.1);
    Fits = λ p n. FitsPlace p.0 n;
  }

  abbrev pub located_model : Model I A → Model S A
  located_model w = moving_model located w

-- how many of the bytes end a line
abbrev pub line_ends : List ℕ → ℕ
line_ends bs = count_by (λ b. nat_eq b 10) bs

-- A place after bytes, as a reader counts: the offset has grown by their number, and the line by the number of them that are 10. Where
-- one of them is 10, the column is 1 and the number of bytes after the last such, and else it has grown by the number of all.
pub record IsAfter (p : Place) (bs : List ℕ) (q : Place) : Type 0 where
  pub offset_is : q.offset ≡ p.offset + length bs
  pub line_is : q.line ≡ p.line + line_ends bs
  pub column_is : (before after : List ℕ) → bs ≡ before ++ (10 ∷ after) → line_ends after ≡ 0 → q.column ≡ 1 + length after
  pub column_in_line : line_ends bs ≡ 0 → q.column ≡ p.column + length bs
