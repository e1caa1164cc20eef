-- The model of a text with its depth in brackets: the text's, with the depth as a mark, which each character moves.
use Rattle.std.specs.Prelude.{ℕ, ◌+◌, ◌-◌, ◌^◌, ◌==◌, min, if◌then◌else◌, List}
use Rattle.std.specs.Borrow.{Bor}
use Rattle.nom_internal.specs.Prelude.{Model, text_model}
use Rattle.nom.specs.Moving.{Moving, at_any_place, moving_model}
use Rattle.example_parts.specs.declared.nested.Nested.{Nested}

-- `(` goes one deeper, up to the greatest `usize`, and `)` one less deep, down to 0
abbrev pub depth_after : ℕ → ℕ → ℕ
depth_after depth c = if c == 40 then min (depth + 1) (2 ^ 64 - 1) else if c == 41 then depth - 1 else depth

abbrev pub depths : Moving Nested (Bor (List ℕ)) ℕ
depths = record { held = λ s. s.text; Mark = ℕ; mark = λ s. s.depth; step = depth_after; Fits = at_any_place }

abbrev pub nested_model : Model Nested ℕ
nested_model = moving_model depths text_model
