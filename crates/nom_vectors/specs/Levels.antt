-- The operators of the row of precedence.
use Rattle.std.specs.Prelude.{ℕ, if◌then◌else◌, ◌==◌}

-- the level of an operator: `^` is the tightest, then `*`, then `-`; any other has a level that isn't there
abbrev pub level_of : ℕ → ℕ
level_of operator = if operator == 94 then 0 else (if operator == 42 then 1 else (if operator == 45 then 2 else 3))
