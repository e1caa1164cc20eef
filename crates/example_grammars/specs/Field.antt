-- The results of the functions in the grammars of `field`.
use Rattle.std.specs.Prelude.{ℕ, Bool, ltb}

-- whether another byte of a length follows
abbrev pub is_more : ℕ → Bool
is_more b = ltb 127 b
