-- Kinds of frames, by their bytes.
use Rattle.std.specs.Prelude.{ℕ, cond, nat_eq, Result, Ok, Err}
use Rattle.example_streams.specs.declared.kinds.Kind.{Kind}
use Rattle.example_streams.specs.declared.kinds.Kind.TheVariants.{Data, Answer, Last}

-- the kind of a byte, or the byte, which is none
abbrev pub kind_by : ℕ → Result Kind ℕ
kind_by b = cond (nat_eq b 0) (Ok Data) (cond (nat_eq b 1) (Ok Answer) (cond (nat_eq b 8) (Ok Last) (Err b)))
