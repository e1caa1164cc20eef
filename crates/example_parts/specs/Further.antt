-- Of two refusals, the one that stands further on.
use Rattle.std.specs.Prelude.{nat_lt, if◌then◌else◌}
use Rattle.example_parts.specs.declared.refusal.Refusal.{Refusal}

-- the first where fewer tokens were left at it, else the second
abbrev pub further : Refusal → Refusal → Refusal
further first second = if nat_lt first.left second.left then first else second
