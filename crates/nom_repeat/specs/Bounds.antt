-- The limits of repetitions.
use Rattle.std.specs.Prelude.{ℕ, Bool, true, false, Some, None}
use Rattle.nom_internal.specs.Prelude.{ErrorKind}
use Rattle.nom_error.specs.declared.kind.ErrorKind.TheVariants as Kind
use Rattle.nom_repeat.specs.declared.items.Limits.{Limits}
use Rattle.nom_repeat.specs.declared.items.TooFew.{TooFew}
use Rattle.nom_repeat.specs.declared.items.TooFew.TheVariants.{Never, Added}

-- any number of items; one that consumes nothing is refused
abbrev pub any_limits : ErrorKind → Limits
any_limits kind = record { least = 0; most = None; too_few = Never; at_start = false; empty = Some kind }

-- one item, which may be empty
abbrev pub one_limits : TooFew → Bool → Limits
one_limits few at_start = record { least = 1; most = Some 1; too_few = few; at_start = at_start; empty = None }

-- Just that many items, which may be empty. Where one is refused, the kind is added at the start.
abbrev pub exact_limits : ℕ → Limits
exact_limits n = record { least = n; most = Some n; too_few = Added Kind.Count; at_start = true; empty = None }

-- At least and at most that many items, none of them empty. Where one is refused before the least number, the kind is added at
-- its place.
abbrev pub bounded_limits : ErrorKind → ℕ → ℕ → Limits
bounded_limits kind least most = record { least = least; most = Some most; too_few = Added kind; at_start = false; empty = Some kind }
