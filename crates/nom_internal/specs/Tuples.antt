-- Tuples of parsers: members in sequence, each on the rest that those before it leave. A tuple is the pair of its first member and of
-- the others, by `pair_of`: so trees are nested pairs, and outputs alone are flat. The outputs of the members are built in every mode;
-- where none is asked for, the tuple drops them.
use Rattle.std.specs.Prelude.{true}
use Rattle.nom_error.specs.Modes.{with_outputs}
use Rattle.nom_internal.specs.Meaning.{Meaning}
use Rattle.nom_internal.specs.Grammar.{Grammar}

-- a part whose outputs are built in every mode
abbrev pub built_meaning : {I V E : Type 0} → Meaning I V E → Meaning I V E
built_meaning m = record m { may_run_out = λ mode. m.may_run_out (with_outputs true mode); IsFrugal = λ mode. m.IsFrugal (with_outputs true mode) }

-- a tuple, by the nested pairs of its outputs
abbrev pub tuple_of : {I V O F E : Type 0} → (F → O) → Grammar I V O E → Grammar I V F E
tuple_of pairs g = record { meaning = built_meaning g.meaning; IsOutput = λ t o. g.IsOutput t (pairs o) }
