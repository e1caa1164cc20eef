-- Items until one is refused.
use Rattle.std.specs.Prelude.{true, List, ◌++◌, Vec}
use Rattle.nom_internal.specs.Prelude.{Errors, Model, Meaning, sequence_meaning, Grammar}
use Rattle.nom_error.specs.declared.kind.ErrorKind.TheVariants as Kind
use Rattle.nom_repeat.specs.Items.{items_meaning}
use Rattle.nom_repeat.specs.declared.items.TooFew.TheVariants.{Added}
use Rattle.nom_repeat.specs.Bounds.{any_limits, one_limits}
use Rattle.std.specs.List.{AllZip}

-- Any number of items; one that consumes nothing is refused. A list of the items, which grows by each where outputs are built.
abbrev pub many0_meaning : {I A V E : Type 0} → Model I A → Errors I E → Meaning I V E → Meaning I (List V) E
many0_meaning w errs m = items_meaning w errs (any_limits Kind.Many0) (Unit {0}) m

-- One item at least: a first one, to whose refusal the kind is added, and which may be empty; and then any number.
abbrev pub many1_meaning : {I A V E : Type 0} → Model I A → Errors I E → Meaning I V E → Meaning I (List V) E
many1_meaning w errs m = sequence_meaning w (λ vs us. vs ++ us) (λ o. o) (λ o. o)
    (items_meaning w errs (one_limits (Added Kind.Many1) true) (Unit {0}) m) (many0_meaning w errs m)

-- items of a grammar, any number or one at least; their outputs stand in a list, in whatever memory
abbrev pub many0_of : {I A V O M E : Type 0} → Model I A → Errors I E → Grammar I V O E → Grammar I (List V) (Vec O M) E
many0_of w errs g = record { meaning = many0_meaning w errs g.meaning; IsOutput = λ ts o. AllZip g.IsOutput ts o.items }

abbrev pub many1_of : {I A V O M E : Type 0} → Model I A → Errors I E → Grammar I V O E → Grammar I (List V) (Vec O M) E
many1_of w errs g = record { meaning = many1_meaning w errs g.meaning; IsOutput = λ ts o. AllZip g.IsOutput ts o.items }
