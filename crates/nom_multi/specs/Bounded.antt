-- A number of items, or within bounds.
use Rattle.std.specs.Prelude.{ℕ, true, ltb, List, Vec}
use Rattle.nom_internal.specs.Prelude.{Errors, Model, Meaning, Grammar}
use Rattle.nom_error.specs.declared.kind.ErrorKind.TheVariants as Kind
use Rattle.nom_repeat.specs.Inverted.{error_if}
use Rattle.nom_repeat.specs.Items.{items_meaning}
use Rattle.nom_repeat.specs.Bounds.{exact_limits, bounded_limits}
use Rattle.std.specs.List.{AllZip}

-- Just that many items, which may be empty. Where one is refused, the kind is added at the start.
abbrev pub count_meaning : {I A V E : Type 0} → Model I A → Errors I E → ℕ → Meaning I V E → Meaning I (List V) E
count_meaning w errs n m = items_meaning w errs (exact_limits n) (Unit {0}) m

-- Items within two bounds, none of them empty. Where one is refused before the least number, the kind is added at its place.
-- Bounds that are the wrong way round are a failure.
abbrev pub many_m_n_meaning : {I A V E : Type 0} → Model I A → Errors I E → ℕ → ℕ → Meaning I V E → Meaning I (List V) E
many_m_n_meaning w errs least most m =
    error_if errs Kind.ManyMN true (ltb most least) (items_meaning w errs (bounded_limits Kind.ManyMN least most) (Unit {0}) m)

-- items of a grammar, a number of them, or within two bounds
abbrev pub count_of : {I A V O M E : Type 0} → Model I A → Errors I E → ℕ → Grammar I V O E → Grammar I (List V) (Vec O M) E
count_of w errs n g = record { meaning = count_meaning w errs n g.meaning; IsOutput = λ ts o. AllZip g.IsOutput ts o.items }

abbrev pub many_m_n_of : {I A V O M E : Type 0} → Model I A → Errors I E → ℕ → ℕ → Grammar I V O E → Grammar I (List V) (Vec O M) E
many_m_n_of w errs least most g = record {
  meaning = many_m_n_meaning w errs least most g.meaning;
  IsOutput = λ ts o. AllZip g.IsOutput ts o.items;
}
