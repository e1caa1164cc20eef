-- How many items there are.
use Rattle.std.specs.Prelude.{◌≡◌, ℕ, ◌%◌, ◌^◌, ◌<◌, Bool, true, List, ◌++◌, length}
use Rattle.nom_internal.specs.Prelude.{Errors, Model, input_len, Accept, Meaning, sequence_meaning, Grammar}
use Rattle.nom_error.specs.declared.kind.ErrorKind.TheVariants as Kind
use Rattle.nom_repeat.specs.Items.{items_meaning}
use Rattle.nom_repeat.specs.declared.items.TooFew.TheVariants.{Fresh}
use Rattle.nom_multi_fold.specs.Dropped.{dropped_meaning}
use Rattle.nom_multi_fold.specs.Unfit.{unfit}
use Rattle.nom_repeat.specs.Bounds.{any_limits, one_limits, bounded_limits}

-- the number of the items
abbrev pub IsNumber : {V : Type 0} → List V → ℕ → Type 0
IsNumber vs n = n ≡ length vs

-- the same of a part that is sound, and in any case as a count of 64 bits has it
abbrev pub IsCounted : {V : Type 0} → Type 0 → List V → ℕ → Type 0
IsCounted IsSound vs n = (IsSound → IsNumber vs n) × (n ≡ length vs % 2 ^ 64)

-- what is accepted of an input whose length fits 64 bits are items whose number fits
abbrev pub AcceptsFew : {I A V E : Type 0} → Model I A → Meaning I (List V) E → Type 0
AcceptsFew {I} {V = V} w m =
    (s : Bool) (i : I) (n : ℕ) (vs : List V) → w.IsKnown i → input_len w i < 2 ^ 64 → m.answers s i (Accept n vs) → length vs < 2 ^ 64

-- Any number of items, of which nothing is built; one that consumes nothing is refused. Counting them takes no memory.
abbrev pub many0_count_meaning : {I A V E : Type 0} → Model I A → Errors I E → Meaning I V E → Meaning I (List V) E
many0_count_meaning w errs m = items_meaning w errs (any_limits Kind.Many0Count) ⊥ (dropped_meaning m)

-- One item at least: a first one, whose refusal is one of the kind at the start, and which may be empty; and then any number.
abbrev pub many1_count_meaning : {I A V E : Type 0} → Model I A → Errors I E → Meaning I V E → Meaning I (List V) E
many1_count_meaning w errs m =
    sequence_meaning w (λ vs us. vs ++ us) (λ o. o) (λ o. o) (items_meaning w errs (one_limits (Fresh Kind.Many1Count) true) ⊥ (dropped_meaning m))
    (items_meaning w errs (any_limits Kind.Many1Count) ⊥ (dropped_meaning m))

-- Items within two bounds, none of them empty, of which nothing is built. Where one is refused before the least number, the kind is
-- added at its place. Bounds that are the wrong way round are a failure.
abbrev pub many_m_n_count_meaning : {I A V E : Type 0} → Model I A → Errors I E → ℕ → ℕ → Meaning I V E → Meaning I (List V) E
many_m_n_count_meaning w errs least most m =
    unfit errs Kind.ManyMN true (most < least) (items_meaning w errs (bounded_limits Kind.ManyMN least most) ⊥ (dropped_meaning m))

-- The number of items of a grammar, of any number, of one at least or of as many as two bounds say. Of one at least the first may be
-- empty. After an empty one a sound part has no other. One that isn't sound may have 2 ^ 64 items then, which no `usize` counts.
abbrev pub many0_count_of : {I A V O E : Type 0} → Model I A → Errors I E → Grammar I V O E → Grammar I (List V) ℕ E
many0_count_of w errs g = record { meaning = many0_count_meaning w errs g.meaning; IsOutput = IsNumber }

abbrev pub many1_count_of : {I A V O E : Type 0} → Model I A → Errors I E → Grammar I V O E → Grammar I (List V) ℕ E
many1_count_of w errs g = record { meaning = many1_count_meaning w errs g.meaning; IsOutput = IsCounted g.meaning.IsSound }

abbrev pub many_m_n_count_of : {I A V O E : Type 0} → Model I A → Errors I E → ℕ → ℕ → Grammar I V O E → Grammar I (List V) ℕ E
many_m_n_count_of w errs least most g = record { meaning = many_m_n_count_meaning w errs least most g.meaning; IsOutput = IsNumber }
