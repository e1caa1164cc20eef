-- Where lists run out of memory.
use Rattle.std.proofs.Common.{◌≡◌, ℕ, Bool, true, false, inl, inr, List, [], ◌∷◌}
use Rattle.nom_internal.specs.Prelude.{Errors, Modes, with_outputs, ErrorKind, Model, InputLaws, Meaning, IsLawful, RunsOutFirst, RunsOutNext, Accept}
use Rattle.nom_error.specs.declared.kind.ErrorKind.TheVariants as Kind
use Rattle.nom_repeat.specs.Bounds.{any_limits, one_limits, exact_limits, bounded_limits}
use Rattle.nom_repeat.specs.Inverted.{IfThenElse}
use Rattle.nom_repeat.specs.Items.{items_meaning}
use Rattle.nom_repeat.specs.declared.items.Limits.{Limits}
use Rattle.nom_repeat.specs.declared.items.TooFew.TheVariants.{Added, Passed}
use Rattle.nom_sequence.specs.Sequences.{preceded_meaning}
use Rattle.nom_sequence.specs.laws.SequenceLaws.{preceded_lawful}
use Rattle.nom_multi.specs.Bounded.{count_meaning, many_m_n_meaning}
use Rattle.nom_multi.specs.Many.{many0_meaning, many1_meaning}
use Rattle.nom_separated.specs.Separated.{further_meaning, optional_limits, follows, separated0_meaning, separated1_meaning}
use Rattle.nom_multi_fold.specs.Ranges.{range_limits, range_meaning}
use Rattle.nom_multi.specs.Lengths.{length_count_meaning}
use Rattle.std.specs.Prelude.{ltb}
use Rattle.std.specs.declared.ops.Bound.{Bound}
use Rattle.nom.specs.Growths.{AlwaysFrugal, IsAccepted, GrowsByItems, GrowsBySeparated, GrowsByCounted}
use Rattle.nom.proofs.ItemsGrow.{items_grow, some_accepted, one_accepted}

module _ {I A V E : Type 0} (w : Model I A) (errs : Errors I E) (m : Meaning I V E) (lawful : IsLawful w m) where
  limited_grow : (b : Limits) → GrowsByItems w errs m (items_meaning w errs b (Unit {0}) m)
  limited_grow b frugal none mode i h r =
      let k = items_grow w errs b (Unit {0}) m lawful frugal none mode i h r in (k.0.0, k.1)

  pub many0_grow : GrowsByItems w errs m (many0_meaning w errs m)
  many0_grow = limited_grow (any_limits Kind.Many0)

  pub count_grow : (n : ℕ) → GrowsByItems w errs m (count_meaning w errs n m)
  count_grow n = limited_grow (exact_limits n)

  pub many1_grow : GrowsByItems w errs m (many1_meaning w errs m)
  many1_grow frugal none mode i h (RunsOutFirst r) = limited_grow (one_limits (Added Kind.Many1) true) frugal none mode i h r
  many1_grow frugal none mode i h (RunsOutNext r) = (
    (many0_grow frugal none mode r.rest r.rest_is.known r.fact).0,
    one_accepted w errs (Added Kind.Many1) true (Unit {0}) m mode.streaming i r.length
        r.tree r.accepted,
  )

  -- bounds that are the wrong way round take memory for an error alone
  pub many_m_n_grow : (least most : ℕ) → GrowsByItems w errs m (many_m_n_meaning w errs least most m)
  many_m_n_grow least most frugal none mode i h r = by (ltb most least) r
    where
      by : (test : Bool) → IfThenElse test (Unit {0} × errs.grows) ((items_meaning w errs (bounded_limits Kind.ManyMN least most) (Unit {0}) m).may_run_out
          mode i) → (mode.outputs ≡ true) × IsAccepted (m.answers mode.streaming) i
      by true q = absurd (none q.1)
      by false q = limited_grow (bounded_limits Kind.ManyMN least most) frugal none mode i h q

  -- a range with nothing between its ends takes memory for an error alone
  pub range_grow : (kind : ErrorKind) (IsSpent : Type 0) (lower upper : Bound ℕ) →
      GrowsByItems w errs m (range_meaning w errs kind IsSpent lower upper (Unit {0}) m)
  range_grow kind IsSpent lower upper frugal none mode i h (inl r) = absurd (none r.1.1)
  range_grow kind IsSpent lower upper frugal none mode i h (inr r) = limited_grow (range_limits kind lower upper) frugal none mode i h r.1

  pub length_count_grow : {P : Type 0} (IsLength : P → ℕ → Type 0) (length : Meaning I P E) → IsLawful w length →
      GrowsByCounted w errs length m (length_count_meaning w errs IsLength length m)
  length_count_grow IsLength length p frugal none mode i h (RunsOutFirst r) =
      absurd (p.frugal (with_outputs true mode) i h (frugal.0 (with_outputs true mode)) r)
  length_count_grow IsLength length p frugal none mode i h (RunsOutNext r) =
      let k = limited_grow (exact_limits r.fact.value) frugal.1 none mode r.rest r.rest_is.known r.fact.fact in
      (k.0, record { length = r.length; tree = r.tree; rest = r.rest; accepted = r.accepted; rest_is = r.rest_is; fact = k.1 })

module _ {I A P V E : Type 0} (w : Model I A) (l : InputLaws w) (errs : Errors I E) (separator : Meaning I P E) (m : Meaning I V E)
    (separates : IsLawful w separator) (lawful : IsLawful w m) where
  further_grow : AlwaysFrugal separator × AlwaysFrugal m → (errs.grows → ⊥) → (mode : Modes) (j : I) → w.IsKnown j →
      (further_meaning w errs separator m).may_run_out mode j → mode.outputs ≡ true
  further_grow frugal none mode j h r =
      (items_grow w errs (any_limits Kind.SeparatedList) (Unit {0}) (preceded_meaning w separator m) (preceded_lawful l separates lawful)
      (λ z. (frugal.0 (with_outputs false z), frugal.1 z)) none mode j h r).0.0

  pub separated1_grow : GrowsBySeparated w errs separator m (separated1_meaning w errs separator m)
  separated1_grow frugal none mode i h (RunsOutFirst r) =
      let k = items_grow w errs (one_limits Passed false) (Unit {0}) m lawful frugal.1 none mode i h r in (k.0.0, k.1)
  separated1_grow frugal none mode i h (RunsOutNext r) =
      (further_grow frugal none mode r.rest r.rest_is.known r.fact, one_accepted w errs Passed false (Unit {0}) m mode.streaming i r.length r.tree r.accepted)

  pub separated0_grow : GrowsBySeparated w errs separator m (separated0_meaning w errs separator m)
  separated0_grow frugal none mode i h (RunsOutFirst r) =
      let k = items_grow w errs optional_limits (Unit {0}) m lawful frugal.1 none mode i h r in (k.0.0, k.1)
  separated0_grow frugal none mode i h (RunsOutNext r) = by r.tree r.accepted r.fact
    where
      by : (vs : List V) → (items_meaning w errs optional_limits (Unit {0}) m).answers mode.streaming i (Accept r.length vs) →
          (follows w errs separator m vs).may_run_out mode r.rest → (mode.outputs ≡ true) × IsAccepted (m.answers mode.streaming) i
      by [] a q = absurd q.0
      by (v ∷ vs) a q = (
        further_grow frugal none mode r.rest r.rest_is.known q,
        some_accepted w errs optional_limits (Unit {0}) m mode.streaming i r.length v vs a,
      )
