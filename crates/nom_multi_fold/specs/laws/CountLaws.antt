-- The laws of counts of items.
use Rattle.std.specs.Prelude.{ℕ, true}
use Rattle.nom_internal.specs.Prelude.{Errors, Model, InputLaws, itself, Meaning, IsLawful, IsSteady, IsPinned}
use Rattle.nom_internal.specs.laws.SequenceLaws.{sequence_lawful, sequence_steady}
use Rattle.nom_repeat.specs.laws.ItemsLaws.{items_lawful, items_steady}
use Rattle.std.proofs.Common.{sym, ◌∙◌}
use Rattle.nom_multi_fold.specs.laws.DroppedLaws.{dropped_lawful, dropped_steady}
use Rattle.nom_multi_fold.specs.Counts.{IsCounted, IsNumber, many0_count_meaning, many1_count_meaning, many_m_n_count_meaning}
use Rattle.nom_multi_fold.specs.laws.UnfitLaws.{unfit_lawful, unfit_steady}
use Rattle.nom_repeat.specs.Bounds.{any_limits, one_limits, bounded_limits}
use Rattle.nom_error.specs.declared.kind.ErrorKind.TheVariants as Kind
use Rattle.nom_repeat.specs.declared.items.TooFew.TheVariants.{Fresh}

pub number_pinned : {V : Type 0} → IsPinned itself (IsNumber {V = V})
number_pinned = record { one_view = λ t a b p q. p ∙ sym q }

pub counted_pinned : {V IsSound : Type 0} → IsPinned itself (IsCounted {V = V} IsSound)
counted_pinned = record { one_view = λ t a b p q. p.1 ∙ sym q.1 }

module _ {I A V E : Type 0} {w : Model I A} (l : InputLaws w) (errs : Errors I E) {m : Meaning I V E} where
  pub many0_count_lawful : IsLawful w m → IsLawful w (many0_count_meaning w errs m)
  many0_count_lawful p = items_lawful l errs (any_limits Kind.Many0Count) (dropped_lawful p)

  pub many0_count_steady : IsSteady w m → IsSteady w (many0_count_meaning w errs m)
  many0_count_steady p = items_steady l errs (any_limits Kind.Many0Count) (dropped_steady p)

  pub many1_count_lawful : IsLawful w m → IsLawful w (many1_count_meaning w errs m)
  many1_count_lawful p = sequence_lawful l (items_lawful l errs (one_limits (Fresh Kind.Many1Count) true) (dropped_lawful p))
      (items_lawful l errs (any_limits Kind.Many1Count) (dropped_lawful p))

  pub many1_count_steady : IsSteady w m → IsSteady w (many1_count_meaning w errs m)
  many1_count_steady p = sequence_steady l (items_steady l errs (one_limits (Fresh Kind.Many1Count) true) (dropped_steady p))
      (items_steady l errs (any_limits Kind.Many1Count) (dropped_steady p))

  module _ (least most : ℕ) where
    pub many_m_n_count_lawful : IsLawful w m → IsLawful w (many_m_n_count_meaning w errs least most m)
    many_m_n_count_lawful p = unfit_lawful errs Kind.ManyMN true (items_lawful l errs (bounded_limits Kind.ManyMN least most) (dropped_lawful p))

    pub many_m_n_count_steady : IsSteady w m → IsSteady w (many_m_n_count_meaning w errs least most m)
    many_m_n_count_steady p = unfit_steady errs Kind.ManyMN true (items_steady l errs (bounded_limits Kind.ManyMN least most) (dropped_steady p))
