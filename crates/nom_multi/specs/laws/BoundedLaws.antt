-- The laws of that many items, or within bounds.
use Rattle.std.specs.Prelude.{ℕ, true, ltb}
use Rattle.nom_internal.specs.Prelude.{Errors, Model, InputLaws, Meaning, IsLawful, IsSteady}
use Rattle.nom_error.specs.declared.kind.ErrorKind.TheVariants as Kind
use Rattle.nom_repeat.specs.laws.InvertedLaws.{error_if_lawful, error_if_steady}
use Rattle.nom_repeat.specs.laws.ItemsLaws.{items_lawful, items_steady}
use Rattle.nom_multi.specs.Bounded.{count_meaning, many_m_n_meaning}
use Rattle.nom_repeat.specs.Bounds.{exact_limits, bounded_limits}

module _ {I A V E : Type 0} {w : Model I A} (l : InputLaws w) (errs : Errors I E) (n : ℕ) {m : Meaning I V E} where
  pub count_lawful : IsLawful w m → IsLawful w (count_meaning w errs n m)
  count_lawful p = items_lawful l errs (exact_limits n) p

  pub count_steady : IsSteady w m → IsSteady w (count_meaning w errs n m)
  count_steady p = items_steady l errs (exact_limits n) p

module _ {I A V E : Type 0} {w : Model I A} (l : InputLaws w) (errs : Errors I E) (least most : ℕ) {m : Meaning I V E} where
  pub many_m_n_lawful : IsLawful w m → IsLawful w (many_m_n_meaning w errs least most m)
  many_m_n_lawful p = error_if_lawful errs Kind.ManyMN true (ltb most least) (items_lawful l errs (bounded_limits Kind.ManyMN least most) p)

  pub many_m_n_steady : IsSteady w m → IsSteady w (many_m_n_meaning w errs least most m)
  many_m_n_steady p = error_if_steady errs Kind.ManyMN true (ltb most least) (items_steady l errs (bounded_limits Kind.ManyMN least most) p)
