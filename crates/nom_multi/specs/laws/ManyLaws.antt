-- The laws of items until one is refused.
use Rattle.nom_internal.specs.Prelude.{Errors, Model, InputLaws, Meaning, IsLawful, IsSteady}
use Rattle.nom_repeat.specs.laws.ItemsLaws.{items_lawful, items_steady}
use Rattle.nom_multi.specs.Many.{many0_meaning, many1_meaning}
use Rattle.nom_internal.specs.laws.SequenceLaws.{sequence_lawful, sequence_steady}
use Rattle.std.specs.Prelude.{true}
use Rattle.nom_repeat.specs.Bounds.{any_limits, one_limits}
use Rattle.nom_error.specs.declared.kind.ErrorKind.TheVariants as Kind
use Rattle.nom_repeat.specs.declared.items.TooFew.TheVariants.{Added}

module _ {I A V E : Type 0} {w : Model I A} (l : InputLaws w) (errs : Errors I E) {m : Meaning I V E} where
  pub many0_lawful : IsLawful w m → IsLawful w (many0_meaning w errs m)
  many0_lawful p = items_lawful l errs (any_limits Kind.Many0) p

  pub many0_steady : IsSteady w m → IsSteady w (many0_meaning w errs m)
  many0_steady p = items_steady l errs (any_limits Kind.Many0) p

  pub many1_lawful : IsLawful w m → IsLawful w (many1_meaning w errs m)
  many1_lawful p = sequence_lawful l (items_lawful l errs (one_limits (Added Kind.Many1) true) p) (many0_lawful p)

  pub many1_steady : IsSteady w m → IsSteady w (many1_meaning w errs m)
  many1_steady p = sequence_steady l (items_steady l errs (one_limits (Added Kind.Many1) true) p) (many0_steady p)
