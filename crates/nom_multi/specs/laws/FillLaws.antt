-- The laws of items in a buffer.
use Rattle.std.specs.Prelude.{ℕ, refl}
use Rattle.nom_internal.specs.Prelude.{Errors, Model, InputLaws, itself, Meaning, IsLawful, IsSteady, IsPinned}
use Rattle.nom_repeat.specs.laws.ItemsLaws.{items_lawful, items_steady}
use Rattle.nom_multi.specs.Fill.{fill_meaning, IsDone}
use Rattle.nom_repeat.specs.Bounds.{exact_limits}

module _ {I A V E : Type 0} {w : Model I A} (l : InputLaws w) (errs : Errors I E) (n : ℕ) {m : Meaning I V E} where
  pub fill_lawful : IsLawful w m → IsLawful w (fill_meaning w errs n m)
  fill_lawful p = items_lawful l errs (exact_limits n) p

  pub fill_steady : IsSteady w m → IsSteady w (fill_meaning w errs n m)
  fill_steady p = items_steady l errs (exact_limits n) p

pub done_pinned : {V : Type 0} → IsPinned itself (IsDone {V = V})
done_pinned = record { one_view = λ vs a b p q. refl }
