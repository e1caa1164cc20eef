-- The laws of items by a range of counts.
use Rattle.std.specs.Prelude.{◌≡◌, ℕ, true, List, map}
use Rattle.std.specs.List.{AllZip}
use Rattle.std.specs.declared.ops.Bound.{Bound}
use Rattle.nom_internal.specs.Prelude.{Errors, ErrorKind, Model, InputLaws, View, Meaning, IsLawful, IsSteady, IsPinned}
use Rattle.nom_repeat.specs.Lists.{zip_pinned}
use Rattle.nom_repeat.specs.laws.ItemsLaws.{items_lawful, items_steady}
use Rattle.nom_multi_fold.specs.Ranges.{range_limits, range_meaning}
use Rattle.nom_multi_fold.specs.Under.{under, under_lawful, under_steady}
use Rattle.nom_multi_fold.specs.laws.UnfitLaws.{unfit_lawful, unfit_steady}

module _ {I A V E : Type 0} {w : Model I A} (l : InputLaws w) (errs : Errors I E) (kind : ErrorKind) (IsSpent : Type 0) (lower upper : Bound ℕ)
    {Grows : Type 0} {m : Meaning I V E} where
  pub range_lawful : IsLawful w m → IsLawful w (range_meaning w errs kind IsSpent lower upper Grows m)
  range_lawful p = unfit_lawful errs kind true (items_lawful l errs (range_limits kind lower upper) p)

  pub range_steady : IsSteady w m → IsSteady w (range_meaning w errs kind IsSpent lower upper Grows m)
  range_steady p = unfit_steady errs kind true (items_steady l errs (range_limits kind lower upper) p)

  pub range_fold_lawful : {Premise : Type 0} → IsLawful w m → IsLawful w (under Premise (range_meaning w errs kind IsSpent lower upper Grows m))
  range_fold_lawful p = under_lawful (range_lawful p)

  pub range_fold_steady : {Premise : Type 0} → IsSteady w m → IsSteady w (under Premise (range_meaning w errs kind IsSpent lower upper Grows m))
  range_fold_steady p = under_steady (range_steady p)

-- collections of outputs, each of its own tree
module _ {V T C : Type 0} {item : View T} {collection : View C} {items : C → List T} {IsOutput : V → T → Type 0} (pinned : IsPinned item IsOutput)
    (views : (x y : C) → map item.value (items x) ≡ map item.value (items y) → collection.value x ≡ collection.value y) where
  pub collection_pinned : IsPinned collection (λ vs c. AllZip IsOutput vs (items c))
  collection_pinned = record { one_view = λ vs a b p q. views a b (zip_pinned pinned vs (items a) (items b) p q) }
