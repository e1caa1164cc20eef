-- Lemmas on the answers of items by a range of counts.
use Rattle.std.proofs.Common.{◌≡◌, ℕ, Bool, true, false, List, subst}
use Rattle.std.specs.Prelude.{IsTrue}
use Rattle.std.specs.declared.ops.Bound.{Bound}
use Rattle.nom_internal.specs.Prelude.{PResult, Errors, Modes, ErrorKind, Model, Meaning, ShowsMeaning}
use Rattle.nom_repeat.specs.Items.{items_meaning}
use Rattle.nom_values.specs.Ranges.{fewest, most_items, limit}
use Rattle.nom_multi_fold.specs.Ranges.{range_limits, IsEmpty, range_meaning}
use Rattle.nom_multi_fold.proofs.UnfitShown.{fit_shown}
use Rattle.nom_repeat.specs.Bounds.{bounded_limits}

-- a test that doesn't hold tells that its fact doesn't
pub not_so : {X : Type 0} (test : Bool) → test ≡ false → (X → IsTrue test) → X → ⊥
not_so true e f x = absurd (cc (e))
not_so false e f x = let t = f x in absurd (cc (t))

-- the items that were asked for, by the numbers of the range
pub range_shown : {I A V O E : Type 0} {w : Model I A} {IsOutput : List V → O → Type 0} {mode : Modes} {i : I} (errs : Errors I E) (kind : ErrorKind)
    (IsSpent : Type 0) (lower upper : Bound ℕ) (Grows : Type 0) (m : Meaning I V E) {a b : ℕ} → a ≡ fewest lower → b ≡ limit (most_items upper) →
    (IsEmpty IsSpent lower upper → ⊥) → {r : PResult I O E} →
    ShowsMeaning w IsOutput (items_meaning w errs (bounded_limits kind a b) Grows m) mode i r →
    ShowsMeaning w IsOutput (range_meaning w errs kind IsSpent lower upper Grows m) mode i r
range_shown {w = w} {IsOutput} {mode} {i} errs kind IsSpent lower upper Grows m {a} {b} least most fit {r} h =
    let bounded = subst (λ z. ShowsMeaning w IsOutput (items_meaning w errs (bounded_limits kind z b) Grows m) mode i r) least h in
    fit_shown errs kind true (IsEmpty IsSpent lower upper)
    (items_meaning w errs (range_limits kind lower upper) Grows m) fit
    (subst (λ z. ShowsMeaning w IsOutput (items_meaning w errs (bounded_limits kind (fewest lower) z) Grows m) mode i r) most bounded)
