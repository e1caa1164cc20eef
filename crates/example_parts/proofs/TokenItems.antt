-- The tokens of a slice, one by one.
use Rattle.std.proofs.Common.{◌≡◌, List, Iter, ◌∙◌, ap, subst}
use Rattle.std.specs.Iterator.{AlwaysYields}
use Rattle.std.proofs.lemmas.Fn.{fronts, slice_gives}
use Rattle.std.proofs.lemmas.Iterator.{YieldsList}

-- a slice's iterator gives what is left of it
pub items_given : {A : Type 0} (s t : Iter A) (xs : List A) → s ≡ t → t.rest.now ≡ xs → YieldsList fronts (λ y. y.now) s xs
items_given s t xs e f =
    let left : s.rest.now ≡ xs = ap (λ u. u.rest.now) e ∙ f in
    record { runs = subst (λ ys. AlwaysYields fronts (λ y. y.now) s ys) left (slice_gives s) }
