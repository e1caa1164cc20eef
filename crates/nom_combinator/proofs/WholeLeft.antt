-- An input that is given as it is.
use Rattle.std.specs.Prelude.{◌≡◌, Bool, Option}
use Rattle.std.proofs.Common.{ap, subst, sym}
use Rattle.nom_internal.specs.Prelude.{Built, Model, IsModelledBy}
use Rattle.nom_internal.proofs.Shown.{built_error}
use Rattle.nom_combinator.specs.Ends.{all_of}

pub whole_built : {I A : Type 0} (w : Model I A) (built : Bool) (i : I) (b : Option I) → w.IsKnown i → Built built (λ o. o ≡ i) b →
    Built built (IsModelledBy w (all_of w i)) b
whole_built w built i b known h = built_error built (λ o. o ≡ i)
    (IsModelledBy w (all_of w i)) b (λ o p. record { known = subst w.IsKnown (sym p) known; elements_are = ap w.elements p; mark_is = ap w.mark p }) h
