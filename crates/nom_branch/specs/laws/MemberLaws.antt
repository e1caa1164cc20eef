-- How the outputs of a permutation's members are compared.
use Rattle.std.specs.Prelude.{◌≡◌, Option, Some, None}
use Rattle.nom_internal.specs.Prelude.{View, IsPinned}
use Rattle.nom_branch.specs.Rounds.{IsApplied}

-- an output of an applied member, as it is compared
module _ {V O : Type 0} {view : View O} {IsOutput : V → O → Type 0} (f : IsPinned view IsOutput) where
  one_applied : (x : Option V) (a b : O) → IsApplied IsOutput x a → IsApplied IsOutput x b → view.value a ≡ view.value b
  one_applied (Some v) a b p q = f.one_view v a b p q
  one_applied None a b p q = absurd p

  pub applied_pinned : IsPinned view (IsApplied IsOutput)
  applied_pinned = record { one_view = one_applied }
