-- Clones as outputs.
use Rattle.std.specs.Prelude.{◌≡◌}
use Rattle.nom_traits.specs.View.{View}
use Rattle.nom_internal.specs.Pinned.{IsPinned}

-- any two clones of a value are equal as viewed: of a text, a list or a box, wherever they lie and whatever room they have
pub record ClonesConsistently {O : Type 0} (view : View O) (IsClone : O → O → Type 0) (v : O) : Type 0 where
  pub one_view : (x y : O) → IsClone v x → IsClone v y → view.value x ≡ view.value y

-- so they are pinned
pub clones_pinned : {V O : Type 0} {view : View O} {IsClone : O → O → Type 0} {v : O} → ClonesConsistently view IsClone v → IsPinned view (λ (_ : V). IsClone v)
clones_pinned c = record { one_view = λ t x y p q. c.one_view x y p q }
