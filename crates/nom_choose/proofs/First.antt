-- The tries of a round's members that wait.
use Rattle.std.specs.Prelude.{◌≡◌, Bool, Result, Err, Option, Some, None, refl}
use Rattle.std.proofs.Common.{subst}
use Rattle.nom_internal.specs.Prelude.{Needed, Error, Model, modes, Meaning}
use Rattle.nom_error.specs.declared.answer.Err as Answer
use Rattle.nom_choose.specs.declared.slots.Slot.{Slot}
use Rattle.nom_choose.specs.declared.slots.Slot.TheVariants.{Waiting}
use Rattle.nom_choose.specs.Tries.{TriesFirst, TriesNext, Tries}

module _ {I A V O E : Type 0} (w : Model I A) (IsOutput : V → O → Type 0) (Joins : E → E → E → Type 0) (Grows : Type 0) (m : Meaning I V E)
    (outputs errors s : Bool) (i : I) (before after : Slot O) (round : Option (Result I (Answer.Err E (Option E) Needed)))
    (r : Result I (Answer.Err E (Option E) Needed)) (waits : before ≡ Waiting) where
  -- a waiting member is the first that a round tries
  pub first_tried : round ≡ None → TriesFirst w IsOutput m (modes outputs errors s) i before after r →
      Tries w IsOutput Joins Grows m (modes outputs errors s) i before round after (Some r)
  first_tried k t = rw (waits, k) (r, subst (λ z. TriesFirst w IsOutput m (modes outputs errors s) i z after r) waits t, refl)

  -- it is tried after refusals with an error
  pub next_tried : (x : Option E) → round ≡ Some (Err (Error x)) → TriesNext w IsOutput Joins Grows m (modes outputs errors s) i x before after r →
      Tries w IsOutput Joins Grows m (modes outputs errors s) i before round after (Some r)
  next_tried x k t = rw (waits, k) (r, subst (λ z. TriesNext w IsOutput Joins Grows m (modes outputs errors s) i x z after r) waits t, refl)
