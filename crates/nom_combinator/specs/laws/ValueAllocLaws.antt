-- The laws of a value in the place of what a part accepts, made by a closure that may take memory.
use Rattle.nom_internal.specs.Prelude.{View, GivesFor, IsPinned}
use Rattle.nom_combinator.specs.ValueAlloc.{MakesConsistently}

-- whatever the outputs of the part
pub made_pinned : {V P R : Type 0} {view : View R} {IsOutput : V → P → Type 0} {Makes : R → Type 0} → MakesConsistently view Makes →
    IsPinned view (GivesFor IsOutput (λ _. Makes))
made_pinned consistent = record { one_view = λ t a b p q. consistent.same a b p.given q.given }
