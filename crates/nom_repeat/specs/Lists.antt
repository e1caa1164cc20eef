-- Lists of outputs.
use Rattle.std.specs.Prelude.{◌≡◌, ◌≤◌, ◌+◌, ◌∷◌, ◌++◌, [], ℕ, List, map, refl, vec_capacity, vec_len}
use Rattle.std.specs.List.{AllZip}
use Rattle.nom_internal.specs.Prelude.{View, vec_view, IsPinned}
use Rattle.std.specs.declared.vec.Vec.{Vec}

module _ {V O : Type 0} {view : View O} {IsOutput : V → O → Type 0} (pinned : IsPinned view IsOutput) where
  -- outputs, each of its own tree
  pub zip_pinned : (us : List V) (xs ys : List O) → AllZip IsOutput us xs → AllZip IsOutput us ys → map view.value xs ≡ map view.value ys
  zip_pinned [] [] [] p q = refl
  zip_pinned [] [] (y ∷ ys) p q = absurd q
  zip_pinned [] (x ∷ xs) ys p q = absurd p
  zip_pinned (u ∷ us) [] ys p q = absurd p
  zip_pinned (u ∷ us) (x ∷ xs) [] p q = absurd q
  zip_pinned (u ∷ us) (x ∷ xs) (y ∷ ys) p q = let heads = pinned.one_view u x y p.0 q.0 in let tails = zip_pinned us xs ys p.1 q.1 in cc (heads, tails)

-- lists of them
pub list_pinned : {V O A : Type 0} {view : View O} {IsOutput : V → O → Type 0} → IsPinned view IsOutput →
    IsPinned (vec_view {A = A} view) (λ vs (list : Vec O A). AllZip IsOutput vs list.items)
list_pinned pinned = record { one_view = λ vs a b p q. zip_pinned pinned vs a.items b.items p q }

-- one item more
abbrev pub ListPushes : {T A : Type 0} → Vec T A → T → Vec T A → Type 0
ListPushes old x new = new.items ≡ old.items ++ x ∷ []

-- room for a number of items more
abbrev pub ListHasRoom : {T A : Type 0} → Vec T A → ℕ → Type 0
ListHasRoom list n = vec_len list + n ≤ vec_capacity list

-- no room for one more, neither before nor after memory was refused
abbrev pub ListLacksRoom : {T A : Type 0} → Vec T A → Vec T A → Type 0
ListLacksRoom old new = (vec_capacity old ≤ vec_len old) × (vec_capacity new ≤ vec_len new)
