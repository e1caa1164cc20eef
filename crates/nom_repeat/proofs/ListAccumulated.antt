-- The list of items.
use Rattle.std.proofs.Common.{◌≡◌, ◌++◌, ◌∷◌, [], List, Option, Some, None, Bool, true, false, refl, sym, ◌∙◌, ap, subst}
use Rattle.std.specs.List.{AllZip}
use Rattle.std.specs.declared.vec.Vec.{Vec}
use Rattle.nom_internal.specs.Prelude.{Built}
use Rattle.nom_repeat.specs.Accumulated.{Adds, Accumulated}
pub use Rattle.nom_repeat.specs.Lists.{ListPushes}

append_one : {T : Type 0} (xs : List T) (y : T) (ys : List T) → (xs ++ y ∷ []) ++ ys ≡ xs ++ y ∷ ys
append_one [] y ys = refl
append_one (x ∷ xs) y ys = ap (λ zs. x ∷ zs) (append_one xs y ys)

module _ {V T A : Type 0} (P : V → T → Type 0) where
  list_adds : (list : Vec T A) (xs : List T) (new : Vec T A) → Adds ListPushes list xs new → new.items ≡ list.items ++ xs
  list_adds list [] new a = ap (λ l. l.items) a ∙ nil list.items
    where
      nil : (xs : List T) → xs ≡ xs ++ []
      nil [] = refl
      nil (x ∷ xs) = ap (λ zs. x ∷ zs) (nil xs)
  list_adds list (x ∷ xs) new a = list_adds a.0 xs new a.2 ∙ (ap (λ zs. zs ++ xs) a.1 ∙ append_one list.items x xs)

  -- of an empty list, the list of the outputs of the trees
  pub list_of_none : (builds : Bool) {before : Option (Vec T A)} → Built builds (λ (l : Vec T A). l.items ≡ []) before →
      (vs : List V) (list : Vec T A) → Accumulated ListPushes (λ _. Unit {0}) P before vs list → AllZip P vs list.items
  list_of_none builds {before} b vs list k =
      let none : k.first.items ≡ [] = first_none builds b in
      subst (λ z. AllZip P vs z) (sym (list_adds k.first k.outputs list k.added ∙ ap (λ z. z ++ k.outputs) none)) k.are_outputs
    where
      first_none : (builds : Bool) → Built builds (λ (l : Vec T A). l.items ≡ []) before → k.first.items ≡ []
      first_none true h = let same : k.first ≡ h.0 = cc (k.first_is, h.1) in subst (λ l. l.items ≡ []) (sym same) h.2
      first_none false h = absurd (none_some k.first (sym h ∙ k.first_is))
        where
          none_some : (x : Vec T A) → None ≡ Some x → ⊥
          none_some x e = absurd (cc (e))
