-- A collection as an accumulator of items.
use Rattle.std.proofs.Common.{◌≡◌, ◌++◌, ◌∷◌, [], List, Option, Some, None, Bool, true, false, refl, sym, ◌∙◌, ap, subst}
use Rattle.std.specs.List.{AllZip}
use Rattle.nom_internal.specs.Prelude.{Built}
use Rattle.nom_repeat.specs.Accumulated.{Adds, Accumulated}
use Rattle.nom_multi_fold.specs.Ranges.{Gathers, IsGathered}

append_one : {T : Type 0} (xs : List T) (y : T) (ys : List T) → (xs ++ y ∷ []) ++ ys ≡ xs ++ y ∷ ys
append_one [] y ys = refl
append_one (x ∷ xs) y ys = ap (λ zs. x ∷ zs) (append_one xs y ys)

append_none : {T : Type 0} (xs : List T) → xs ≡ xs ++ []
append_none [] = refl
append_none (x ∷ xs) = ap (λ zs. x ∷ zs) (append_none xs)

none_some : {X : Type 0} (x : X) → None ≡ Some x → ⊥
none_some x e = absurd (cc (e))

some_same : {X : Type 0} (x y : X) → Some x ≡ Some y → x ≡ y
some_same x y e = cc (e)

module _ {K T : Type 0} (items : K → List T) where
  gathers_added : (k : K) (xs : List T) (new : K) → Adds (Gathers items) k xs new → items new ≡ items k ++ xs
  gathers_added k [] new a = ap items a ∙ append_none (items k)
  gathers_added k (x ∷ xs) new a = gathers_added a.0 xs new a.2 ∙ (ap (λ zs. zs ++ xs) a.1 ∙ append_one (items k) x xs)

  module _ {V : Type 0} (P : V → T → Type 0) (before : Option K) where
    all_gathered : (builds : Bool) → Built builds (λ k. items k ≡ []) before → (vs : List V) (k : K) →
        Accumulated (Gathers items) (λ _. Unit {0}) P before vs k → AllZip P vs (items k)
    all_gathered true b vs k h =
        let same : h.first ≡ b.0 = some_same h.first b.0 (sym h.first_is ∙ b.1) in
        let none : items h.first ≡ [] = ap items same ∙ b.2 in
        subst (λ z. AllZip P vs z) (sym (gathers_added h.first h.outputs k h.added ∙ ap (λ z. z ++ h.outputs) none)) h.are_outputs
    all_gathered false b vs k h = absurd (none_some h.first (sym b ∙ h.first_is))

-- of an empty collection, that of the outputs of the trees
pub collected_built : {K C V T : Type 0} (collection : K → C) (items : C → List T) (P : V → T → Type 0) (before : Option K) (builds : Bool) →
    Built builds (λ k. items (collection k) ≡ []) before → (vs : List V) (x : Option K) (y : Option C) → IsGathered collection x y →
    Built builds (Accumulated (Gathers (λ k. items (collection k))) (λ _. Unit {0}) P before vs) x → Built builds (λ o. AllZip P vs (items o)) y
collected_built collection items P before true b vs x y c h =
    (collection h.0, subst (λ z. IsGathered collection z y) h.1 c, all_gathered (λ k. items (collection k)) P before true b vs h.0 h.2)
collected_built collection items P before false b vs x y c h = subst (λ z. IsGathered collection z y) h c
