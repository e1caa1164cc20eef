-- The first item that an input gives.
use Rattle.std.proofs.Common.{◌≡◌, ℕ, Bool, Option, Some, None, List, [], ◌∷◌, refl, sym, ap, subst, MatchOption}
use Rattle.std.specs.Iterator.{AlwaysYields}
use Rattle.nom_internal.specs.Prelude.{PResult, Errors, Modes, Model, ShowsMeaning}
use Rattle.nom_character_first.specs.declared.first.Blame.{Blame}
use Rattle.nom_character_first.specs.FirstItem.{IsFirstItem, first_item_meaning}

module _ {A S : Type 0} (steps : S → Option A → S → Type 0) where
  pub some_given : (s t : S) (x : A) (xs : List A) → AlwaysYields steps (λ p. p) s xs → steps s (Some x) t → (ys : List A) × (xs ≡ x ∷ ys) ×
      AlwaysYields steps (λ p. p) t ys
  some_given s t x [] g k = absurd (g x t k)
  some_given s t x (y ∷ ys) g k = let r = g.1 x t k in (ys, ap (λ z. z ∷ ys) (sym r.0), r.1)

  pub none_given : (s t : S) (xs : List A) → AlwaysYields steps (λ p. p) s xs → steps s None t → xs ≡ []
  none_given s t [] g k = refl
  none_given s t (y ∷ ys) g k = absurd (g.0 t k)

-- the first step gives the first item, or nothing where there is none
pub first_given : {I A S : Type 0} (w : Model I A) (steps : S → Option A → S → Type 0) (s t : S) (i : I) (r : Option A) →
    AlwaysYields steps (λ p. p) s (w.elements i) → steps s r t → MatchOption r (w.elements i ≡ []) (IsFirstItem w i)
first_given w steps s t i None g k = none_given steps s t (w.elements i) g k
first_given w steps s t i (Some x) g k = let r = some_given steps s t x (w.elements i) g k in record { rest = r.0; whole = r.1 }

-- what is lacking, told in another way
module _ {I A E : Type 0} {w : Model I A} (code : A → ℕ) (Test : A → Bool → Type 0) (errs : Errors I E) (blame : Blame) {mode : Modes}
    {i : I} where
  pub head_lacking : {k l : Option ℕ} {r : PResult I ℕ E} → k ≡ l →
      ShowsMeaning w (λ t c. c ≡ t) (first_item_meaning w code Test errs blame k) mode i r →
      ShowsMeaning w (λ t c. c ≡ t) (first_item_meaning w code Test errs blame l) mode i r
  head_lacking {r = r} e h = subst (λ z. ShowsMeaning w (λ t c. c ≡ t) (first_item_meaning w code Test errs blame z) mode i r) e h
