-- An input of which nothing is left.
use Rattle.std.specs.Prelude.{◌≡◌, ℕ, ◌<◌, List, [], ◌∷◌, refl}
use Rattle.std.proofs.Common.{arith, ap}
use Rattle.nom_internal.specs.Prelude.{Model, items_len, input_len}

-- items of no length are none
pub no_length : {A : Type 0} (item_len : A → ℕ) → ((a : A) → 0 < item_len a) → (xs : List A) → items_len item_len xs ≡ 0 → xs ≡ []
no_length item_len pos [] e = refl
no_length item_len pos (x ∷ xs) e = absurd (omega (arith, pos x, e))

-- no items have no length
pub no_items : {I A : Type 0} (w : Model I A) {i : I} → w.elements i ≡ [] → input_len w i ≡ 0
no_items w e = ap (λ xs. items_len w.item_len xs) e
