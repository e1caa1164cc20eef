-- Lemmas on the members of a list, by their places.
use Rattle.std.proofs.Common.{◌≡◌, ℕ, ◌<◌, Bool, false, IsTrue, List, map, length, get_or, sym, ◌∙◌, true≢false}
use Rattle.std.proofs.lemmas.List.{get_or-map}

-- where what stands at a place isn't seen as y, y doesn't stand there
pub not_at : {X Y : Type 0} (f : X → Y) (xs : List X) (k : ℕ) (d : X) (y : Y) → k < length xs → (f (get_or xs k d) ≡ y → ⊥) →
    y ≡ get_or (map f xs) k y → ⊥
not_at f xs k d y l n e = n (sym (e ∙ get_or-map f xs k d y l))

-- what a test has told that answered false
pub not_so : {P : Type 0} {t : Bool} → (P → IsTrue t) → t ≡ false → P → ⊥
not_so h e p = true≢false (sym (h p) ∙ e)
