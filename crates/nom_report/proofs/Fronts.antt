-- Fronts of lists that are written.
use Rattle.std.proofs.Common.{◌≡◌, ℕ, ◌+◌, ◌<◌, List, [], ◌∷◌, ◌++◌, map, take, length, set, ◌∙◌, ap, arith}
use Rattle.std.proofs.lemmas.List.{take_more_set, map-append}

-- a front, with what is written behind it
pub front_set : {X Y : Type 0} (f : X → Y) (xs : List X) (n most : ℕ) (x : X) → length xs ≡ most → n < most →
    map f (take (n + 1) (set xs n x)) ≡ map f (take n xs) ++ (f x ∷ [])
front_set f xs n most x e l = ap (map f) (take_more_set xs n x (omega (arith, e, l))) ∙ map-append f (take n xs) (x ∷ [])
