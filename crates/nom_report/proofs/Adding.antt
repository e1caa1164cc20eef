-- Expectations that are added one after another.
use Rattle.std.proofs.Common.{ℕ, ◌+◌, ◌<◌, List, [], ◌∷◌, ◌++◌, map, take, length, get_or, sym, subst, refl}
use Rattle.std.proofs.lemmas.List.{map_more}
use Rattle.nom_report.specs.Wanted.{Wanted}
use Rattle.nom_report.specs.Kept.{Kept, AddsExpectation, AddsEach}

pub adds_more : (a b e : Kept) (ws : List Wanted) (it : Wanted) → AddsEach a ws b → AddsExpectation b it e → AddsEach a (ws ++ (it ∷ [])) e
adds_more a b e [] it h k = (e, subst (λ z. AddsExpectation z it e) h k, refl)
adds_more a b e (w ∷ ws) it h k = (h.0, h.1, adds_more h.0 b e ws it h.2 k)

-- one more of the elements of a list
pub adds_step : {X : Type 0} (f : X → Wanted) (xs : List X) (i : ℕ) (d : X) (a b e : Kept) → i < length xs →
    AddsEach a (map f (take i xs)) b → AddsExpectation b (f (get_or xs i d)) e → AddsEach a (map f (take (i + 1) xs)) e
adds_step f xs i d a b e l h k = subst (λ ws. AddsEach a ws e) (sym (map_more f xs i d l)) (adds_more a b e (map f (take i xs)) (f (get_or xs i d)) h k)
