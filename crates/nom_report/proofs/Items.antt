-- Items in words, one after another.
use Rattle.std.proofs.Common.{◌≡◌, ℕ, ◌+◌, ◌<◌, Bool, List, [], ◌∷◌, ◌++◌, map, take, length, get_or, sym, ◌∙◌, ap, arith}
use Rattle.std.proofs.Common.{append_assoc, append-nil}
use Rattle.std.proofs.lemmas.List.{map_more, length-take-le, length-map}
use Rattle.nom_report.specs.Wanted.{Wanted}
use Rattle.nom_report.specs.Words.{between_text, expected_text, items_text}

items_then : (index len : ℕ) (more : Bool) (its : List Wanted) (it : Wanted) → items_text index len more (its ++ (it ∷ [])) ≡
    items_text index len more its ++ (between_text (index + length its) len more ++ expected_text it)
items_then index len more [] it =
    let here : index ≡ index + 0 = omega arith in
    append-nil (between_text index len more ++ expected_text it) ∙ ap (λ k. between_text k len more ++ expected_text it) here
items_then index len more (x ∷ its) it =
    let front = between_text index len more ++ expected_text x in
    let here : index + 1 + length its ≡ index + length (x ∷ its) = omega arith in
    ap (λ z. front ++ z) (items_then (index + 1) len more its it
    ∙ ap (λ k. items_text (index + 1) len more its ++ (between_text k len more ++ expected_text it)) here)
    ∙ sym (append_assoc front (items_text (index + 1) len more its) (between_text (index + length (x ∷ its)) len more ++ expected_text it))

-- one more of the items
pub items_more : {X : Type 0} (f : X → Wanted) (xs : List X) (i : ℕ) (d : X) (len : ℕ) (more : Bool) → i < length xs →
    items_text 0 len more (map f (take (i + 1) xs)) ≡ items_text 0 len more (map f (take i xs))
    ++ (between_text i len more ++ expected_text (f (get_or xs i d)))
items_more f xs i d len more l =
    let here : 0 + length (map f (take i xs)) ≡ i = omega (arith, length-map (take i xs) f, length-take-le i xs (omega arith)) in
    ap (items_text 0 len more) (map_more f xs i d l) ∙ (items_then 0 len more (map f (take i xs)) (f (get_or xs i d))
    ∙ ap (λ k. items_text 0 len more (map f (take i xs)) ++ (between_text k len more ++ expected_text (f (get_or xs i d)))) here)

-- a text that grew twice, by what stands between two items and by an item
pub grown : (new mid before start head its more_its between item : List ℕ) → new ≡ mid ++ item → mid ≡ before ++ between →
    before ≡ start ++ (head ++ its) → more_its ≡ its ++ (between ++ item) → new ≡ start ++ (head ++ more_its)
grown new mid before start head its more_its between item n m b e =
    let regrouped : ((start ++ (head ++ its)) ++ between) ++ item ≡ start ++ (head ++ (its ++ (between ++ item))) = simp append_assoc in
    n ∙ (ap (λ z. z ++ item) (m ∙ ap (λ z. z ++ between) b) ∙ (regrouped ∙ ap (λ z. start ++ (head ++ z)) (sym e)))
