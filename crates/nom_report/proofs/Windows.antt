-- The characters of a text from one on, and no more than so many, one character after another.
use Rattle.std.proofs.Common.{◌≡◌, ℕ, ◌-◌, ◌<◌, ◌≤◌, Bool, List, [], ◌∷◌, ◌++◌, length, map, take, drop, sym, ◌∙◌, ap}
use Rattle.std.proofs.Common.{arith, length-append, append-nil, append_assoc}
use Rattle.std.proofs.lemmas.List.{drop-append-le, length-drop, map-append, take_all}
use Rattle.std.proofs.lemmas.Str.{encodes-append}
use Rattle.std.proofs.Math.Utf8.{encode, encodes}
use Rattle.nom_report.specs.Quotes.{written_char, written_text}

-- one more character is written
pub written_more : (below : Bool) (skip count : ℕ) (ys : List ℕ) (c : ℕ) → skip ≤ length ys → length ys - skip < count →
    written_text below (take count (drop skip (ys ++ (c ∷ [])))) ≡ written_text below (take count (drop skip ys)) ++ encode (written_char below c)
written_more below skip count ys c l m =
    let longer : length (drop skip ys ++ (c ∷ [])) ≤ count = simp (length-append, length-drop) (omega arith) in
    let shorter : length (drop skip ys) ≤ count = simp length-drop (omega arith) in
    let all : take count (drop skip (ys ++ (c ∷ []))) ≡ take count (drop skip ys) ++ (c ∷ []) =
    ap (take count) (drop-append-le skip ys (c ∷ []) l) ∙ (take_all count (drop skip ys ++ (c ∷ [])) longer
    ∙ ap (λ z. z ++ (c ∷ [])) (sym (take_all count (drop skip ys) shorter))) in
    ap (written_text below) all ∙ (ap encodes (map-append (written_char below) (take count (drop skip ys)) (c ∷ []))
    ∙ (encodes-append (map (written_char below) (take count (drop skip ys))) (written_char below c ∷ [])
    ∙ ap (λ z. written_text below (take count (drop skip ys)) ++ z) (append-nil (encode (written_char below c)))))

-- a text that grew twice
pub appended : (new before start first both last : List ℕ) → new ≡ before ++ last → before ≡ start ++ first →
    both ≡ first ++ last → new ≡ start ++ both
appended new before start first both last n b f = n ∙ (ap (λ z. z ++ last) b ∙ (append_assoc start first last ∙ ap (λ z. start ++ z) (sym f)))
