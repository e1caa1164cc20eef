-- The digits of one more byte.
use Rattle.std.proofs.Common.{◌≡◌, ℕ, ◌+◌, ◌/◌, ◌%◌, ◌<◌, List, [], ◌∷◌, ◌++◌, length, take, get_or, refl, sym, ap, ◌∙◌, append_assoc}
use Rattle.std.proofs.lemmas.List.{take_more}
use Rattle.nom_run.specs.Texts.{hex_digit, hex_of}

pub hex-append : (xs ys : List ℕ) → hex_of (xs ++ ys) ≡ hex_of xs ++ hex_of ys
hex-append [] ys = refl
hex-append (x ∷ xs) ys = ap (λ t. hex_digit (x / 16) ∷ hex_digit (x % 16) ∷ t) (hex-append xs ys)

pub hex-more : (xs : List ℕ) (i : ℕ) → i < length xs → hex_of (take (i + 1) xs) ≡ hex_of (take i xs) ++
    (hex_digit (get_or xs i 0 / 16) ∷ hex_digit (get_or xs i 0 % 16) ∷ [])
hex-more xs i h = ap hex_of (take_more xs i 0 h) ∙ hex-append (take i xs) (get_or xs i 0 ∷ [])

-- one byte's digits after those of the bytes before it
pub hex-step : (a b c xs : List ℕ) (i : ℕ) → i < length xs → b ≡ a ++ hex_of (take i xs) → c ≡ b ++
    (hex_digit (get_or xs i 0 / 16) ∷ hex_digit (get_or xs i 0 % 16) ∷ []) → c ≡ a ++ hex_of (take (i + 1) xs)
hex-step a b c xs i h p q = q ∙ ap (λ t. t ++ (hex_digit (get_or xs i 0 / 16) ∷ hex_digit (get_or xs i 0 % 16) ∷ [])) p ∙
    append_assoc a (hex_of (take i xs)) _ ∙ ap (λ t. a ++ t) (sym (hex-more xs i h))
