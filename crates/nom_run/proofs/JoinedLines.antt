-- The lines of a list, from the lines that were added.
use Rattle.std.proofs.Common.{◌≡◌, ℕ, ◌+◌, ◌<◌, ◌≤◌, List, [], ◌∷◌, ◌++◌, length, take, get_or, refl, sym, ◌∙◌, ap, append_assoc, append-nil}
use Rattle.std.proofs.lemmas.List.{take_more, take_all}
use Rattle.std.specs.List.{AllZip}
use Rattle.nom_run.specs.Texts.{lines_text}

module _ {X : Type 0} (line : X → List ℕ) where
  pub lines-append : (xs ys : List X) → lines_text line (xs ++ ys) ≡ lines_text line xs ++ lines_text line ys
  lines-append [] ys = refl
  lines-append (x ∷ xs) ys = ap (λ t. line x ++ t) (lines-append xs ys) ∙ sym (append_assoc (line x) (lines_text line xs) (lines_text line ys))

  pub lines-more : (xs : List X) (i : ℕ) (d : X) → i < length xs → lines_text line (take (i + 1) xs) ≡ lines_text line (take i xs) ++ line (get_or xs i d)
  lines-more xs i d h =
      ap (lines_text line) (take_more xs i d h) ∙ lines-append (take i xs) (get_or xs i d ∷ []) ∙
      ap (λ t. lines_text line (take i xs) ++ t) (append-nil (line (get_or xs i d)))

  -- one more line was added
  pub lines-step : (old before after : List ℕ) (xs : List X) (i : ℕ) (d : X) → i < length xs → before ≡ old ++ lines_text line (take i xs) →
      after ≡ before ++ line (get_or xs i d) → after ≡ old ++ lines_text line (take (i + 1) xs)
  lines-step old before after xs i d h e f =
      f ∙ ap (λ t. t ++ line (get_or xs i d)) e ∙ append_assoc old (lines_text line (take i xs)) _ ∙ ap (λ t. old ++ t) (sym (lines-more xs i d h))

  pub lines-all : (old after : List ℕ) (xs : List X) (i : ℕ) → length xs ≤ i → after ≡ old ++ lines_text line (take i xs) → after ≡ old ++ lines_text line xs
  lines-all old after xs i h e = e ∙ ap (λ ys. old ++ lines_text line ys) (take_all i xs h)

-- outputs have the lines of their trees
pub lines-same : {V O : Type 0} (IsOutput : V → O → Type 0) (tree : V → List ℕ) (given : O → List ℕ) →
    ((v : V) (o : O) → IsOutput v o → given o ≡ tree v) → (vs : List V) (os : List O) → AllZip IsOutput vs os → lines_text given os ≡ lines_text tree vs
lines-same IsOutput tree given same [] [] h = refl
lines-same IsOutput tree given same [] (o ∷ os) h = absurd h
lines-same IsOutput tree given same (v ∷ vs) [] h = absurd h
lines-same IsOutput tree given same (v ∷ vs) (o ∷ os) h =
    ap (λ xs. xs ++ lines_text given os) (same v o h.0) ∙ ap (λ xs. tree v ++ xs) (lines-same IsOutput tree given same vs os h.1)
