-- The words of this crate's parsers: what is normal, the control character, and what may follow it. `code` is the code point of an item.
use Rattle.std.specs.Prelude.{◌≡◌, ℕ, List}
use Rattle.std.proofs.Common.{ap₂}
use Rattle.nom_internal.specs.Prelude.{Errors, Model, sliced}
use Rattle.nom_internal.specs.Word.{Word, word}
use Rattle.nom_bytes_escaped.specs.Escapes.{escaped_meaning, escaped_transform_meaning}
use Rattle.nom_bytes_escaped.specs.Texts.{AddAll}

module _ {I A O P E : Type 0} (w : Model I A) (errs : Errors I E) (code : A → ℕ) where
  abbrev escaped_meant : Word I O E → ℕ → Word I P E → Word I I E
  escaped_meant g c k = word (sliced w (escaped_meaning w errs (λ x. code x ≡ c) g.grammar.meaning k.grammar.meaning))

  pub escaped_of : Word I O E → ℕ → Word I P E → Word I I E
  escaped_of g c k = escaped_meant g c k

  module _ {g h : Word I O E} {k l : Word I P E} where
    pub escaped_worded : (c : ℕ) → g ≡ h → k ≡ l → escaped_of g c k ≡ escaped_meant h c l
    unfolding escaped_of
    escaped_worded c p q = ap₂ (λ x y. escaped_meant x c y) p q

    pub escaped_same : {c d : ℕ} → g ≡ h → c ≡ d → k ≡ l → escaped_of g c k ≡ escaped_of h d l
    escaped_same p r q = λ i. escaped_of (p i) (r i) (q i)

-- `parts` are those of a text, and the others what the outputs add to it
module _ {I A O P E X N : Type 0} (w : Model I A) (errs : Errors I E) (code : A → ℕ) (parts : X → List N) (normal_adds : O → List N)
    (escapable_adds : P → List N) where
  abbrev escaped_transform_meant : Word I O E → ℕ → Word I P E → Word I X E
  escaped_transform_meant g c k = word (record {
    meaning = escaped_transform_meaning w errs (λ x. code x ≡ c) g.grammar.meaning k.grammar.meaning;
    IsOutput = λ vs text. AddAll g.grammar.IsOutput k.grammar.IsOutput normal_adds escapable_adds vs (parts text);
  })

  pub escaped_transform_of : Word I O E → ℕ → Word I P E → Word I X E
  escaped_transform_of g c k = escaped_transform_meant g c k

  module _ {g h : Word I O E} {k l : Word I P E} where
    pub escaped_transform_worded : (c : ℕ) → g ≡ h → k ≡ l → escaped_transform_of g c k ≡ escaped_transform_meant h c l
    unfolding escaped_transform_of
    escaped_transform_worded c p q = ap₂ (λ x y. escaped_transform_meant x c y) p q

    pub escaped_transform_same : {c d : ℕ} → g ≡ h → c ≡ d → k ≡ l → escaped_transform_of g c k ≡ escaped_transform_of h d l
    escaped_transform_same p r q = λ i. escaped_transform_of (p i) (r i) (q i)
