-- Inputs that hold another input, and a mark of their own that each item moves: a line and a column, or how many items were passed. They
-- have the model of what they hold, with that as a part of the mark.
use Rattle.std.specs.Prelude.{ℕ, ◌+◌, ◌≤◌, List, [], ◌∷◌}
use Rattle.nom_traits.specs.Input.{Model, input_len}
use Rattle.nom_traits.specs.View.{View}

-- what such a value holds, its own mark, and how an item moves that
pub record Moving (S I A : Type 0) : Type 1 where
  pub held : S → I
  pub Mark : Type 0
  pub mark : S → Mark
  pub step : Mark → A → Mark
  -- which marks may stand before what is left, of a length: numbers that count up have to fit their type
  pub Fits : Mark → ℕ → Type 0

-- the mark after some items
abbrev pub moved : {M A : Type 0} → (M → A → M) → M → List A → M
moved step m [] = m
moved step m (x ∷ xs) = moved step (step m x) xs

-- a mark that fits goes on to fit, after an item, and before less
pub record Fitting {M A : Type 0} (item_len : A → ℕ) (step : M → A → M) (Fits : M → ℕ → Type 0) : Type 0 where
  pub after_item : (m : M) (a : A) (n : ℕ) → Fits m (item_len a + n) → Fits (step m a) n
  pub before_less : (m : M) (n k : ℕ) → k ≤ n → Fits m n → Fits m k

-- for marks that at_any_place fit
abbrev pub at_any_place : {M : Type 0} → M → ℕ → Type 0
at_any_place _ _ = Unit {0}

module _ {S I A : Type 0} (m : Moving S I A) (w : Model I A) where
  abbrev pub moving_model : Model S A
  moving_model = record {
    elements = λ x. w.elements (m.held x);
    item_len = w.item_len;
    Mark = m.Mark × w.Mark;
    mark = λ x. (m.mark x, w.mark (m.held x));
    mark_after = λ k xs. (moved m.step k.0 xs, w.mark_after k.1 xs);
    IsKnown = λ x. w.IsKnown (m.held x) × m.Fits (m.mark x) (input_len w (m.held x));
    IsMore = w.IsMore;
  }

-- the view of what is held, with the mark
abbrev pub moving_view : {S I A : Type 0} → Moving S I A → View I → View S
moving_view m v = record { Value = m.Mark × v.Value; value = λ x. (m.mark x, v.value (m.held x)) }
