-- Rests by their lengths, of what holds an input: they are those of what is held.
use Rattle.std.proofs.Common.{◌≡◌, ℕ, ◌-◌, ◌≤◌, arith}
use Rattle.nom_traits.specs.Cuts.{CutsAs, CutsNowhere, suffix_cuts}
use Rattle.nom_traits.specs.Input.{Model, IsSuffixOf, input_len}
use Rattle.nom_located.specs.Moving.{Moving, moving_model}

module _ {S I A : Type 0} (m : Moving S I A) (w : Model I A) where
  pub moving_cut : (x y : S) (n : ℕ) → CutsAs w (m.held x) n (m.held y) → CutsAs (moving_model m w) x n y
  moving_cut x y n c = record {
    length_is = c.length_is;
    place = record { front = c.place.front; rest = c.place.rest; whole = c.place.whole; length_is = c.place.length_is };
  }

  held_cut : (x y : S) (n : ℕ) → CutsAs (moving_model m w) x n y → CutsAs w (m.held x) n (m.held y)
  held_cut x y n c = record {
    length_is = c.length_is;
    place = record { front = c.place.front; rest = c.place.rest; whole = c.place.whole; length_is = c.place.length_is };
  }

  pub moving_nowhere : (x y : S) → CutsNowhere w (m.held x) (m.held y) → CutsNowhere (moving_model m w) x y
  moving_nowhere x y c = record { none = λ n p. c.none n (held_cut x y n p) }

module _ {I A : Type 0} (w : Model I A) (i j : I) (n : ℕ) (p : IsSuffixOf w i n j) where
  pub rest_within : input_len w j ≤ input_len w i
  rest_within = omega (arith, (suffix_cuts w i n j p).length_is)

  -- where a rest begins
  pub rest_at : n ≡ input_len w i - input_len w j
  rest_at = omega (arith, (suffix_cuts w i n j p).length_is)
