-- Cuts of texts: the lengths of their fronts.
use Rattle.std.specs.Prelude.{◌≡◌, ℕ, List, [], ◌∷◌, take, drop, chars, zero, suc}
use Rattle.std.specs.Borrow.{Bor}
use Rattle.std.specs.Char.{len_utf8}
use Rattle.std.proofs.Common.{arith, sym, subst}
use Rattle.std.proofs.lemmas.List.{take-append-drop}
use Rattle.nom_internal.specs.Prelude.{items_len, IsBoundary, text_model}
use Rattle.nom_calls.specs.Growing.{AreCuts}

-- each number of a list is the length of that many first characters
abbrev pub AreLengths : (characters cuts : List ℕ) → Type 0
AreLengths cs [] = Unit {0}
AreLengths cs (x ∷ xs) = ((count : ℕ) × (items_len len_utf8 (take count cs) ≡ x)) × AreLengths cs xs

place_of : (i : Bor (List ℕ)) (count x : ℕ) → items_len len_utf8 (take count (chars i.now)) ≡ x → IsBoundary text_model i x
place_of i count x e = record {
  front = take count (chars i.now);
  rest = drop count (chars i.now);
  whole = sym (take-append-drop count (chars i.now));
  length_is = e;
}

-- the cuts of a list that is written out, in a text of known bytes
pub text_cuts : (bytes : List ℕ) (i : Bor (List ℕ)) (cuts : List ℕ) → i.now ≡ bytes → AreLengths (chars bytes) cuts → AreCuts text_model i cuts
text_cuts bytes i [] e h k b = absurd (omega (arith, b))
text_cuts bytes i (x ∷ xs) e h zero b = place_of i h.0.0 x (subst (λ bs. items_len len_utf8 (take h.0.0 (chars bs)) ≡ x) (sym e) h.0.1)
text_cuts bytes i (x ∷ xs) e h (suc k) b = text_cuts bytes i xs e h.1 k (omega (arith, b))
