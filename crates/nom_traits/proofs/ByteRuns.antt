-- Where a run of bytes ends.
use Rattle.std.proofs.Common.{ℕ, ◌+◌, ◌≤◌, ◌<◌, ◌++◌, ◌∷◌, Some, None, Bor, List, length, get_or, take, drop, sym, ◌∙◌, ap, arith, add-one}
use Rattle.std.proofs.Math.Seq.{drop-cons}
use Rattle.std.specs.List.{All}
use Rattle.std.proofs.lemmas.List.{length-take-le, take-append-drop, take_all}
use Rattle.std.proofs.lemmas.List.Elements.{All-same}
use Rattle.nom_traits.specs.Rests.{items_len-ones}
use Rattle.nom_traits.specs.Bytes.{bytes_model}
use Rattle.nom_traits.specs.Runs.{IsPosition}

module _ (Meets Ends : ℕ → Type 0) (i : Bor (List ℕ)) (n : ℕ) where
  -- the first n bytes meet the test, and the next one ends the run
  pub byte_ends : n < length i.now → All Meets (take n i.now) → Ends (get_or i.now n 0) → IsPosition bytes_model Meets Ends i (Some n)
  byte_ends h m e = record {
    run = take n i.now;
    item = get_or i.now n 0;
    rest = drop (n + 1) i.now;
    is_run = record {
      whole = sym (take-append-drop n i.now) ∙
          ap (λ ys. take n i.now ++ ys) (drop-cons i.now n 0 h ∙ ap (λ k. get_or i.now n 0 ∷ drop k i.now) (sym (add-one n)));
      meets = m;
      stops = e;
    };
    length_is = items_len-ones (take n i.now) ∙ length-take-le n i.now (omega (arith, h));
  }

  -- all bytes meet the test
  pub bytes_meet : length i.now ≤ n → All Meets (take n i.now) → IsPosition bytes_model Meets Ends i None
  bytes_meet h m = All-same Meets i.now (take n i.now) (sym (take_all n i.now h)) m
