-- The words that were read as numbers, one below the other.
use Rattle.std.proofs.Common.{◌≡◌, ℕ, zero, suc, ◌+◌, ◌-◌, ◌<◌, ◌≤◌, List, [], ◌∷◌, ◌++◌, get_or, map, length, slice_index, slice_index_or, below_more}
use Rattle.std.proofs.Common.{ap, arith, length-append, refl, subst, ◌∙◌}
use Rattle.std.proofs.lemmas.List.{get_or_append_left, get_or-append-add}
use Rattle.nom_run.specs.Runs.{NeverFalls}
use Rattle.nom_run.specs.Words.{IsDecimalSize, word_number, StartsWithNumbers}

-- the word at a place
pub word-is : {X : Type 0} (spelled : X → List ℕ) (ws : List X) (k : ℕ) (d : X) → k < length ws →
    slice_index_or (map spelled ws) k [] ≡ spelled (get_or ws k d)
word-is spelled [] k d h = absurd (omega (arith, h))
word-is spelled (w ∷ ws) zero d h = refl
word-is spelled (w ∷ ws) (suc k) d h = word-is spelled ws k d (omega (arith, h))

-- those before a place, and the one there
module _ (ws : List (List ℕ)) (cuts : List ℕ) (i floor cut : ℕ) (lengths : length cuts ≡ i)
    (each : (k : ℕ) → k < i → IsDecimalSize (slice_index_or ws k []) × (slice_index cuts k ≡ word_number (slice_index_or ws k []))) (ordered : NeverFalls cuts)
    (last : 0 < i → slice_index cuts (i - 1) ≡ floor) (here : IsDecimalSize (slice_index_or ws i []) × (cut ≡ word_number (slice_index_or ws i [])))
    (above : floor ≤ cut) where
  abbrev Rises : ℕ → Type 0
  Rises k = word_number (slice_index_or ws k []) ≤ word_number (slice_index_or ws (k + 1) [])

  rises_before : (k : ℕ) → k + 1 < i → Rises k
  rises_before k h = omega (arith, (each k (omega arith)).1, (each (k + 1) h).1, ordered k (omega (arith, lengths)))

  rises_last : 0 < i → Rises (i - 1)
  rises_last h =
      let e : i - 1 + 1 ≡ i = omega arith in
      rw e (omega (arith, (each (i - 1) (omega arith)).1, last h, here.1, above))

  pub starts_with_numbers : i < length ws → StartsWithNumbers ws
  starts_with_numbers within = record {
    place = i;
    within = within;
    each = λ k h. below_more (λ j. IsDecimalSize (slice_index_or ws j [])) i (λ j l. (each j l).0) here.0 k (omega (arith, h));
    ordered = λ k h. below_more Rises (i - 1) (λ j l. rises_before j (omega (arith, l, h))) (rises_last (omega (arith, h))) k (omega (arith, h));
  }

  -- with the one there they are the numbers of one word more
  module _ (longer : List ℕ) (longer_is : longer ≡ cuts ++ (cut ∷ [])) where
    before_is : (k : ℕ) → k < i → slice_index longer k ≡ slice_index cuts k
    before_is k h = ap (λ z. slice_index z k) longer_is ∙ get_or_append_left cuts (cut ∷ []) 0 k (omega (arith, h, lengths))

    last_is : slice_index longer i ≡ cut
    last_is =
        let e : length cuts + 0 ≡ i = omega (arith, lengths) in
        ap (λ z. slice_index z i) longer_is ∙ subst (λ n. slice_index (cuts ++ (cut ∷ [])) n ≡ cut) e (get_or-append-add cuts (cut ∷ []) 0 0)

    length_is : length longer ≡ i + 1
    length_is = ap length longer_is ∙ (length-append cuts (cut ∷ []) ∙ ap (λ n. n + 1) lengths)

    never_falls : NeverFalls longer
    never_falls k h =
        let l : k < i = omega (arith, h, length_is) in
        let e : i - 1 + 1 ≡ i = omega (arith, l) in
        below_more (λ j. slice_index longer j ≤ slice_index longer (j + 1)) (i - 1)
        (λ j m. omega (arith, m, before_is j (omega (arith, m)), before_is (j + 1) (omega (arith, m)), ordered j (omega (arith, m, lengths))))
        (rw e (omega (arith, before_is (i - 1) (omega (arith, l)), last (omega (arith, l)), last_is, above))) k (omega (arith, l))

    pub one_more_number : (length longer ≡ i + 1) × ((k : ℕ) → k < i + 1 → IsDecimalSize (slice_index_or ws k []) ×
        (slice_index longer k ≡ word_number (slice_index_or ws k []))) × NeverFalls longer × (slice_index longer i ≡ cut)
    one_more_number = (
      length_is,
      λ k h. below_more (λ j. IsDecimalSize (slice_index_or ws j []) × (slice_index longer j ≡ word_number (slice_index_or ws j []))) i
          (λ j l. ((each j l).0, before_is j l ∙ (each j l).1)) (here.0, last_is ∙ here.1) k (omega (arith, h)),
      never_falls,
      last_is,
    )
