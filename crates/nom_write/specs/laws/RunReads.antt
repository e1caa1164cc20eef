-- Laws of reading back runs.
use Rattle.std.specs.Prelude.{◌≡◌, ℕ, ◌<◌, ◌≤◌, Bool, true, false, ◌⊎◌, List, [], ◌∷◌, length, Option, refl}
use Rattle.std.specs.List.{All}
use Rattle.std.proofs.Common.{arith, sym, ◌∙◌, subst, inl, inr}
use Rattle.nom_internal.specs.Prelude.{Accept, IsFirst, IsLawful, IsModelledBy, Model, Slice, Stops}
use Rattle.nom_internal.specs.Prelude.{items_len, leaf_meaning, same_self, sliced, AreValues, premised}
use Rattle.nom_bytes.specs.Predicates.{IsFixed}
use Rattle.nom_bytes.specs.ParsedRuns.{IsAtBound, IsRunSlice, IsWithinBound, runs}
use Rattle.nom_bytes.specs.laws.RunLaws.{run_lawful}
use Rattle.nom_write.specs.Reads.{Holds, IsEnd, Reads, ReadsAtEnd, ReadsBefore}
use Rattle.nom_write.specs.Runs.{BeginsOther, IsRunForm}

module _ {I A E : Type 0} (w : Model I A) (Test : A → Bool → Type 0) (least : ℕ) (bound : Option ℕ) (Blames : I → E → Type 0) (Grows : Type 0)
    (l : IsLawful w (leaf_meaning Blames Grows (runs w Test bound least))) where
  -- the items of a run, before what ends one
  run_before : (s : Bool) (Next : List A → Type 0) (xs : List A) →
      ((rest : List A) → Next rest → Stops (λ z. IsAtBound bound (length xs) ⊎ Test z false) rest × (s ≡ true → 0 < length rest)) →
      All (λ x. Test x true) xs → least ≤ length xs → IsWithinBound bound (length xs) → (IsTree : Slice w → Type 0) →
      ((t : Slice w) → t.items ≡ xs → IsTree t) → ReadsBefore w ((leaf_meaning Blames Grows (runs w Test bound least)).answers s) IsTree Next xs
  run_before s Next xs ends meets enough within IsTree stands = record {
    read = λ i rest o known e next a.
        let n = items_len w.item_len xs in
        let t : Slice w = record { items = xs; mark = w.mark i } in
        let first : IsFirst w i n t = record { rest = rest; whole = e; length_is = refl; mark_is = refl } in
        let end = ends rest next in
        let r : IsRunSlice w Test bound s i n t = record { first = first; meets = meets; bounded = within; stops = end.0; followed = end.1 } in
        (t, l.one_outcome s i i o (Accept n t) known known (same_self w i) a tt (r, inl enough), stands t refl);
  }

  -- before one that fails the test
  pub run_items : (s : Bool) (xs : List A) → All (λ x. Test x true) xs → least ≤ length xs → IsWithinBound bound (length xs) → (IsTree : Slice w → Type 0) →
      ((t : Slice w) → t.items ≡ xs → IsTree t) →
      ReadsBefore w ((leaf_meaning Blames Grows (runs w Test bound least)).answers s) IsTree (BeginsOther Test) xs
  run_items s xs = run_before s (BeginsOther Test) xs (λ rest next. (
    subst (Stops (λ z. IsAtBound bound (length xs) ⊎ Test z false)) (sym next.whole) (inr next.fails),
    λ _. subst (λ z. 0 < length z) {x = next.item ∷ next.more} {y = rest} (sym next.whole) (omega arith),
  ))

  module _ (one_mark : (m n : w.Mark) → m ≡ n) where
    modelled : (v : I) (xs : List A) → Holds w v xs → (t : Slice w) → t.items ≡ xs → IsModelledBy w t v
    modelled v xs h t e = record { known = h.known; elements_are = h.elements_are ∙ sym e; mark_is = one_mark _ _ }

    -- a run as an output
    pub run_reads : Reads w (sliced w (leaf_meaning Blames Grows (runs w Test bound least))) (IsRunForm w Test least bound) (BeginsOther Test)
    run_reads = record { reads = λ v xs f s. run_items s xs f.meets f.enough f.within (λ t. IsModelledBy w t v) (modelled v xs f.holds) }

    -- and at the end of a complete input
    pub run_ends : ReadsAtEnd w (sliced w (leaf_meaning Blames Grows (runs w Test bound least))) (IsRunForm w Test least bound)
    run_ends = record {
      reads = λ v xs f. run_before false IsEnd xs (λ rest next. (
        subst (Stops (λ z. IsAtBound bound (length xs) ⊎ Test z false)) {x = []} {y = rest} (sym next) tt,
        λ h. absurd (cc (h)),
      )) f.meets f.enough f.within (λ t. IsModelledBy w t v) (modelled v xs f.holds);
    }

-- a run as the output of a parser with a test, under premises of its own
module _ {I A E : Type 0} (w : Model I A) {IsValue : A → Type 0} (values : (i : I) → w.IsKnown i → AreValues IsValue (w.elements i))
    {Test : A → Bool → Type 0} (fixed : IsFixed IsValue Test) (Runs IsSound : Type 0) (bound : Option ℕ) (least : ℕ) (Blames : I → E → Type 0)
    (Grows : Type 0) (one_mark : (m n : w.Mark) → m ≡ n) where
  lawful : IsLawful w (leaf_meaning Blames Grows (runs w Test bound least))
  lawful = run_lawful w IsValue values Test fixed bound least Blames Grows

  pub test_reads : Reads w (sliced w (premised Runs IsSound (leaf_meaning Blames Grows (runs w Test bound least)))) (IsRunForm w Test least bound)
      (BeginsOther Test)
  test_reads = record { reads = (run_reads w Test least bound Blames Grows lawful one_mark).reads }

  pub test_ends : ReadsAtEnd w (sliced w (premised Runs IsSound (leaf_meaning Blames Grows (runs w Test bound least)))) (IsRunForm w Test least bound)
  test_ends = record { reads = (run_ends w Test least bound Blames Grows lawful one_mark).reads }
