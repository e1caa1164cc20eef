-- Lemmas on the answers of items of which the input is certain.
use Rattle.std.proofs.Common.{◌≡◌, ℕ, ◌+◌, ◌-◌, ◌*◌, ◌<◌, ◌≤◌, ◌∷◌, ◌∙◌, [], List, length, zero, suc, Bool, Err, Option, arith, ap, subst, sym}
use Rattle.std.proofs.Common.{length-append}
use Rattle.nom_error.specs.declared.answer.Err as Answer
use Rattle.nom_internal.specs.Prelude.{Needed, Modes, Model, InputLaws, IsSuffixOf, items_len, same_cut, Accept, Meaning, RanOut, Shown}
use Rattle.nom_internal.specs.Prelude.{ShowsMeaning, ShowsOutcome, HasWidth}
use Rattle.nom_repeat.specs.Certain.{IsCertain, AreCertain}

-- items have a length
moves : {I A : Type 0} {w : Model I A} → InputLaws w → (xs : List A) → 0 < length xs → 0 < items_len w.item_len xs
moves l [] h = absurd (omega (arith, h))
moves l (x ∷ xs) h = omega (arith, l.positive x)

module _ {I A V E : Type 0} {w : Model I A} {m : Meaning I V E} where
  -- such an item isn't refused, and is given
  pub certain_given : {O : Type 0} {IsOutput : V → O → Type 0} {mode : Modes} {i : I} {f : Answer.Err E (Option E) Needed} → IsCertain w m i →
      ShowsMeaning w IsOutput m mode i (Err f) → ⊥
  certain_given {mode = mode} h (RanOut e r) = h.has_memory mode r
  certain_given {O} {IsOutput} {mode} {i} {f} h (Shown o a s) =
      let t = h.accepts mode.streaming o a in
      absurd (cc ((subst (λ z. ShowsOutcome w IsOutput mode i (m.blames mode.streaming i) z (Err f)) t.3 s).4))

  pub certain_moves : {i : I} {s : Bool} {n : ℕ} {v : V} → IsCertain w m i → m.answers s i (Accept n v) → 0 < n
  certain_moves {s = s} {n = n} {v = v} h a = let t = h.accepts s (Accept n v) a in let same : n ≡ t.0 = cc (t.3) in subst (λ z. 0 < z) (sym same) t.2

  pub certain_first : {count : ℕ} {i : I} → 0 < count → AreCertain w m count i → IsCertain w m i
  certain_first {count = zero} p h = absurd (omega (arith, p))
  certain_first {count = suc count} p h = h.0

  -- the first of the row, and the others
  pub certain_next : {count done : ℕ} {i : I} → done < count → AreCertain w m (count - done) i →
      IsCertain w m i × ((s : Bool) (n : ℕ) (v : V) (j : I) → m.answers s i (Accept n v) → IsSuffixOf w i n j → AreCertain w m (count - (done + 1)) j)
  certain_next {count} {done} {i} b h = let e : count - done ≡ suc (count - (done + 1)) = omega (arith, b) in subst (λ z. AreCertain w m z i) e h

  module _ (l : InputLaws w) where
    module _ {width : ℕ} (h : HasWidth w m width) (p : 0 < width) (i : I) (known : w.IsKnown i) (f : width ≤ length (w.elements i)) where
      certain_here : IsCertain w m i
      certain_here = record {
        accepts = λ s o a.
            let t = h.accepts s i o known p f a in
            (t.0, t.1, subst (λ z. 0 < z) t.2.place.length_is (moves l t.2.place.front (subst (λ z. 0 < z) (sym t.2.count_is) p)), t.3);
        has_memory = λ mode. h.has_memory mode i known p f;
      }

      rest_fewer : (s : Bool) (n : ℕ) (v : V) (j : I) → m.answers s i (Accept n v) → IsSuffixOf w i n j → length (w.elements i) ≡ width + length (w.elements j)
      rest_fewer s n v j a r =
          let t = h.accepts s i (Accept n v) known p f a in
          let same : n ≡ t.0 = cc (t.3) in
          let cut = same_cut w.item_len l.positive r.front (w.elements j) t.2.place.front t.2.place.rest (sym r.whole ∙ t.2.place.whole)
          (r.length_is ∙ (same ∙ sym t.2.place.length_is)) in
          omega (arith, ap length r.whole, length-append r.front (w.elements j), ap length cut.0, t.2.count_is)

    -- as many items of a fixed width as the input has
    pub certain_row : {width : ℕ} → HasWidth w m width → (k : ℕ) (i : I) → w.IsKnown i → (0 < k → 0 < width) → k * width ≤ length (w.elements i) →
        AreCertain w m k i
    certain_row h zero i known p f = tt
    certain_row {width} h (suc k) i known p f =
        let q : 0 < width = p (omega arith) in
        let first : width ≤ length (w.elements i) = omega (arith, f) in (
          certain_here h q i known first,
          λ s n v j a r. certain_row h k j r.known (λ _. q) (omega (arith, f, rest_fewer h q i known first s n v j a r)),
        )
