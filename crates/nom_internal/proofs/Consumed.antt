-- How much of an input lies before a rest of it, and what is shown of the slice before it.
use Rattle.std.proofs.Common.{◌≡◌, ℕ, ◌+◌, ◌-◌, ◌≤◌, false, [], Ok, Err, Option, refl, sym, ap, arith}
use Rattle.nom_internal.specs.Prelude.{Needed, Built, Modes, with_outputs, Model, InputLaws, IsSuffixOf, input_len, items_len, items_len-append, Slice, IsFirst}
use Rattle.nom_internal.specs.Prelude.{IsModelledBy, Accept, Shown, Meaning, ShowsMeaning, IsSliced, recognized_meaning}
use Rattle.nom_error.specs.declared.answer.Err as Answer
use Rattle.nom_internal.proofs.Cased.{here, plain_err}
use Rattle.nom_internal.proofs.Shown.{accepts}

-- an input is its own rest after nothing
module _ {I A : Type 0} (w : Model I A) (l : InputLaws w) where
  pub rest_self : (i : I) → w.IsKnown i → IsSuffixOf w i 0 i
  rest_self i h = record { known = h; front = []; whole = refl; length_is = refl; mark_is = sym (l.mark_none (w.mark i)) }

module _ {I A : Type 0} {w : Model I A} {i : I} {n : ℕ} {j : I} where
  pub rest_length : IsSuffixOf w i n j → input_len w i ≡ n + input_len w j
  rest_length p = omega (arith, ap (λ xs. items_len w.item_len xs) p.whole, items_len-append w.item_len p.front (w.elements j), p.length_is)

  pub rest_within : {a b : ℕ} → IsSuffixOf w i n j → a ≡ input_len w i → b ≡ input_len w j → b ≤ a
  rest_within r x y = omega (arith, rest_length r, x, y)

  pub before_length : {a b : ℕ} → IsSuffixOf w i n j → a ≡ input_len w i → b ≡ input_len w j → n ≡ a - b
  before_length r x y = omega (arith, rest_length r, x, y)

  -- the slice before a rest
  pub slice_before : IsSuffixOf w i n j → (t : Slice w) × IsFirst w i n t
  slice_before r = (record { items = r.front; mark = w.mark i }, record { rest = w.elements j; whole = r.whole; length_is = r.length_is; mark_is = refl })

-- what a part shows whose outputs aren't built, as the slice that it consumed
module _ {I A V O E : Type 0} (w : Model I A) (IsOutput : V → O → Type 0) (m : Meaning I V E) (mode : Modes) (i : I) where
  pub recognized_err : (f : Answer.Err E (Option E) Needed) → ShowsMeaning w IsOutput m (with_outputs false mode) i (Err f) →
      ShowsMeaning w (IsModelledBy w) (recognized_meaning w m) mode i (Err f)
  recognized_err f h = plain_err w IsOutput (IsModelledBy w) (λ _. false) (λ i n u. IsSliced w i n) m mode i f h

  pub recognized_ok : (j : I) (x : Option O) (b : Option I) → ShowsMeaning w IsOutput m (with_outputs false mode) i (Ok (j, x)) →
      ((n : ℕ) (t : Slice w) → IsSuffixOf w i n j → IsFirst w i n t → Built mode.outputs (IsModelledBy w t) b) →
      ShowsMeaning w (IsModelledBy w) (recognized_meaning w m) mode i (Ok (j, b))
  recognized_ok j x b h f =
      let a = accepts h in
      let t = slice_before a.rest_is in
      Shown (Accept a.length t.0) (here (Accept a.length a.tree) a.answered (t.0, t.1, refl)) (j, b, a.rest_is, f a.length t.0 a.rest_is t.1, refl)
