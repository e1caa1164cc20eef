-- Lemmas on the answers on exactly that much of an input.
use Rattle.std.proofs.Common.{◌≡◌, ℕ, ◌-◌, ◌<◌, ◌≤◌, true, Ok, Err, Option, Some, inl, inr, arith, ◌∙◌, ap, subst, refl}
use Rattle.nom_internal.specs.Prelude.{Needed, Incomplete, PResult, size_of, Refuses, Errors, Built, Modes, with_streaming, Model, IsBoundary, IsSuffixOf}
use Rattle.nom_internal.specs.Prelude.{input_len, Slice, IsFirst, IsModelledBy, place_first, leaf_meaning, Outcome, Accept, Refuse, Stop, Fails, Needs}
use Rattle.nom_internal.specs.Prelude.{ShowsOutcome}
use Rattle.nom_internal.specs.Prelude.{RanOut, Shown, Meaning, ShowsMeaning}
use Rattle.nom_error.specs.declared.answer.Err as Answer
use Rattle.nom_error.specs.declared.kind.ErrorKind.TheVariants as Kind
use Rattle.nom_internal.proofs.Cased.{fixed_shown}
use Rattle.nom_internal.proofs.Shown.{accepted, undecided, refused, built_error}
use Rattle.nom_multi.specs.Values.{cuts, window_meaning, settled_meaning, SettlesResult}

module _ {I A E : Type 0} (w : Model I A) (errs : Errors I E) (n : ℕ) (mode : Modes) (i : I) where
  abbrev leaf : Meaning I (Slice w) E
  leaf = leaf_meaning (λ i. errs.of_kind i Kind.LengthValue) errs.grows (cuts w n)

  abbrev Cut : PResult I I E → Type 0
  Cut = ShowsMeaning w (IsModelledBy w) (window_meaning w errs n) mode i

  abbrev CutLeaf : PResult I I E → Type 0
  CutLeaf = ShowsMeaning w (IsModelledBy w) leaf (with_streaming true mode) i

  pub cut_lacks : (whole s : ℕ) (k : Needed) → whole ≡ input_len w i → whole < n → s ≡ n - whole → (0 < s → size_of k ≡ Some s) → Cut (Err (Incomplete k))
  cut_lacks whole s k e b f g =
      let lack : s ≡ n - input_len w i = f ∙ ap (λ z. n - z) e in
      let shown : CutLeaf (Err (Incomplete k)) = undecided (g (omega (arith, b, f)) ∙ ap Some lack) (refl, (omega (arith, e, b), refl)) in
      fixed_shown w (IsModelledBy w) true leaf mode i (Err (Incomplete k)) shown

  pub cut_refused : (whole : ℕ) (f : Answer.Err E (Option E) Needed) → whole ≡ input_len w i → n ≤ whole → (IsBoundary w i n → ⊥) →
      Refuses (errs.of_kind i Kind.LengthValue) errs.grows mode.errors f → Cut (Err f)
  cut_refused whole f e b p r =
      let shown : CutLeaf (Err f) = refused r (omega (arith, e, b), p) in
      fixed_shown w (IsModelledBy w) true leaf mode i (Err f) shown

  pub cut_accepted : (p : IsBoundary w i n) (j : I) (x : Option I) → IsSuffixOf w i n j →
      ((t : Slice w) → IsFirst w i n t → Built mode.outputs (IsModelledBy w t) x) → Cut (Ok (j, x))
  cut_accepted p j x r f =
      let first = place_first w i n p in
      let shown : CutLeaf (Ok (j, x)) = accepted _ r (first, refl) (f _ first) in
      fixed_shown w (IsModelledBy w) true leaf mode i (Ok (j, x)) shown

module _ {I A V O E : Type 0} (w : Model I A) (IsOutput : V → O → Type 0) (errs : Errors I E) (m : Meaning I V E) (mode : Modes) (i : I) where
  abbrev Settles : PResult I O E → PResult I O E → Type 0
  Settles = SettlesResult (errs.of_kind i Kind.Complete) errs.grows mode.errors

  abbrev Settled : PResult I O E → Type 0
  Settled = ShowsMeaning w IsOutput (settled_meaning errs m) mode i

  wanting : (k : Option ℕ) (r : PResult I O E) (f : Answer.Err E (Option E) Needed) →
      m.answers mode.streaming i (Stop (Needs k)) → Refuses (errs.of_kind i Kind.Complete) errs.grows mode.errors f → r ≡ Err f → Settled r
  wanting k r f a (inl h) e = RanOut (e ∙ ap Err h.0) (inr (k, a, h.1, h.2))
  wanting k r f a (inr h) e = Shown Refuse (Stop (Needs k), a, refl) (h.0, built_error mode.errors _ _ h.0 (λ y b. (Stop (Needs k), a, b)) h.1, e ∙ ap Err h.2)

  settled_of : (p r : PResult I O E) (o : Outcome V) → Settles p r → m.answers mode.streaming i o →
      ShowsOutcome w IsOutput mode i (m.blames mode.streaming i) o p → Settled r
  settled_of p r (Accept n v) q a s = Shown (Accept n v) (Accept n v, a, refl) (s.0, s.1, s.2, s.3, subst (λ z. Settles z r) s.4 q)
  settled_of p r Refuse q a s = Shown Refuse (Refuse, a, refl)
      (s.0, built_error mode.errors _ _ s.0 (λ y b. (Refuse, a, b)) s.1, subst (λ z. Settles z r) s.2 q)
  settled_of p r (Stop (Fails cause)) q a s =
      Shown (Stop (Fails cause)) (Stop (Fails cause), a, refl) (s.0, (Stop (Fails cause), a, s.1), subst (λ z. Settles z r) s.2 q)
  settled_of p r (Stop (Needs k)) q a s = let t = subst (λ z. Settles z r) s.2 q in wanting k r t.0 a t.1 t.2

  pub settled_shown : (p r : PResult I O E) → Settles p r → ShowsMeaning w IsOutput m mode i p → Settled r
  settled_shown p r q (RanOut e h) = RanOut (subst (λ z. Settles z r) e q) (inl h)
  settled_shown p r q (Shown o a s) = settled_of p r o q a s
