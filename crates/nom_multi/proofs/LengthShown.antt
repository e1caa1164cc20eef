-- Lemmas on the answers of what stands after a length.
use Rattle.std.proofs.Common.{◌≡◌, ℕ, true, Ok, Option, Some, sym}
use Rattle.nom_internal.specs.Prelude.{PResult, Modes, with_outputs, Model, InputLaws, Outcome, Accept, Refuse, Stop, Fails, Needs, ShowsOutcome}
use Rattle.nom_internal.specs.Prelude.{ShowsAnswer, RanOut}
use Rattle.nom_internal.specs.Prelude.{Shown, Meaning, ShowsMeaning, Family, OfValue}
use Rattle.nom_internal.proofs.Choices.{built_fact}
use Rattle.nom_internal.proofs.Shown.{then_ok, built_error}
use Rattle.nom_multi.specs.Lengths.{HasSize, after_length}

-- what is shown by the number that a length stands for
module _ {I A V O E : Type 0} (w : Model I A) (IsOutput : V → O → Type 0) (mode : Modes) (i : I) (IsLength : ℕ → Type 0) (n : ℕ) (h : IsLength n) where
  shows_of : (B : ℕ → E → Type 0) (o : Outcome V) (r : PResult I O E) → ShowsOutcome w IsOutput mode i (B n) o r →
      ShowsOutcome w IsOutput mode i (λ e. OfValue IsLength (λ k. B k e)) o r
  shows_of B (Accept m v) r s = s
  shows_of B Refuse r s = (s.0, built_error mode.errors _ _ s.0 (λ e f. record { value = n; is_value = h; fact = f }) s.1, s.2)
  shows_of B (Stop (Fails cause)) r s = (s.0, record { value = n; is_value = h; fact = s.1 }, s.2)
  shows_of B (Stop (Needs k)) r s = s

  length_shown : (N : ℕ → Outcome V → Type 0) (B : ℕ → E → Type 0) (R : ℕ → Type 0) (r : PResult I O E) →
      ShowsAnswer w IsOutput mode i (N n) (B n) (R n) r →
      ShowsAnswer w IsOutput mode i (λ o. OfValue IsLength (λ k. N k o)) (λ e. OfValue IsLength (λ k. B k e)) (OfValue IsLength R) r
  length_shown N B R r (RanOut e f) = RanOut e (record { value = n; is_value = h; fact = f })
  length_shown N B R r (Shown o a s) = Shown o (record { value = n; is_value = h; fact = a }) (shows_of B o r s)

-- a length is read, and what is meant by its number is shown on the rest
module _ {I A P Q T X Y E : Type 0} (w : Model I A) (l : InputLaws w) (tree : P → Q → T) (IsFirst : P → X → Type 0) (size : X → ℕ)
    (IsResult : T → Y → Type 0) (a : Meaning I P E) (f : Family ℕ I Q E) (mode : Modes) (i : I) where
  pub after_ok : (j : I) (x : Option X) (o : X) (n : ℕ) (r : PResult I Y E) →
      ShowsMeaning w IsFirst a (with_outputs true mode) i (Ok (j, x)) → x ≡ Some o → n ≡ size o →
      ((u : P) → ShowsMeaning w (λ q. IsResult (tree u q)) (f.at n) mode j r) →
      ShowsMeaning w IsResult (after_length w tree (HasSize IsFirst size) a f) mode i r
  after_ok j x o n r h q e t =
      then_ok l h (λ u b.
      length_shown w (λ v. IsResult (tree u v)) mode j (HasSize IsFirst size u) n
      (record { output = o; is_output = built_fact true (IsFirst u) x o b q; size_is = sym e })
      (λ k o. (f.at k).answers mode.streaming j o) (λ k y. (f.at k).blames mode.streaming j y) (λ k. (f.at k).may_run_out mode j) r (t u))
