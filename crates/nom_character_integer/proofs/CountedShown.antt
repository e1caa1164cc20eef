-- Lemmas on the answers of a number in a bounded count of digits.
use Rattle.std.proofs.Common.{◌≡◌, ℕ, ◌-◌, ◌<◌, ◌≤◌, max, Bool, true, false, Option, Some, Ok, length, refl, sym, ◌∙◌, ap, subst, arith}
use Rattle.nom_internal.specs.Prelude.{Modes, Built, Errors, Model, IsSuffixOf, ShowsMeaning}
use Rattle.nom_internal.proofs.Shown.{accepted}
use Rattle.nom_character_integer.specs.declared.bounded.Run.{Run}
use Rattle.nom_character_integer.specs.CountedDigits.{first_digits, number_of, AreEnded, counted_digits, digits_meaning}
use Rattle.nom_character_integer.specs.CountedRead.{IsRun}

-- the greatest number, named otherwise
module _ {I A : Type 0} {w : Model I A} {code : A → ℕ} {base n a b : ℕ} {i : I} (same : a ≡ b) where
  pub run_below : {run : Run} → IsRun w code base n a i run → IsRun w code base n b i run
  run_below {run = run} r = subst (λ greatest. IsRun w code base n greatest i run) same r

pub above : {a b v : ℕ} → a ≡ b → a < v → b < v
above e h = omega (arith, e, h)

module _ {I A : Type 0} (w : Model I A) (code : A → ℕ) (base m n greatest : ℕ) (i : I) (run : Run) (r : IsRun w code base n greatest i run) where
  pub ended : (s : Bool) → (run.ended ≡ false → s ≡ false) → s ≡ true → AreEnded code base n (w.elements i)
  ended s h e = by run.ended refl
    where
      by : (b : Bool) → run.ended ≡ b → AreEnded code base n (w.elements i)
      by true p = r.ended_is p
      by false p = absurd (cc (e, h p))

  -- more is needed
  pub lacks : run.ended ≡ false → (k : ℕ) → k ≡ max 1 (m - run.count) → let ds = first_digits code base n (w.elements i) in
      (number_of code base ds ≤ greatest) × (length ds < n) × (length ds ≡ length (w.elements i)) × (Some k ≡ Some (max 1 (m - length ds)))
  lacks e k p =
      let short = r.open_is e in (
        omega (arith, r.value_is, r.fits),
        omega (arith, short.0, r.count_is),
        sym r.count_is ∙ short.1,
        ap Some (p ∙ ap (λ c. max 1 (m - c)) r.count_is),
      )

  -- a number that was read is accepted
  pub digits_shown : {T E : Type 0} (of_number : ℕ → T) (errs : Errors I E) (mode : Modes) (j : I) (x : Option T) → IsSuffixOf w i run.length j →
      (run.ended ≡ false → mode.streaming ≡ false) → m ≤ run.count → Built mode.outputs (λ y. y ≡ of_number run.value) x →
      ShowsMeaning w (λ v y. y ≡ of_number v) (digits_meaning w code base m n greatest errs) mode i (Ok (j, x))
  unfolding counted_digits
  digits_shown of_number errs mode j x rest h k built =
      accepted run.value rest (subst (λ c. m ≤ c) r.count_is k, ended mode.streaming h, r.length_is, r.value_is, r.fits) built
