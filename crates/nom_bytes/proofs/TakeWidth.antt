-- The width of `take`.
use Rattle.std.proofs.Common.{◌≡◌, ℕ, ◌≤◌, Bool, List, length, Option, arith, refl}
use Rattle.nom_internal.specs.Prelude.{Errors, Model, Slice, IsBoundary, IsCount, Outcome, Accept, Refuse, Stop, Fails, Needs, HasWidth}
use Rattle.nom_internal.specs.Prelude.{LeafAnswers}
use Rattle.nom_bytes.specs.Takes.{takes, take_meaning}

module _ {I A E : Type 0} (w : Model I A) (errs : Errors I E) (lack : ℕ → List A → Option ℕ) (count : ℕ) where
  accepted : (s : Bool) (i : I) (o : Outcome (Slice w)) → count ≤ length (w.elements i) → LeafAnswers (takes w lack count) s i o →
      (n : ℕ) × (t : Slice w) × IsCount w i count n × (o ≡ Accept n t)
  accepted s i (Accept n t) f a =
      let place : IsBoundary w i n = record { front = t.items; rest = a.0.rest; whole = a.0.whole; length_is = a.0.length_is } in
      (n, t, record { place = place; count_is = a.1 }, refl)
  accepted s i Refuse f a = absurd (omega (arith, f, a.1))
  accepted s i (Stop (Fails cause)) f a = absurd a
  accepted s i (Stop (Needs k)) f a = absurd (omega (arith, f, a.1.0))

  pub take_width : HasWidth w (take_meaning w errs lack count) count
  take_width = record {
    accepts = λ s i o known p f a. accepted s i o f a;
    has_memory = λ mode i known p f r. absurd (omega (arith, f, r.0.1));
  }
