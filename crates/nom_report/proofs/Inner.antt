-- Reports lie in the input.
use Rattle.std.proofs.Common.{◌≡◌, ℕ, ◌+◌, sym, ap, subst, arith, inl, inr}
use Rattle.nom_internal.specs.Prelude.{Model, IsSuffixOf}
use Rattle.nom_internal.proofs.Consumed.{rest_length}
use Rattle.nom_report.specs.Reports.IsFurthest.{FirstGotFurther, SecondGotFurther, GotAsFar}
use Rattle.nom_report.specs.Within.{LiesIn, StaysWithin}
use Rattle.nom_report.specs.declared.value.Report.{Report}

module _ {I A : Type 0} (w : Model I A) (place : I → ℕ)
    (rests : (i j : I) (n : ℕ) → w.IsKnown i → IsSuffixOf w i n j → place j ≡ place i + n) where
  at_rest : (i j : I) (n : ℕ) (e : Report I) → w.IsKnown i → IsSuffixOf w i n j → e.at ≡ j → LiesIn w place i e
  at_rest i j n e k p is =
      let far = rests i j n k p in
      let there : place e.at ≡ place j = ap place is in
      record { from_start = omega (arith, far, there); to_end = omega (arith, far, there, rest_length p) }

  at_same : (i : I) (a e : Report I) → e.at ≡ a.at → LiesIn w place i a → LiesIn w place i e
  at_same i a e is h =
      let there : place e.at ≡ place a.at = ap place is in
      record { from_start = omega (arith, there, h.from_start); to_end = omega (arith, there, h.to_end) }

  pub stays_within : StaysWithin w place
  stays_within = record {
    of_kind = λ i j n kind e k p h. at_rest i j n e k p h.at_is;
    of_char = λ i j n c e k p h. at_rest i j n e k p h.at_is;
    joined = λ i a b e h x y. elim h as (λ _. LiesIn w place i e) [
      | FirstGotFurther l is ↦ subst (LiesIn w place i) (sym is) x
      | SecondGotFurther l is ↦ subst (LiesIn w place i) (sym is) y
      | GotAsFar j ↦ at_same i a e j.at_is x
    ];
    appended = λ i j kind a e h x. subst (LiesIn w place i) (sym h) x;
    named = λ i j name a e h x. elim h as (λ _. LiesIn w place i e) [ inl l ↦ at_same i a e l.at_is x | inr l ↦ at_same i a e l.at_is x ];
  }
