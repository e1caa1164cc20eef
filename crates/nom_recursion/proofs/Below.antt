-- One rule of a grammar that contains itself, by those below.
use Rattle.std.proofs.Common.{◌≡◌, ℕ, ◌-◌, zero, suc, Bool, Err, refl, ap, arith, subst, sym}
use mathlib.Core.HProp.{h_prop_ext}
use mathlib.Core.Path.{fun_ext}
use Rattle.nom_error.specs.declared.kind.ErrorKind.TheVariants as Kind
use Rattle.nom_internal.specs.Prelude.{Errors, Fails, Failure, IResult, Model, OutOfMemory, Outright, Parsed, ParseRanOut, Stop, View}
use Rattle.nom_internal.specs.Word.{Answers, Word, answers_by}
use Rattle.nom_calls.specs.Words.{given_of}
use Rattle.nom_recursion.specs.Recursion.{inner_of, recursive_rule_of, too_deep_of, too_deep_worded}

-- a premise of functions that has one proof at each input, and holds of each, is none
pub take_any : {R I : Type 0} (Takes : R → I → Type 0) → ((r : R) (i : I) → IsProp (Takes r i)) → ((r : R) (i : I) → Takes r i) →
    ◌≡◌ {A = R → I → Type 0} Takes (λ _ _. Unit {0})
take_any Takes one all = fun_ext (λ r. fun_ext (λ i. h_prop_ext (one r i) (λ x y. refl) (λ x. tt) (λ x. all r i)))

module _ {R I A O E : Type 0} (w : Model I A) (errs : Errors I E) (view : View O) (s : Bool) (rule_of : (R → Word I O E) → R → Word I O E) where
  -- where no rule may lie inside
  pub rule_deepest : (d : ℕ) (q : R) (i : I) (r : IResult I O E) → d ≡ 0 → Answers w (too_deep_of errs) s i r →
      Answers w (recursive_rule_of w errs view s rule_of d q) s i r
  unfolding recursive_rule_of
  rule_deepest d q i r e h = subst (λ k. Answers w (recursive_rule_of w errs view s rule_of k q) s i r) (sym e) h

  below : (d : ℕ) (q : R) → (d ≡ 0 → ⊥) →
      recursive_rule_of w errs view s rule_of d q ≡ rule_of (λ p. inner_of w errs view s (recursive_rule_of w errs view s rule_of (d - 1) p)) q
  unfolding recursive_rule_of
  below zero q h = absurd (h refl)
  below (suc d) q h =
      let e : suc d - 1 ≡ d = omega arith in ap (λ k. rule_of (λ p. inner_of w errs view s (recursive_rule_of w errs view s rule_of k p)) q) (sym e)

  -- and else by what functions inside answer, which take every input
  pub rule_below : (d : ℕ) (Takes : R → I → Type 0) (q : R) (i : I) (r : IResult I O E) → (d ≡ 0 → ⊥) →
      Answers w (rule_of (λ p. given_of w errs view (Takes p) (Answers w (recursive_rule_of w errs view s rule_of (d - 1) p) s)) q) s i r →
      ((p : R) (i : I) → IsProp (Takes p i)) → ((p : R) (i : I) → Takes p i) → Answers w (recursive_rule_of w errs view s rule_of d q) s i r
  rule_below d Takes q i r n h one all =
      subst (λ k. Answers w k s i r) (sym (below d q n))
      (subst (λ T. Answers w (rule_of (λ p. given_of w errs view (T p) (Answers w (recursive_rule_of w errs view s rule_of (d - 1) p) s)) q) s i r)
      (take_any Takes one all) h)

module _ {I A O E : Type 0} (w : Model I A) (errs : Errors I E) (s : Bool) (i : I) where
  pub deep_fails : (r : IResult I O E) (e : E) → errs.of_kind i Kind.TooLarge e → r ≡ Err (Failure e) → Answers w (too_deep_of errs) s i r
  deep_fails r e h q = answers_by w (too_deep_worded errs) (Parsed (Stop (Fails Outright)) refl (e, h, q))

  pub deep_runs_out : (r : IResult I O E) → errs.grows → r ≡ Err OutOfMemory → Answers w (too_deep_of errs) s i r
  deep_runs_out r h q = answers_by w (too_deep_worded errs) (ParseRanOut q h)
