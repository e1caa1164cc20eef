-- A first byte, and what is after it.
use Rattle.std.specs.Prelude.{cond, nat_lt, true}
use Rattle.std.proofs.Common.{◌≡◌, ℕ, ◌<◌, List, [], ◌∷◌, length, Bor, arith, refl, subst, ap, ◌∙◌}
use Rattle.std.proofs.lemmas.Bool.Decides.{nat_tests}
use Rattle.nom_internal.specs.Prelude.{Accept, Stop, Fails, Outright, bytes_model, AreValues, IsSuffixOf}
use Rattle.example_parts.specs.Firsts.{small_outcome}

pub after_first : {i j : Bor (List ℕ)} {x : ℕ} → bytes_model.IsKnown i → i.now ≡ x ∷ j.now → IsSuffixOf bytes_model i 1 j
after_first {i} {j} {x} h e = record {
  known = ((subst (AreValues (λ b. b < 256)) e h.0).1, omega (arith, h.1, ap length e));
  front = x ∷ [];
  whole = e;
  length_is = refl;
  mark_is = refl;
}

below_128 : (x : ℕ) → x < 128 → nat_lt x 128 ≡ true
below_128 x h = grind (arith, nat_tests)

pub small_first : {x : ℕ} {xs ys : List ℕ} → ys ≡ x ∷ xs → x < 128 → small_outcome ys ≡ Accept 1 x
small_first {x} {xs} e h = ap small_outcome e ∙ ap (λ b. cond b (Accept 1 x) (Stop (Fails Outright))) (below_128 x h)
