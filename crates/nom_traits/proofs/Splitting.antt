-- Splits of an input after its run.
use Rattle.std.proofs.Common.{◌≡◌, ℕ, ◌<◌, ◌++◌, Bool, List, [], ◌∷◌, length, refl, sym, ◌∙◌, ap, subst, arith}
use Rattle.nom_traits.specs.Input.{Model, InputLaws, items_len}
use Rattle.nom_traits.specs.Runs.{Stops}
use Rattle.nom_traits.specs.Splits.{IsRunLength, IsRunEmpty}

module _ {I A : Type 0} (w : Model I A) (Meets Ends : A → Type 0) (streaming : Bool) (i : I) where
  no_items : (l : InputLaws w) (xs : List A) → items_len w.item_len xs ≡ 0 → xs ≡ []
  no_items l [] e = refl
  no_items l (x ∷ xs) e = absurd (omega (arith, l.positive x, e))

  -- a run of length 0
  pub run_empty : (l : InputLaws w) (n : ℕ) → IsRunLength w Meets Ends streaming i n → n ≡ 0 → IsRunEmpty w Meets Ends streaming i
  run_empty l n p e =
      let none : p.run ≡ [] = no_items l p.run (p.length_is ∙ e) in
      let whole : w.elements i ≡ p.rest = p.is_run.whole ∙ ap (λ xs. xs ++ p.rest) none in
      record {
        stops = subst (Stops Ends) (sym whole) p.is_run.stops;
        followed = λ s. subst (λ xs. 0 < length xs) (sym whole) (p.followed s);
      }
