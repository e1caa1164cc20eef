-- One item more.
use Rattle.std.proofs.Common.{arith, ◌≡◌, ℕ, ◌+◌, List, [], ◌∷◌, ◌++◌, length, length-append, Option, Some, Ok, refl, sym, subst}
use Rattle.std.specs.List.{FoldsTo}
use Rattle.nom_error.specs.declared.value.Error.{Error}
use Rattle.nom_internal.specs.Prelude.{Grammar}
use Rattle.nom_stream.specs.declared.stream.Stream.{Stream}
use Rattle.nom_stream.specs.Each.{Gives, told_of}
use Rattle.nom_stream.specs.Items.{Bytes}
use Rattle.nom_stream.specs.Streams.{Decides}
use Rattle.nom_stream.specs.Wholes.{Calls}

module _ {O P : Type 0} (Step : P → O → P → Type 0) where
  steps_more : (ps : List (ℕ × O)) (k : ℕ × O) (p q r : P) → FoldsTo (λ p x q. Step p x.1 q) p ps q → Step q k.1 r →
      FoldsTo (λ p x q. Step p x.1 q) p (ps ++ k ∷ []) r
  steps_more [] k p q r e h = (r, subst (λ z. Step z k.1 r) (sym e) h, refl)
  steps_more (x ∷ ps) k p q r g h = (g.0, g.1, steps_more ps k g.0 q r g.2 h)

module _ {R A V O : Type 0} (left : R → Option (List ℕ)) (grammar : Grammar Bytes V O (Error Bytes)) where
  calls_more : (ps : List (ℕ × O)) (k : ℕ × O) (s t u : Stream R A) → Calls left grammar (told_of ps) s t → Decides left grammar t u (Ok (Some k)) →
      Calls left grammar (told_of (ps ++ k ∷ [])) s u
  calls_more [] k s t u e d = (u, subst (λ z. Decides left grammar z u (Ok (Some k))) e d, refl)
  calls_more (p ∷ ps) k s t u h d = (h.0, h.1, calls_more ps k h.0 t u h.2 d)

module _ {R A V O P : Type 0} (left : R → Option (List ℕ)) (grammar : Grammar Bytes V O (Error Bytes)) (Step : P → O → P → Type 0) where
  pub none_given : (s : Stream R A) (p : P) → Gives left grammar Step s s p p 0
  none_given s p = record { items = []; counted = refl; calls = refl; steps = refl }

  pub one_given : (s t u : Stream R A) (p q r : P) (count n : ℕ) (x : O) → Gives left grammar Step s t p q count →
      Decides left grammar t u (Ok (Some (n, x))) → Step q x r → Gives left grammar Step s u p r (count + 1)
  one_given s t u p q r count n x g d h = record {
    items = g.items ++ (n, x) ∷ [];
    counted = omega (arith, g.counted, length-append g.items ((n, x) ∷ []));
    calls = calls_more left grammar g.items (n, x) s t u g.calls d;
    steps = steps_more Step g.items (n, x) p q r g.steps h;
  }
