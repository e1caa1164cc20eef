use Rattle.std.proofs.Common.{◌≡◌, ℕ, List, [], ◌∷◌, MatchOption, Option, Some, None, refl, sym, ap}
use Rattle.std.specs.Iterator.{AlwaysYields}
use Rattle.example_parts.specs.Letters.{BeginsWith}
use Rattle.example_parts.proofs.letters.first.Goals as goal

-- what the first call of an iterator over some items gives
first_given : {S : Type 0} (steps : S → Option ℕ → S → Type 0) (s t : S) (xs : List ℕ) (r : Option ℕ) → AlwaysYields steps (λ x. x) s xs → steps s r t →
    MatchOption r (xs ≡ []) (BeginsWith xs)
first_given steps s t [] None g p = refl
first_given steps s t [] (Some x) g p = absurd (g x t p)
first_given steps s t (y ∷ ys) None g p = absurd (g.0 t p)
first_given steps s t (y ∷ ys) (Some x) g p = record { rest = ys; whole = ap (λ z. z ∷ ys) (sym (g.1 x t p).0) }

pub returns : goal.returns
returns g c =
    first_given g.I.Iter.Iterator.next_gives c.iter_elements.result c.next.new.self (g.I.Items.model.elements c.args.input) c.next.result
    c.iter_elements.ensures.gives c.next.ensures.steps
