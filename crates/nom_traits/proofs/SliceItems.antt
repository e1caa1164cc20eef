-- The items of a slice, one by one.
use Rattle.std.proofs.Common.{◌≡◌, List, [], ◌∷◌, length, ap, arith}
use Rattle.std.specs.Iterator.{AlwaysYields, YieldsFirst}

-- an iterator whose state shows what is left gives just that
pub shown_given : {S A : Type 0} (rest : S → List A) (s : S) (xs : List A) → rest s ≡ xs → AlwaysYields (YieldsFirst rest) (λ x. x) s xs
shown_given rest s [] e = λ x t p. omega (arith, ap length e, ap length p)
shown_given rest s (y ∷ ys) e = (
  λ t p. omega (arith, ap length e, ap length p.0),
  λ x t p.
      let heads : x ≡ y = cc in
      let tails : rest t ≡ ys = cc in
      (heads, shown_given rest t ys tails),
)
