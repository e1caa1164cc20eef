-- The steps of operators that wait for their right side, each with what stands on its left, the innermost first; and of the value
-- after the innermost.
use Rattle.std.specs.Prelude.{◌≡◌, ℕ, Bool, List, [], ◌∷◌, reverse, Option, Some, None}
use Rattle.nom_operators.specs.Closes.{Closes, UnderInnermost}

-- those that wait: the innermost, and those outside it, of which the last is the next
abbrev pub waiting : {E : Type 0} → Option E → List E → List E
waiting (Some e) outer = e ∷ reverse outer
waiting None outer = reverse outer

-- with no innermost there is none outside it
abbrev pub HasOutermost : {E : Type 0} → Option E → List E → Type 0
HasOutermost (Some e) outer = Unit {0}
HasOutermost None outer = outer ≡ []

module _ {X C : Type 0} (Gives : X → C → X → X → Type 0) (Fact : C → Type 0) (s : List (X × C)) (x : X) where
  -- From a stack and a value on, the innermost operators were joined, one after another, each one in which the fact holds: to a stack
  -- and a value.
  pub data Joined : List (X × C) → X → Type 0 where
    NoneJoined : (r : List (X × C)) (y : X) → s ≡ r → x ≡ y → Joined r y
    OneJoined : (r : List (X × C)) (l y z : X) (c : C) → Joined ((l, c) ∷ r) y → Fact c → Gives l c y z → Joined r z

-- An operator and a term more: it closes what ends before it, and what is left goes on after it; then it is the innermost, with what was
-- joined on its left, and the value is that of the term.
pub record Pushed {X C : Type 0} (left : ℕ → Bool) (of : C → ℕ) (Gives : X → C → X → X → Type 0) (s : List (X × C)) (x : X) (c : C) (y : X)
    (r : List (X × C)) (z : X) : Type 0 where
  pub below : List (X × C)
  pub joined : X
  pub joins : Joined Gives (λ d. Closes left (of c) (of d)) s x below joined
  pub under : UnderInnermost left of (of c) below
  pub stack_is : r ≡ (joined, c) ∷ below
  pub value_is : z ≡ y

-- operators in turn, each with the value of its term
abbrev pub Runs : {X C : Type 0} → (ℕ → Bool) → (C → ℕ) → (X → C → X → X → Type 0) → List (X × C) → X → List (C × X) → List (X × C) → X → Type 0
Runs left of Gives s x [] r y = (r ≡ s) × (y ≡ x)
Runs {X} {C} left of Gives s x (p ∷ ps) r y = (t : List (X × C)) × (z : X) × Pushed left of Gives s x p.0 p.1 t z × Runs left of Gives t z ps r y

-- The value of a first term's value and of operators with their terms: they come in turn, and at the end all that wait are joined.
pub record Made {X C : Type 0} (left : ℕ → Bool) (of : C → ℕ) (Gives : X → C → X → X → Type 0) (x : X) (ps : List (C × X)) (y : X) : Type 0 where
  pub stack : List (X × C)
  pub after : X
  pub runs : Runs left of Gives [] x ps stack after
  pub joined : Joined Gives (λ _. Unit {0}) stack after [] y
