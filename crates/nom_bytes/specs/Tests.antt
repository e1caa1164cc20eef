-- Tests of items, by closed names: they don't unfold by themselves, as the words of parsers. `within_worded` says of one what it is.
use Rattle.std.specs.Prelude.{◌≡◌, ◌↔◌, Bool, IsTrue, List, not}
use Rattle.std.specs.List.{Contains}
use Rattle.std.proofs.Common.{refl, ap, ap₂}
use Rattle.nom_bytes.specs.Predicates.{IsFixed}

-- a test: what it answers at an item, the premise of a call, and that of its laws
pub record Test (A : Type 0) : Type 1 where
  pub answers : A → Bool → Type 0
  pub Runs : Type 0
  pub IsSound : Type 0

-- a test without premises
abbrev pub free : {A : Type 0} → (A → Bool → Type 0) → Test A
free answers = record { answers = answers; Runs = Unit {0}; IsSound = Unit {0} }

module _ {A : Type 0} where
  -- the items in a set
  pub within : (A → Type 0) → Test A
  within Found = free (λ x b. IsTrue b ↔ Found x)

  pub within_worded : (Found : A → Type 0) → within Found ≡ free (λ x b. IsTrue b ↔ Found x)
  unfolding within
  within_worded Found = refl

  -- the items that aren't in a set
  pub outside : (A → Type 0) → Test A
  outside Found = free (λ x b. IsTrue (not b) ↔ Found x)

  pub outside_worded : (Found : A → Type 0) → outside Found ≡ free (λ x b. IsTrue (not b) ↔ Found x)
  unfolding outside
  outside_worded Found = refl

  module _ {xs ys : List A} where
    pub within_same : xs ≡ ys → within (Contains xs) ≡ within (Contains ys)
    within_same p = ap (λ zs. within (Contains zs)) p

    pub outside_same : xs ≡ ys → outside (Contains xs) ≡ outside (Contains ys)
    outside_same p = ap (λ zs. outside (Contains zs)) p

-- By which items a closure takes, and what it gives for one. `IsValue` are the values of the items' type.
module _ {A : Type 0} (IsValue : A → Type 0) where
  -- the items for which it gives true
  pub passing : (A → Type 0) → (A → Bool → Type 0) → Test A
  passing Takes Gives = record { answers = Gives; Runs = (x : A) → Takes x; IsSound = IsFixed IsValue Gives }

  pub passing_worded : (Takes : A → Type 0) (Gives : A → Bool → Type 0) → passing Takes Gives ≡
      record { answers = Gives; Runs = (x : A) → Takes x; IsSound = IsFixed IsValue Gives }
  unfolding passing
  passing_worded Takes Gives = refl

  -- the items for which it gives false
  pub failing : (A → Type 0) → (A → Bool → Type 0) → Test A
  failing Takes Gives = record { answers = λ x b. Gives x (not b); Runs = (x : A) → Takes x; IsSound = IsFixed IsValue Gives }

  pub failing_worded : (Takes : A → Type 0) (Gives : A → Bool → Type 0) → failing Takes Gives ≡
      record { answers = λ x b. Gives x (not b); Runs = (x : A) → Takes x; IsSound = IsFixed IsValue Gives }
  unfolding failing
  failing_worded Takes Gives = refl

  module _ {Takes Takes' : A → Type 0} {Gives Gives' : A → Bool → Type 0} where
    pub passing_same : Takes ≡ Takes' → Gives ≡ Gives' → passing Takes Gives ≡ passing Takes' Gives'
    passing_same p q = ap₂ passing p q

    pub failing_same : Takes ≡ Takes' → Gives ≡ Gives' → failing Takes Gives ≡ failing Takes' Gives'
    failing_same p q = ap₂ failing p q
