-- Tests of the characters of items, by closed names.
use Rattle.std.specs.Prelude.{◌≡◌, ◌==◌, ◌↔◌, ℕ, Bool, IsTrue, List, not, true}
use Rattle.std.specs.List.{Contains}
use Rattle.std.proofs.Common.{refl, ap, ap₂}
use Rattle.nom_bytes.specs.Predicates.{IsFixed}
use Rattle.nom_bytes.specs.Tests.{Test, free}

-- `code` is the code point of an item
module _ {A : Type 0} (code : A → ℕ) where
  -- the items whose characters are in a set
  pub char_within : (ℕ → Type 0) → Test A
  char_within Found = free (λ x b. IsTrue b ↔ Found (code x))

  pub char_within_worded : (Found : ℕ → Type 0) → char_within Found ≡ free (λ x b. IsTrue b ↔ Found (code x))
  unfolding char_within
  char_within_worded Found = refl

  -- the items whose characters aren't in a set
  pub char_outside : (ℕ → Type 0) → Test A
  char_outside Found = free (λ x b. IsTrue (not b) ↔ Found (code x))

  pub char_outside_worded : (Found : ℕ → Type 0) → char_outside Found ≡ free (λ x b. IsTrue (not b) ↔ Found (code x))
  unfolding char_outside
  char_outside_worded Found = refl

  module _ {xs ys : List ℕ} where
    pub char_within_same : xs ≡ ys → char_within (Contains xs) ≡ char_within (Contains ys)
    char_within_same p = ap (λ zs. char_within (Contains zs)) p

    pub char_outside_same : xs ≡ ys → char_outside (Contains xs) ≡ char_outside (Contains ys)
    char_outside_same p = ap (λ zs. char_outside (Contains zs)) p

  -- the items of one character
  pub char_is : ℕ → Test A
  char_is wanted = free (λ x b. b ≡ (code x == wanted))

  pub char_is_worded : (wanted : ℕ) → char_is wanted ≡ free (λ x b. b ≡ (code x == wanted))
  unfolding char_is
  char_is_worded wanted = refl

  pub char_is_same : {c d : ℕ} → c ≡ d → char_is c ≡ char_is d
  char_is_same p = ap char_is p

module _ {A : Type 0} where
  -- all items
  pub any_item : Test A
  any_item = free (λ x b. b ≡ true)

  pub any_item_worded : any_item ≡ free (λ x b. b ≡ true)
  unfolding any_item
  any_item_worded = refl

-- By which characters a closure takes, and what it gives for one. `IsValue` are the values of the items' type.
module _ {A : Type 0} (code : A → ℕ) (IsValue : A → Type 0) where
  abbrev char_passing_meant : (ℕ → Type 0) → (ℕ → Bool → Type 0) → Test A
  char_passing_meant Takes Gives = record {
    answers = λ x. Gives (code x);
    Runs = (c : ℕ) → Takes c;
    IsSound = IsFixed IsValue (λ x. Gives (code x));
  }

  -- the items for whose characters it gives true
  pub char_passing : (ℕ → Type 0) → (ℕ → Bool → Type 0) → Test A
  char_passing Takes Gives = char_passing_meant Takes Gives

  pub char_passing_worded : (Takes : ℕ → Type 0) (Gives : ℕ → Bool → Type 0) → char_passing Takes Gives ≡ char_passing_meant Takes Gives
  unfolding char_passing
  char_passing_worded Takes Gives = refl

  pub char_passing_same : {Takes Takes' : ℕ → Type 0} {Gives Gives' : ℕ → Bool → Type 0} → Takes ≡ Takes' → Gives ≡ Gives' →
      char_passing Takes Gives ≡ char_passing Takes' Gives'
  char_passing_same p q = ap₂ char_passing p q
