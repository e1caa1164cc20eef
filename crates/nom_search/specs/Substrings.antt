-- Searches for a needle, a list of items.
use Rattle.std.specs.Prelude.{◌≡◌, ℕ, ◌≤◌, List, ◌++◌, Option, Some, None}
use Rattle.nom_traits.specs.Input.{Model, IsBoundary, Extends, items_len}

-- the laws of a search for needles in inputs
pub record FindLaws {I A T : Type 0} (w : Model I A) (Finds : T → List A → Option ℕ → Type 0) : Type 0 where
  pub one : (t : T) (i : I) (r s : Option ℕ) → w.IsKnown i → Finds t (w.elements i) r → Finds t (w.elements i) s → r ≡ s
  -- what is found begins at a place
  pub place : (t : T) (i : I) (n : ℕ) → w.IsKnown i → Finds t (w.elements i) (Some n) → IsBoundary w i n
  -- and is found there in what is longer
  pub found_stays : (t : T) (x y : I) (n : ℕ) → w.IsKnown x → w.IsKnown y → Extends w x y → Finds t (w.elements x) (Some n) → Finds t (w.elements y) (Some n)

module _ {A : Type 0} (item_len : A → ℕ) (needle xs : List A) where
  -- the needle is a front of what follows the first items, of length n
  pub record IsFoundAt (n : ℕ) : Type 0 where
    pub before : List A
    pub rest : List A
    pub whole : xs ≡ before ++ (needle ++ rest)
    pub length_is : items_len item_len before ≡ n

  -- the least place at which the needle stands, or none where it stands nowhere
  abbrev pub FindsFirst : Option ℕ → Type 0
  FindsFirst (Some n) = IsFoundAt n × ((m : ℕ) → IsFoundAt m → n ≤ m)
  FindsFirst None = (m : ℕ) → IsFoundAt m → ⊥

-- bytes in bytes
abbrev pub FindsBytes : List ℕ → List ℕ → Option ℕ → Type 0
FindsBytes = FindsFirst (λ _. 1)
