-- The acceptances of a repetition, by those of its part.
use Rattle.std.specs.Prelude.{◌≡◌, ℕ, ◌+◌, ◌<◌, ◌≤◌, ◌⊎◌, ◌↔◌, Bool, Option, Some, None, List, ◌∷◌}
use Rattle.nom_internal.specs.Prelude.{ErrorKind, Model, IsSuffixOf, Outcome, Accept, Refuse, Meaning}
use Rattle.nom_repeat.specs.Repeat.{Turn, Pieces, IsBelow}
use Rattle.nom_repeat.specs.Repeat.Turn.{Takes, Ends}

-- how long an item may be: above 0, where an empty one is refused with a kind
abbrev pub MayTake : Option ErrorKind → ℕ → Type 0
MayTake (Some kind) n = 0 < n
MayTake None n = Unit {0}

-- an item is taken: below the bound, where the part accepts it, with a length that it may have
abbrev pub TakesItem : {I V : Type 0} → (I → Outcome V → Type 0) → (ℕ → Type 0) → Option ℕ → ℕ → I → Turn V (Unit {0}) → Type 0
TakesItem Item May most k i (Takes n v) = IsBelow most k × Item i (Accept n v) × May n
TakesItem Item May most k i (Ends o) = ⊥

-- the items end: where the part refuses, after enough of them; or where there are as many as there may be
abbrev pub EndsItems : {I V : Type 0} → (I → Outcome V → Type 0) → ℕ → Option ℕ → ℕ → I → Type 0
EndsItems Item least most k i = (IsBelow most k × Item i Refuse × (least ≤ k)) ⊎ (IsBelow most k → ⊥)

-- From i on the part accepts items with the trees vs, of length n together, each beginning where the one before ended; and where
-- the last ended, the items end.
abbrev pub InTurn : {I A V : Type 0} → Model I A → (I → Outcome V → Type 0) → (ℕ → Type 0) → ℕ → Option ℕ → I → ℕ → List V → Type 0
InTurn w Item May least most i n vs = Pieces w (TakesItem Item May most) (EndsItems Item least most) 0 i vs n

-- What a repetition of the part m accepts: where it is allowed, just the items that the part accepts in turn.
abbrev pub AcceptsItems : {I A V E F : Type 0} → Model I A → Type 0 → (ℕ → Type 0) → ℕ → Option ℕ → Meaning I V E → Meaning I (List V) F → Type 0
AcceptsItems {I} {V = V} w Allowed May least most m whole =
    (s : Bool) (i : I) (n : ℕ) (vs : List V) → whole.answers s i (Accept n vs) ↔ (Allowed × InTurn w (m.answers s) May least most i n vs)

-- an item of any length, and after it such others
pub record OneAndMore {I A V : Type 0} (w : Model I A) (Item : I → Outcome V → Type 0) (More : I → ℕ → List V → Type 0) (i : I) (n : ℕ)
    (vs : List V) : Type 0 where
  pub first_length : ℕ
  pub tree : V
  pub rest : I
  pub more_length : ℕ
  pub trees : List V
  pub accepted : Item i (Accept first_length tree)
  pub rest_is : IsSuffixOf w i first_length rest
  pub more : More rest more_length trees
  pub length_is : n ≡ first_length + more_length
  pub trees_are : vs ≡ tree ∷ trees

-- What a repetition accepts that has one item at least: a first item of the part m, of any length, and after it just the items
-- that the part p accepts in turn, none of them empty.
abbrev pub AcceptsOneAndMore : {I A V E F : Type 0} → Model I A → Meaning I V E → Meaning I V E → Meaning I (List V) F → Type 0
AcceptsOneAndMore {I} {V = V} w m p whole =
    (s : Bool) (i : I) (n : ℕ) (vs : List V) → whole.answers s i (Accept n vs) ↔ OneAndMore w (m.answers s) (InTurn w (p.answers s) (λ a. 0 < a) 0 None) i n vs
