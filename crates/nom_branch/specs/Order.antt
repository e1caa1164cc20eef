-- The acceptances of a permutation, as an order of its members: each accepts at its turn, and every earlier member that isn't
-- applied yet refuses there.
use Rattle.std.specs.Prelude.{◌≡◌, ℕ, ◌+◌, Bool, List, [], ◌∷◌, None, ◌⊎◌}
use Rattle.std.proofs.Common.{zero, suc}
use Rattle.nom_internal.specs.Prelude.{Model, IsSuffixOf, Accept, Refuse}
use Rattle.nom_branch.specs.Members.{Member}

-- after the trees t, the member isn't applied and accepts the first n items of i, which gives the trees u
pub record Accepts {I T E : Type 0} (s : Bool) (m : Member I T E) (t : T) (i : I) (n : ℕ) (u : T) : Type 0 where
  pub waits : m.tree t ≡ None
  pub tree : m.Tree
  pub accepted : m.meaning.answers s i (Accept n tree)
  pub put : u ≡ m.put t tree

-- the member is applied, or it refuses
abbrev pub IsAppliedOrRefuses : {I T E : Type 0} → Bool → Member I T E → T → I → Type 0
IsAppliedOrRefuses s m t i = m.tree t ≡ None → m.meaning.answers s i Refuse

-- the turn of one of the members: it accepts, and every earlier one that isn't applied refuses
abbrev pub TakesTurn : {I T E : Type 0} → Bool → List (Member I T E) → T → I → ℕ → T → Type 0
TakesTurn s [] t i n u = ⊥
TakesTurn s (m ∷ ms) t i n u = Accepts s m t i n u ⊎ (IsAppliedOrRefuses s m t i × TakesTurn s ms t i n u)

-- a turn, and then others on the rest
pub record Turns {I A T E : Type 0} (w : Model I A) (s : Bool) (ms : List (Member I T E)) (Others : T → I → ℕ → Type 0) (t : T) (i : I) (n : ℕ) : Type 0 where
  pub length : ℕ
  pub trees : T
  pub rest : I
  pub turn : TakesTurn s ms t i length trees
  pub rest_is : IsSuffixOf w i length rest
  pub more : ℕ
  pub others : Others trees rest more
  pub lengths : n ≡ length + more

-- every member is applied
abbrev pub AllApplied : {I T E : Type 0} → List (Member I T E) → T → Type 0
AllApplied [] t = Unit {0}
AllApplied (m ∷ ms) t = (m.tree t ≡ None → ⊥) × AllApplied ms t

module _ {I A T E : Type 0} (w : Model I A) (s : Bool) (ms : List (Member I T E)) (u : T) where
  -- of the trees t the turns of the members that are left, k at most, accept the first n items of i and end with the trees u
  abbrev pub InOrder : ℕ → T → I → ℕ → Type 0
  InOrder zero t i n = (n ≡ 0) × (u ≡ t)
  InOrder (suc k) t i n = (AllApplied ms t × (n ≡ 0) × (u ≡ t)) ⊎ Turns w s ms (InOrder k) t i n
