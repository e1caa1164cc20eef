-- The members of a permutation, and the choice among those that aren't applied.
use Rattle.std.specs.Prelude.{List, [], ◌∷◌, Option, Some, None}
use Rattle.nom_internal.specs.Prelude.{Model, Meaning, IsLawful, IsSteady, labelled_meaning, or_meaning}

-- a member, of members whose trees together are T: each is there once it is applied
pub record Member (I T E : Type 0) : Type 1 where
  pub Tree : Type 0
  pub meaning : Meaning I Tree E
  -- its own tree, if it is applied
  pub tree : T → Option Tree
  -- the trees with its own put in
  pub put : T → Tree → T

abbrev pub member : {I T P E : Type 0} → Meaning I P E → (T → Option P) → (T → P → T) → Member I T E
member {P = P} m tree put = record { Tree = P; meaning = m; tree = tree; put = put }

-- the fact holds of each member
abbrev pub EachMember : {I T E : Type 0} → (Member I T E → Type 0) → List (Member I T E) → Type 0
EachMember Fact [] = Unit {0}
EachMember Fact (m ∷ ms) = Fact m × EachMember Fact ms

abbrev pub AllRun : {I T E : Type 0} → List (Member I T E) → Type 0
AllRun = EachMember (λ m. m.meaning.Runs)

abbrev pub AreSound : {I T E : Type 0} → List (Member I T E) → Type 0
AreSound = EachMember (λ m. m.meaning.IsSound)

abbrev pub AreLawful : {I A T E : Type 0} → Model I A → List (Member I T E) → Type 0
AreLawful w = EachMember (λ m. IsLawful w m.meaning)

abbrev pub AreSteady : {I A T E : Type 0} → Model I A → List (Member I T E) → Type 0
AreSteady w = EachMember (λ m. IsSteady w m.meaning)

-- the choice among the members that aren't applied, if there are some
pub data Choice (I T E : Type 0) : Type 1 where
  NoChoice : Choice I T E
  Among : Meaning I T E → Choice I T E

-- every member is applied
abbrev pub IsOver : {I T E : Type 0} → Choice I T E → Type 0
IsOver NoChoice = Unit {0}
IsOver (Among m) = ⊥

-- one more member after the choice among others, if it isn't applied
abbrev pub or_waiting : {I T P E : Type 0} → (E → E → E → Type 0) → Type 0 → Choice I T E → Meaning I P E → (P → T) → Option P → Choice I T E
or_waiting Joins Grows others m put (Some v) = others
or_waiting Joins Grows NoChoice m put None = Among (labelled_meaning put m)
or_waiting Joins Grows (Among o) m put None = Among (or_meaning Joins Grows o (labelled_meaning put m))

-- the choice among those of some members that aren't applied, after the choice among others
abbrev pub or_members : {I T E : Type 0} → (E → E → E → Type 0) → Type 0 → T → Choice I T E → List (Member I T E) → Choice I T E
or_members Joins Grows t others [] = others
or_members Joins Grows t others (m ∷ ms) = or_members Joins Grows t (or_waiting Joins Grows others m.meaning (m.put t) (m.tree t)) ms

-- the choice among all that aren't applied
abbrev pub tried : {I T E : Type 0} → (E → E → E → Type 0) → Type 0 → List (Member I T E) → T → Choice I T E
tried Joins Grows ms t = or_members Joins Grows t NoChoice ms

-- one of some members, as one of these and of one more, whose trees are pairs
abbrev pub among_more : {I T P E : Type 0} → Member I T E → Member I (T × P) E
among_more m = record { Tree = m.Tree; meaning = m.meaning; tree = λ t. m.tree t.0; put = λ t v. (m.put t.0 v, t.1) }

-- some members, and one more after them
abbrev pub with_last : {I T P E : Type 0} → List (Member I T E) → Meaning I P E → List (Member I (T × Option P) E)
with_last [] m = member m (λ t. t.1) (λ t v. (t.0, Some v)) ∷ []
with_last (x ∷ xs) m = among_more x ∷ with_last xs m
