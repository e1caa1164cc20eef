-- Repetition: items in turn, and what ends them.
--
-- A part runs at a place. By its outcome, and by the number of items before, a rule says whether an item is taken, and the
-- part runs again after it, or the repetition ends, and how. At a bound the part doesn't run. So a repetition is a rule: it
-- says whether an item may be empty, which error a refusal gives, before or after that many items, and where memory is asked for.
--
-- A second part is no more than another part for a rule:
-- - A separator and the item after it, in sequence, are one part, with the item's tree. Where both together consume nothing,
--   there is no progress, at the separator. A refusal of either ends the list before the separator. The first item alone is
--   the part for no item before it.
-- - An end that is tried first, or else an item, are one part, whose tree is of the one or of the other, and whose errors are
--   the item's. An accepted end ends the repetition with its tree, and consumes; an accepted item is taken.
use Rattle.std.specs.Prelude.{◌≡◌, ℕ, ◌+◌, ◌<◌, ◌⊎◌, Option, Some, None, List, [], ◌∷◌}
use Rattle.nom_internal.specs.Prelude.{Modes, Model, IsSuffixOf, Outcome, Meaning, Family, after, Cause}

-- a turn of a repetition: it takes an item, of a length, with a tree; or it ends, by an outcome of its own
pub data Turn (V T : Type 0) : Type 0 where
  Takes : ℕ → V → Turn V T
  Ends : Outcome T → Turn V T

module _ {I A V T : Type 0} (w : Model I A) (Turns : ℕ → I → Turn V T → Type 0) where
  -- From i on, where k items were taken before, items with the trees vs, of length n together, are taken in turn, each
  -- beginning where the one before ended, and of the number of items and the place then reached the fact holds.
  abbrev pub Pieces : (ℕ → I → Type 0) → ℕ → I → List V → ℕ → Type 0
  Pieces Fact k i [] n = (n ≡ 0) × Fact k i
  Pieces Fact k i (v ∷ vs) n = (a : ℕ) × (m : ℕ) × (j : I) × Turns k i (Takes a v) × IsSuffixOf w i a j × Pieces Fact (k + 1) j vs m × (n ≡ a + m)

  -- of a place that is reached the fact holds
  pub record Reaches (Fact : ℕ → I → Type 0) (i : I) : Type 0 where
    pub trees : List V
    pub taken : ℕ
    pub pieces : Pieces Fact 0 i trees taken

  -- items, and then an end
  pub record Repeats {R : Type 0} (tree : List V → T → R) (i : I) (o : Outcome R) : Type 0 where
    pub trees : List V
    pub taken : ℕ
    pub ending : Outcome T
    pub pieces : Pieces (λ k j. Turns k j (Ends ending)) 0 i trees taken
    pub outcome_is : o ≡ after taken (tree trees) ending

-- items were taken from i to j, and of their trees the fact holds
pub record Collected {I A V T : Type 0} (w : Model I A) (Turns : ℕ → I → Turn V T → Type 0) (Held : List V → Type 0) (i j : I) : Type 0 where
  pub trees : List V
  pub taken : ℕ
  pub pieces : Pieces w Turns (λ _ x. x ≡ j) 0 i trees taken
  pub rest_is : IsSuffixOf w i taken j
  pub held : Held trees

-- below a bound, where there is one
abbrev pub IsBelow : Option ℕ → ℕ → Type 0
IsBelow None k = Unit {0}
IsBelow (Some bound) k = k < bound

-- each number below n is below the bound
abbrev pub AreBelow : Option ℕ → ℕ → Type 0
AreBelow bound n = (k : ℕ) → k < n → IsBelow bound k

-- what the part for a count replies after that many items: its outcome, or nothing at the bound, where it doesn't run
abbrev pub Replies : {I P : Type 0} → Option ℕ → (ℕ → I → Outcome P → Type 0) → ℕ → I → Option (Outcome P) → Type 0
Replies bound Part k i (Some o) = IsBelow bound k × Part k i o
Replies bound Part k i None = IsBelow bound k → ⊥

-- the part ran
abbrev pub Ran : {P : Type 0} → Option (Outcome P) → Type 0
Ran (Some o) = Unit {0}
Ran None = ⊥

-- the fact holds of what the part replies
pub record OnReply {I P : Type 0} (bound : Option ℕ) (Part : ℕ → I → Outcome P → Type 0) (Fact : Option (Outcome P) → Type 0) (k : ℕ) (i : I) : Type 0 where
  pub reply : Option (Outcome P)
  pub replied : Replies bound Part k i reply
  pub fact : Fact reply

-- the turn by what the part replies
abbrev pub TurnsBy : {I P V T : Type 0} → Option ℕ → (ℕ → Option (Outcome P) → Turn V T) → (ℕ → I → Outcome P → Type 0) → ℕ → I → Turn V T → Type 0
TurnsBy bound turn Part k i t = OnReply bound Part (λ a. t ≡ turn k a) k i

-- a repetition of parts with trees P: its items have trees V, and its end a tree T
pub record Rule (I P V T E : Type 0) : Type 1 where
  -- how many items it takes at most
  pub bound : Option ℕ
  -- how it goes on after that many items, by what the part replies
  pub turn : ℕ → Option (Outcome P) → Turn V T
  -- the error, where it ends so: from its start, after that many items, at a place, by what the part replies and by its errors there
  pub Blames : I → ℕ → I → Option (Outcome P) → (E → Type 0) → E → Type 0
  -- what the part builds after that many items, by what the repetition does
  pub part : ℕ → Modes → Modes
  -- may it ask for memory after that many items, by what is built and by what the part replies
  pub Asks : Modes → ℕ → Option (Outcome P) → Type 0
  -- by what holds of the parts: its premises, that it is frugal, that it never fails
  pub Runs : Type 0 → Type 0
  pub IsSound : Type 0 → Type 0
  pub IsFrugal : (Modes → Type 0) → Modes → Type 0
  pub NeverFails : (Cause → Type 0) → Cause → Type 0

-- The repetition, by a rule, of a part for each count of items before it, with a tree made of its items' trees and its end's.
abbrev pub repeat_meaning : {I A P V T R E : Type 0} → Model I A → Rule I P V T E → (List V → T → R) → Family ℕ I P E → Meaning I R E
repeat_meaning w r tree f = record {
  Runs = r.Runs f.Runs;
  IsSound = r.IsSound f.IsSound;
  answers = λ s. Repeats w (TurnsBy r.bound r.turn (λ k. (f.at k).answers s)) tree;
  blames = λ s i e. Reaches w (TurnsBy r.bound r.turn (λ k. (f.at k).answers s))
      (λ k j. OnReply r.bound (λ k. (f.at k).answers s) (λ a. r.Blames i k j a ((f.at k).blames s j) e) k j) i;
  may_run_out = λ mode. Reaches w (TurnsBy r.bound r.turn (λ k. (f.at k).answers mode.streaming))
      (λ k j. OnReply r.bound (λ k. (f.at k).answers mode.streaming) (r.Asks mode k) k j ⊎ (IsBelow r.bound k × (f.at k).may_run_out (r.part k mode) j));
  IsFrugal = r.IsFrugal f.IsFrugal;
  Settles = f.Settles;
  NeverFails = r.NeverFails f.NeverFails;
}
