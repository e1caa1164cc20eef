-- Items of one part in turn, until one is refused. The items are read whole, with the list of their trees; or one is stuck: it
-- consumes nothing, or is stuck itself.
use Rattle.std.specs.Prelude.{◌≡◌, ℕ, true, false, Option, Some, None, List, zero, suc}
use Rattle.nom.specs.Prelude.{with_errors, Model, Outcome, Accept, Refuse, Stop, IsFailure, Meaning, always}
use Rattle.nom.specs.Repeat.{Turn, Rule, repeat_meaning}
use Rattle.nom.specs.Repeat.Turn.{Takes, Ends}
use Rattle.nom_precedence.specs.declared.read.Read.{Read}
use Rattle.nom_precedence.specs.declared.read.Read.TheVariants.{Whole, Stuck}

-- an item is taken; a stuck one, and one that consumes nothing, is the end
abbrev pub read_turn : {V : Type 0} → Read V → ℕ → Turn V (Read (Unit {0}))
read_turn Stuck n = Ends (Accept n Stuck)
read_turn (Whole v) zero = Ends (Accept 0 Stuck)
read_turn (Whole v) (suc n) = Takes (suc n) v

-- a refusal ends the items with success, and all else is passed on
abbrev pub chain_turn : {V : Type 0} → Option (Outcome (Read V)) → Turn V (Read (Unit {0}))
chain_turn (Some (Accept n u)) = read_turn u n
chain_turn (Some Refuse) = Ends (Accept 0 (Whole tt))
chain_turn (Some (Stop why)) = Ends (Stop why)
chain_turn None = Ends (Accept 0 (Whole tt))

-- the error of a failure is the part's
abbrev pub ChainBlames : {V E : Type 0} → Option (Outcome V) → (E → Type 0) → E → Type 0
ChainBlames (Some o) P e = IsFailure o × P e
ChainBlames None P e = ⊥

-- memory is asked for to keep an item
abbrev pub IfTakes : {V T : Type 0} → Type 0 → Turn V T → Type 0
IfTakes Fact (Takes n v) = Fact
IfTakes Fact (Ends o) = ⊥

-- The errors of the part's refusals aren't built. Accumulating an item may take memory where outputs are built.
abbrev pub chain_rule : {I V E : Type 0} → Type 0 → Rule I (Read V) V (Read (Unit {0})) E
chain_rule Grows = record {
  bound = None;
  turn = λ _ a. chain_turn a;
  Blames = λ _ _ _ a P e. ChainBlames a P e;
  part = λ _ mode. with_errors false mode;
  Asks = λ mode _ a. IfTakes ((mode.outputs ≡ true) × Grows) (chain_turn a);
  Runs = λ Part. Part;
  IsSound = λ Part. Part;
  IsFrugal = λ PartIs mode. PartIs (with_errors false mode) × (mode.outputs ≡ true → Grows → ⊥);
  NeverFails = λ Part. Part;
}

-- the list of the trees, or that one is stuck
abbrev pub chained : {V : Type 0} → List V → Read (Unit {0}) → Read (List V)
chained vs (Whole u) = Whole vs
chained vs Stuck = Stuck

abbrev pub chain_meaning : {I A V E : Type 0} → Model I A → Type 0 → Meaning I (Read V) E → Meaning I (Read (List V)) E
chain_meaning w Grows m = repeat_meaning w (chain_rule Grows) chained (always m)
