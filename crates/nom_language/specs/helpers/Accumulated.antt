-- Accumulators of the pairs that are read.
use Rattle.std.specs.Prelude.{◌≡◌, List, ◌∷◌, ◌++◌, Option, Some, None, Result}
use Rattle.nom_operators.specs.OperatorTrees.{Symbol}
use Rattle.nom_operators.specs.OperatorTrees.Symbol.{OfBinary}
use Rattle.nom_operators.specs.Steps.{waiting}
use Rattle.nom_operators.specs.declared.operation.Operation.{Operation}
use Rattle.nom_operators.specs.declared.pending.Partial.{Partial}
use Rattle.nom_operators.specs.declared.pending.Pending.{Pending}
use Rattle.nom_operators.specs.declared.precedences.Unary.{Unary}
use Rattle.nom_operators.specs.declared.precedences.Binary.{Binary}
use Rattle.nom_operators.specs.helpers.Pending.{HasRead}
use Rattle.nom_language.specs.Evaluated.{TermOutput, symbols_of_term}

-- One more pair folds the value with it.
pub record LeftPushes {K L H O : Type 0} (value : K → Option O) (builder : K → L) (Gives : L → O → H → O → O → Type 0) (old : K) (item : H × O) (new : K)
    : Type 0 where
  pub before : O
  pub rest : O
  pub before_is : value old ≡ Some before
  pub after_is : value new ≡ Some rest
  pub given : Gives (builder old) before item.0 item.1 rest
  pub builder_is : builder new ≡ builder old

-- of a value that is there the fact holds
abbrev pub OfThat : {X : Type 0} → Option X → (X → Type 0) → Type 0
OfThat (Some x) Fact = Fact x
OfThat None Fact = ⊥

module _ {K L P Q B O X : Type 0} (partial : K → Option (Partial P B (Result O X))) (outer : K → List (Pending P B (Result O X))) (fold : K → L)
    (Gives : L → Operation P Q B O → Result O X → Type 0) where
  -- an accumulator stands for what was read
  abbrev pub HasReadInto : L → List (Symbol (Unary P) O (Unary Q) (Binary B)) → K → Type 0
  HasReadInto f ss k = OfThat (partial k) (λ r. HasRead (Gives f) ss (waiting r.innermost (outer k)) r.value)

  -- what a pair makes of it: it stands for the pair too
  pub record PairPushes {M : Type 0} (old : K) (item : Binary B × TermOutput P O Q M) (new : K) : Type 0 where
    pub fold_is : fold new ≡ fold old
    pub reads : (ss : List (Symbol (Unary P) O (Unary Q) (Binary B))) → HasReadInto (fold old) ss old →
        HasReadInto (fold old) (ss ++ OfBinary item.0 ∷ symbols_of_term item.1) new
