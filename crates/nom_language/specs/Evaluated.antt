-- The values of terms with operators between them.
use Rattle.std.specs.Prelude.{List, [], ◌∷◌, ◌++◌, Result, Vec}
use Rattle.std.specs.List.{AllZip}
use Rattle.nom_operators.specs.Evaluations.{IsValueOf, term_symbols}
use Rattle.nom_operators.specs.OperatorTrees.{Symbol}
use Rattle.nom_operators.specs.OperatorTrees.Symbol.{OfBinary}
use Rattle.nom_operators.specs.Prefixes.{prefixes_in}
use Rattle.nom_operators.specs.declared.operation.Operation.{Operation}
use Rattle.nom_operators.specs.declared.precedences.Unary.{Unary}
use Rattle.nom_operators.specs.declared.precedences.Binary.{Binary}
use Rattle.nom_operators.specs.declared.prefixes.Prefixes.{Prefixes}

-- a term's output: prefixes, an operand, postfixes
abbrev pub TermOutput : Type 0 → Type 0 → Type 0 → Type 0 → Type 0
TermOutput P O Q M = Prefixes (Unary P) M × O × Vec (Unary Q) M

-- what stands in a term, and in pairs of an operator and a term
abbrev pub symbols_of_term : {P O Q B M : Type 0} → TermOutput P O Q M → List (Symbol (Unary P) O (Unary Q) (Binary B))
symbols_of_term t = term_symbols (prefixes_in t.0) t.1 t.2.items

abbrev pub symbols_of_pairs : {P O Q B M : Type 0} → List (Binary B × TermOutput P O Q M) → List (Symbol (Unary P) O (Unary Q) (Binary B))
symbols_of_pairs [] = []
symbols_of_pairs (p ∷ ps) = (OfBinary p.0 ∷ symbols_of_term p.1) ++ symbols_of_pairs ps

-- The value of the trees of a first term and of pairs, or the first refusal of the fold: that of the one tree of what stands in them.
pub record IsEvaluated {T C P Q B O X M : Type 0} (IsTerm : T → TermOutput P O Q M → Type 0) (IsBinary : C → Binary B → Type 0)
    (Gives : Operation P Q B O → Result O X → Type 0) (e : T × List (C × T)) (r : Result O X) : Type 0 where
  pub first : TermOutput P O Q M
  pub is_first : IsTerm e.0 first
  pub pairs : List (Binary B × TermOutput P O Q M)
  pub are_pairs : AllZip (λ t o. IsBinary t.0 o.0 × IsTerm t.1 o.1) e.1 pairs
  pub is_value : IsValueOf Gives (symbols_of_term first ++ symbols_of_pairs pairs) r
