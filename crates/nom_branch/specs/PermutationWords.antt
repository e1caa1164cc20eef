-- The words of permutations, by those of their members.
use Rattle.std.specs.Prelude.{◌≡◌, List, [], ◌∷◌, Option, Some, None}
use Rattle.std.proofs.Common.{ap, ap₂}
use Rattle.nom_error.specs.Errors.{Errors}
use Rattle.nom_traits.specs.Input.{Model}
use Rattle.nom_internal.specs.declared.flat.One.{One}
use Rattle.nom_internal.specs.Word.{Word, word}
use Rattle.nom_branch.specs.Members.{Member, member, with_last}
use Rattle.nom_branch.specs.Permutation as Permutation
use Rattle.nom_branch.specs.Rounds.{IsApplied}

-- members, with the type of their trees inside: O are their outputs, nested
pub record Several (I O E : Type 0) : Type 1 where
  pub Tree : Type 0
  -- no member is applied
  pub none : Tree
  pub members : List (Member I Tree E)
  pub AreOutputs : Tree → O → Type 0

-- a first member
module _ {I O E : Type 0} where
  abbrev first_meant : Word I O E → Several I (One O) E
  first_meant g = record {
    Tree = Option g.Tree;
    none = None;
    members = member g.grammar.meaning (λ t. t) (λ _ v. Some v) ∷ [];
    AreOutputs = λ t o. IsApplied g.grammar.IsOutput t o.member;
  }

  pub first_of : Word I O E → Several I (One O) E
  first_of g = first_meant g

  module _ {g h : Word I O E} where
    pub first_worded : g ≡ h → first_of g ≡ first_meant h
    unfolding first_of
    first_worded p = ap first_meant p

    pub first_same : g ≡ h → first_of g ≡ first_of h
    first_same p = ap first_of p

-- members, and one more after them
module _ {I O P E : Type 0} where
  abbrev more_meant : Several I O E → Word I P E → Several I (O × P) E
  more_meant m g = record {
    Tree = m.Tree × Option g.Tree;
    none = (m.none, None);
    members = with_last m.members g.grammar.meaning;
    AreOutputs = λ t o. m.AreOutputs t.0 o.0 × IsApplied g.grammar.IsOutput t.1 o.1;
  }

  pub more_of : Several I O E → Word I P E → Several I (O × P) E
  more_of m g = more_meant m g

  module _ {m n : Several I O E} {g h : Word I P E} where
    pub more_worded : m ≡ n → g ≡ h → more_of m g ≡ more_meant n h
    unfolding more_of
    more_worded p q = ap₂ more_meant p q

    pub more_same : m ≡ n → g ≡ h → more_of m g ≡ more_of n h
    more_same p q = ap₂ more_of p q

-- each member once, in any order; `pairs` nests a tuple of their outputs
module _ {I A O U E : Type 0} (w : Model I A) (errs : Errors I E) (pairs : U → O) where
  abbrev permutation_meant : Several I O E → Word I U E
  permutation_meant m = word (Permutation.once_each_of w errs m.members m.none m.AreOutputs pairs)

  pub permutation_of : Several I O E → Word I U E
  permutation_of m = permutation_meant m

  module _ {m n : Several I O E} where
    pub permutation_worded : m ≡ n → permutation_of m ≡ permutation_meant n
    unfolding permutation_of
    permutation_worded p = ap permutation_meant p

    pub permutation_same : m ≡ n → permutation_of m ≡ permutation_of n
    permutation_same p = ap permutation_of p

-- by the number of members
module _ {I T E : Type 0} (w : Model I T) (errs : Errors I E) where
  abbrev pub permutation_of_two : {A B : Type 0} → Word I A E → Word I B E → Word I (A × B) E
  permutation_of_two a b = permutation_of w errs (λ o. (record { member = o.0 }, o.1)) (more_of (first_of a) b)

  abbrev pub permutation_of_three : {A B C : Type 0} → Word I A E → Word I B E → Word I C E → Word I (A × B × C) E
  permutation_of_three a b c = permutation_of w errs (λ o. ((record { member = o.0 }, o.1), o.2)) (more_of (more_of (first_of a) b) c)

  abbrev pub permutation_of_four : {A B C D : Type 0} → Word I A E → Word I B E → Word I C E → Word I D E → Word I (A × B × C × D) E
  permutation_of_four a b c d = permutation_of w errs (λ o. (((record { member = o.0 }, o.1), o.2), o.3)) (more_of (more_of (more_of (first_of a) b) c) d)

  abbrev pub permutation_of_five : {A B C D F : Type 0} → Word I A E → Word I B E → Word I C E → Word I D E → Word I F E → Word I (A × B × C × D × F) E
  permutation_of_five a b c d f = permutation_of w errs (λ o. ((((record { member = o.0 }, o.1), o.2), o.3), o.4))
      (more_of (more_of (more_of (more_of (first_of a) b) c) d) f)

  abbrev pub permutation_of_six : {A B C D F G : Type 0} → Word I A E → Word I B E → Word I C E → Word I D E → Word I F E → Word I G E →
      Word I (A × B × C × D × F × G) E
  permutation_of_six a b c d f g = permutation_of w errs (λ o. (((((record { member = o.0 }, o.1), o.2), o.3), o.4), o.5))
      (more_of (more_of (more_of (more_of (more_of (first_of a) b) c) d) f) g)

  abbrev pub permutation_of_seven : {A B C D F G H : Type 0} → Word I A E → Word I B E → Word I C E → Word I D E → Word I F E → Word I G E → Word I H E →
      Word I (A × B × C × D × F × G × H) E
  permutation_of_seven a b c d f g h = permutation_of w errs (λ o. ((((((record { member = o.0 }, o.1), o.2), o.3), o.4), o.5), o.6))
      (more_of (more_of (more_of (more_of (more_of (more_of (first_of a) b) c) d) f) g) h)

  abbrev pub permutation_of_eight : {A B C D F G H J : Type 0} → Word I A E → Word I B E → Word I C E → Word I D E → Word I F E → Word I G E → Word I H E →
      Word I J E → Word I (A × B × C × D × F × G × H × J) E
  permutation_of_eight a b c d f g h j = permutation_of w errs (λ o. (((((((record { member = o.0 }, o.1), o.2), o.3), o.4), o.5), o.6), o.7))
      (more_of (more_of (more_of (more_of (more_of (more_of (more_of (first_of a) b) c) d) f) g) h) j)
