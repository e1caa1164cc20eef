-- Values of one tree are equal as viewed.
use Rattle.std.specs.Prelude.{◌≡◌, ℕ, Bool, List, [], ◌∷◌}
use Rattle.std.proofs.Common.{sym, ◌∙◌, ap, subst}
use Rattle.nom.specs.Prelude.{View, pair_view, itself, IsPinned}
use Rattle.nom_operators.specs.declared.operation.Operation.TheVariants.{Prefix, Postfix, Binary}
use Rattle.nom_operators.specs.Trees.{Tree}
use Rattle.nom_operators.specs.Trees.Tree.{Leaf, Node}
use Rattle.nom_operators.specs.laws.TreeLaws.{one_tree}
use Rattle.nom_precedence.specs.Expressions.{Term, Pair}
use Rattle.nom_precedence.specs.Values.{Folding, PostfixesGive, PrefixesGive, TermGives, TreeGives, StandsFor}

-- The fold gives values that are equal as viewed for operators and values that are. No verdict rests on it: it is asked only where outputs
-- are compared.
pub record GivesConsistently {P V Q B F G H O : Type 0} (f : Folding P V Q B F G H O) (prefix : View F) (postfix : View G) (binary : View H) (value : View O) :
    Type 0 where
  pub on_prefix : (a b : F) (x y u v : O) → prefix.value a ≡ prefix.value b → value.value x ≡ value.value y → f.Gives (Prefix a x) u →
      f.Gives (Prefix b y) v → value.value u ≡ value.value v
  pub on_postfix : (a b : G) (x y u v : O) → postfix.value a ≡ postfix.value b → value.value x ≡ value.value y → f.Gives (Postfix x a) u →
      f.Gives (Postfix y b) v → value.value u ≡ value.value v
  pub on_binary : (a b : H) (x y z w u v : O) → binary.value a ≡ binary.value b → value.value x ≡ value.value y → value.value z ≡ value.value w →
      f.Gives (Binary x a z) u → f.Gives (Binary y b w) v → value.value u ≡ value.value v

module _ {P V Q B F G H O : Type 0} (f : Folding P V Q B F G H O) (prefix : View F) (postfix : View G) (binary : View H) (value : View O)
    (consistent : GivesConsistently f prefix postfix binary value) (prefixes : IsPinned prefix f.IsPrefix) (operands : IsPinned value f.IsOperand)
    (postfixes : IsPinned postfix f.IsPostfix) (binaries : IsPinned (pair_view itself binary) f.IsBinary) where
  postfixes_consistent : (x y : O) (qs : List Q) (u v : O) → value.value x ≡ value.value y → PostfixesGive f x qs u → PostfixesGive f y qs v →
      value.value u ≡ value.value v
  postfixes_consistent x y [] u v e p q = ap value.value p ∙ (e ∙ sym (ap value.value q))
  postfixes_consistent x y (c ∷ cs) u v e p q = postfixes_consistent p.1 q.1 cs u v
      (consistent.on_postfix p.0 q.0 x y p.1 q.1 (postfixes.one_view c p.0 q.0 p.2 q.2) e p.3 q.3) p.4 q.4

  prefixes_consistent : (ps : List P) (x y u v : O) → value.value x ≡ value.value y → PrefixesGive f ps x u → PrefixesGive f ps y v →
      value.value u ≡ value.value v
  prefixes_consistent [] x y u v e p q = ap value.value p ∙ (e ∙ sym (ap value.value q))
  prefixes_consistent (c ∷ cs) x y u v e p q = consistent.on_prefix p.0 q.0 p.1 q.1 u v (prefixes.one_view c p.0 q.0 p.2 q.2)
      (prefixes_consistent cs x y p.1 q.1 e p.3 q.3) p.4 q.4

  term_consistent : (t : Term P V Q) (u v : O) → TermGives f t u → TermGives f t v → value.value u ≡ value.value v
  term_consistent t u v p q = prefixes_consistent t.prefixes p.rest q.rest u v
      (postfixes_consistent p.operand q.operand t.postfixes p.rest q.rest (operands.one_view t.operand p.operand q.operand p.is_operand q.is_operand)
      p.postfixes_give q.postfixes_give) p.prefixes_give q.prefixes_give

  tree_consistent : (t : Tree (Term P V Q) (ℕ × B)) (u v : O) → TreeGives f t u → TreeGives f t v → value.value u ≡ value.value v
  tree_consistent (Leaf t) u v p q = term_consistent t u v p q
  tree_consistent (Node l o r) u v p q = consistent.on_binary (p.1).1 (q.1).1 p.0 q.0 p.2 q.2 u v
      (ap (λ z. z.1) (binaries.one_view o.1 p.1 q.1 (p.4).0 (q.4).0))
      (tree_consistent l p.0 q.0 p.3 q.3) (tree_consistent r p.2 q.2 p.5 q.5) p.6 q.6

pub folding_pinned : {P V Q B F G H O : Type 0} {f : Folding P V Q B F G H O} {prefix : View F} {postfix : View G} {binary : View H} {value : View O} →
    GivesConsistently f prefix postfix binary value → IsPinned prefix f.IsPrefix → IsPinned value f.IsOperand → IsPinned postfix f.IsPostfix →
    IsPinned (pair_view itself binary) f.IsBinary → (left : ℕ → Bool) →
    IsPinned value (λ (e : Term P V Q × List (Pair B (Term P V Q))). StandsFor f left e.0 e.1)
folding_pinned {B = B} {f = f} {prefix} {postfix} {binary} {value} consistent p q r s left = record {
  one_view = λ e a b x y.
      let same = one_tree (λ (o : ℕ × B). o.0) left e.0 e.1 x.tree y.tree x.is_tree y.is_tree in
      tree_consistent f prefix postfix binary value consistent p q r s y.tree a b (subst (λ t. TreeGives f t a) same x.gives) y.gives;
}
