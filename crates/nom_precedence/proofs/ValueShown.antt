-- Lemmas on the value that is built of an expression.
use Rattle.std.proofs.Common.{◌≡◌, ℕ, Bool, true, false, Option, List, [], ◌∷◌, refl, subst}
use Rattle.std.specs.List.{AllZip}
use Rattle.nom.specs.Prelude.{Built}
use Rattle.nom_operators.proofs.Spine.{Joins}
use Rattle.nom_operators.proofs.Runs.{made_stands}
use Rattle.nom_operators.specs.Steps.{Made}
use Rattle.nom_operators.specs.Trees.Tree.{Leaf, Node}
use Rattle.nom_operators.specs.declared.operation.Operation.TheVariants.{Binary}
use Rattle.nom_precedence.specs.Expressions.{Term}
use Rattle.nom_precedence.specs.Readings.{IsPairOf, OfPairs}
use Rattle.nom_precedence.specs.Values.{Folding, IsOwn, TermGives, StandsFor}

zip_map : {V T : Type 0} (P Q : V → T → Type 0) (vs : List V) (ts : List T) → ((v : V) (t : T) → P v t → Q v t) → AllZip P vs ts → AllZip Q vs ts
zip_map P Q [] [] f h = h
zip_map P Q [] (t ∷ ts) f h = absurd h
zip_map P Q (v ∷ vs) [] f h = absurd h
zip_map P Q (v ∷ vs) (t ∷ ts) f h = (f v t h.0, zip_map P Q vs ts f h.1)

module _ {P V Q B F G H O : Type 0} (f : Folding P V Q B F G H O) (left : ℕ → Bool) where
  -- a term of its own
  stands_alone : (t : Term P V Q) (y : O) → TermGives f t y → StandsFor f left t [] y
  stands_alone t y g = record { tree = Leaf t; is_tree = (refl, refl); gives = g }

  -- what stands on both sides of a root, joined by the fold, stands for the whole
  stands_join : Joins (λ (o : ℕ × B). o.0) left (StandsFor f left) (IsOwn f.IsBinary) (λ x c y z. f.Gives (Binary x c.1 y) z)
  stands_join = record {
    joins = λ t before o u rest x c y z root l is r g. record {
      tree = Node l.tree o r.tree;
      is_tree = (before, u, rest, refl, root, l.is_tree, r.is_tree);
      gives = (x, c, y, l.gives, is, r.gives, g);
    };
  }

  -- what is made of a first term and of pairs is the value of their tree
  pub stands_built : (outputs : Bool) (t : Term P V Q) (ps : List ((ℕ × B) × Term P V Q)) (v z : Option O) → Built outputs (TermGives f t) v →
      Built outputs (λ y. OfPairs (IsPairOf f.IsBinary (TermGives f)) v ps (λ x os. Made left (λ c. c.0) (λ x c y z. f.Gives (Binary x c.1 y) z) x os y)) z →
      Built outputs (StandsFor f left t ps) z
  stands_built true t ps v z b d =
      let m = d.2 in
      let is : b.0 ≡ m.first = cc (b.1, m.first_is) in
      let alone : StandsFor f left t [] m.first = subst (StandsFor f left t []) is (stands_alone t b.0 b.2) in (
        d.0,
        d.1,
        made_stands (λ o. o.0) left (StandsFor f left) (IsOwn f.IsBinary) (λ x c y z. f.Gives (Binary x c.1 y) z) stands_join (λ c. c.0)
            (λ o c h. h.1) t ps m.outputs m.first d.0 alone (zip_map (IsPairOf f.IsBinary (TermGives f))
            (λ p o. IsOwn f.IsBinary p.0 o.0 × StandsFor f left p.1 [] o.1) ps m.outputs (λ p o h. (h.0, stands_alone p.1 o.1 h.1)) m.are_outputs) m.fact,
      )
  stands_built false t ps v z b d = d
