-- Laws of operator trees. What stands in an expression has one tree: a machine that reads it finds each tree again.
use Rattle.std.specs.Prelude.{◌≡◌, ℕ, Bool, true, false, List, [], ◌∷◌, ◌++◌, refl}
use Rattle.std.proofs.Common.{sym, ◌∙◌, ap, append_assoc, append-nil}
use Rattle.nom_operators.specs.OperatorTrees.{OperatorTree, Symbol, symbols, Binding, ends_operand, RightEdge, LeftEdge, IsGrouped, IsTreeOf}
use Rattle.nom_operators.specs.OperatorTrees.OperatorTree.{Bare, Prefixed, Postfixed, Between}
use Rattle.nom_operators.specs.OperatorTrees.Symbol.{OfPrefix, OfOperand, OfPostfix, OfBinary}

-- an operator whose right operand isn't read to its end: a prefix, or a binary one with its left operand
data Unfinished (P O Q B : Type 0) : Type 0 where
  AfterPrefix : P → Unfinished P O Q B
  AfterLeft : OperatorTree P O Q B → B → Unfinished P O Q B

-- where the machine stands: before an operand, or after one, with its tree
data Standing (P O Q B : Type 0) : Type 0 where
  Expects : List (Unfinished P O Q B) → Standing P O Q B
  Has : List (Unfinished P O Q B) → OperatorTree P O Q B → Standing P O Q B

module _ {P O Q B : Type 0} (l : Binding P Q B) where
  level_of_open : Unfinished P O Q B → ℕ
  level_of_open (AfterPrefix p) = l.prefix p
  level_of_open (AfterLeft x b) = l.binary b

  finished : Unfinished P O Q B → OperatorTree P O Q B → OperatorTree P O Q B
  finished (AfterPrefix p) y = Prefixed p y
  finished (AfterLeft x b) y = Between x b y

  -- the innermost are finished that an operator ends, and then it is taken
  pass : (List (Unfinished P O Q B) → OperatorTree P O Q B → Standing P O Q B) → Bool → List (Unfinished P O Q B) → OperatorTree P O Q B →
      Unfinished P O Q B → Standing P O Q B → Standing P O Q B
  pass Take true s x e ended = ended
  pass Take false s x e ended = Take (e ∷ s) x

  ended : (List (Unfinished P O Q B) → OperatorTree P O Q B → Standing P O Q B) → ℕ → Bool → List (Unfinished P O Q B) → OperatorTree P O Q B →
      Standing P O Q B
  ended Take k left [] x = Take [] x
  ended Take k left (e ∷ s) x = pass Take (ends_operand k left (level_of_open e)) s x e (ended Take k left s (finished e x))

  taken : Symbol P O Q B → Standing P O Q B → Standing P O Q B
  taken (OfPrefix p) (Expects s) = Expects (AfterPrefix p ∷ s)
  taken (OfOperand o) (Expects s) = Has s (Bare o)
  taken (OfPostfix q) (Has s x) = ended (λ r y. Has r (Postfixed y q)) (l.postfix q) true s x
  taken (OfBinary b) (Has s x) = ended (λ r y. Expects (AfterLeft y b ∷ r)) (l.binary b) (l.from_left b) s x
  taken (OfPrefix p) (Has s x) = Has s x
  taken (OfOperand o) (Has s x) = Has s x
  taken (OfPostfix q) (Expects s) = Expects s
  taken (OfBinary b) (Expects s) = Expects s

  all_taken : List (Symbol P O Q B) → Standing P O Q B → Standing P O Q B
  all_taken [] place = place
  all_taken (t ∷ ts) place = all_taken ts (taken t place)

  -- what is unfinished at the end of a tree, and the tree of what stands after it
  spine : OperatorTree P O Q B → List (Unfinished P O Q B) → List (Unfinished P O Q B)
  spine (Bare o) s = s
  spine (Prefixed p x) s = spine x (AfterPrefix p ∷ s)
  spine (Postfixed x q) s = s
  spine (Between x b y) s = spine y (AfterLeft x b ∷ s)

  last_of : OperatorTree P O Q B → OperatorTree P O Q B
  last_of (Bare o) = Bare o
  last_of (Prefixed p x) = last_of x
  last_of (Postfixed x q) = Postfixed x q
  last_of (Between x b y) = last_of y

  all_finished : List (Unfinished P O Q B) → OperatorTree P O Q B → OperatorTree P O Q B
  all_finished [] x = x
  all_finished (e ∷ s) x = all_finished s (finished e x)

  found : Standing P O Q B → OperatorTree P O Q B → OperatorTree P O Q B
  found (Expects s) other = other
  found (Has s x) other = all_finished s x

  -- an operator of the level k doesn't end the innermost
  GoesOn : List (Unfinished P O Q B) → ℕ → Bool → Type 0
  GoesOn [] k left = Unit {0}
  GoesOn (e ∷ s) k left = ends_operand k left (level_of_open e) ≡ false

  finished_again : (x : OperatorTree P O Q B) (s : List (Unfinished P O Q B)) → all_finished (spine x s) (last_of x) ≡ all_finished s x
  unfolding spine last_of all_finished finished
  finished_again (Bare o) s = refl
  finished_again (Prefixed p x) s = finished_again x (AfterPrefix p ∷ s)
  finished_again (Postfixed x q) s = refl
  finished_again (Between x b y) s = finished_again y (AfterLeft x b ∷ s)

  module _ (Take : List (Unfinished P O Q B) → OperatorTree P O Q B → Standing P O Q B) (k : ℕ) (left : Bool) where
    passes : (b : Bool) (s : List (Unfinished P O Q B)) (x : OperatorTree P O Q B) (e : Unfinished P O Q B) (z : Standing P O Q B) → b ≡ true →
        pass Take b s x e z ≡ z
    unfolding pass
    passes b s x e z h = ap (λ y. pass Take y s x e z) h

    stays : (b : Bool) (s : List (Unfinished P O Q B)) (x : OperatorTree P O Q B) (e : Unfinished P O Q B) (z : Standing P O Q B) → b ≡ false →
        pass Take b s x e z ≡ Take (e ∷ s) x
    unfolding pass
    stays b s x e z h = ap (λ y. pass Take y s x e z) h

    -- the right edge of a tree is finished by what ends it
    edge_ended : (x : OperatorTree P O Q B) (s : List (Unfinished P O Q B)) → RightEdge l (λ j. ends_operand k left j ≡ true) x →
        ended Take k left (spine x s) (last_of x) ≡ ended Take k left s x
    unfolding spine last_of ended finished level_of_open
    edge_ended (Bare o) s h = refl
    edge_ended (Prefixed p x) s h = edge_ended x (AfterPrefix p ∷ s) h.1 ∙ passes (ends_operand k left (l.prefix p)) s x (AfterPrefix p)
        (ended Take k left s (Prefixed p x)) h.0
    edge_ended (Postfixed x q) s h = refl
    edge_ended (Between x b y) s h = edge_ended y (AfterLeft x b ∷ s) h.1 ∙ passes (ends_operand k left (l.binary b)) s y (AfterLeft x b)
        (ended Take k left s (Between x b y)) h.0

    goes_on : (s : List (Unfinished P O Q B)) (x : OperatorTree P O Q B) → GoesOn s k left → ended Take k left s x ≡ Take s x
    unfolding ended GoesOn
    goes_on [] x h = refl
    goes_on (e ∷ s) x h = stays (ends_operand k left (level_of_open e)) s x e (ended Take k left s (finished e x)) h

  -- a tree is read again
  reads_again : (x : OperatorTree P O Q B) (s : List (Unfinished P O Q B)) (ts : List (Symbol P O Q B)) → IsGrouped l x → LeftEdge l (GoesOn s) x →
      all_taken (symbols x ++ ts) (Expects s) ≡ all_taken ts (Has (spine x s) (last_of x))
  unfolding all_taken taken spine last_of GoesOn level_of_open
  reads_again (Bare o) s ts g h = refl
  reads_again (Prefixed p x) s ts g h = reads_again x (AfterPrefix p ∷ s) ts g.1 g.0
  reads_again (Postfixed x q) s ts g h =
      ap (λ z. all_taken z (Expects s)) (append_assoc (symbols x) (OfPostfix q ∷ []) ts)
      ∙ (reads_again x s (OfPostfix q ∷ ts) g.1 h.1
      ∙ ap (all_taken ts) (edge_ended (λ r y. Has r (Postfixed y q)) (l.postfix q) true x s g.0
      ∙ goes_on (λ r y. Has r (Postfixed y q)) (l.postfix q) true s x h.0))
  reads_again (Between x b y) s ts g h =
      ap (λ z. all_taken z (Expects s)) (append_assoc (symbols x) (OfBinary b ∷ symbols y) ts)
      ∙ (reads_again x s (OfBinary b ∷ symbols y ++ ts) g.2 h.1
      ∙ (ap (all_taken (symbols y ++ ts)) (edge_ended (λ r z. Expects (AfterLeft z b ∷ r)) (l.binary b) (l.from_left b) x s g.0
      ∙ goes_on (λ r z. Expects (AfterLeft z b ∷ r)) (l.binary b) (l.from_left b) s x h.0)
      ∙ reads_again y (AfterLeft x b ∷ s) ts g.3 g.1))

  left_edge_free : (x : OperatorTree P O Q B) → LeftEdge l (GoesOn []) x
  unfolding GoesOn
  left_edge_free (Bare o) = tt
  left_edge_free (Prefixed p x) = tt
  left_edge_free (Postfixed x q) = (tt, left_edge_free x)
  left_edge_free (Between x b y) = (tt, left_edge_free x)

  found_again : (x : OperatorTree P O Q B) (other : OperatorTree P O Q B) → IsGrouped l x → found (all_taken (symbols x) (Expects [])) other ≡ x
  unfolding found all_taken all_finished
  found_again x other g = ap (λ z. found (all_taken z (Expects [])) other) (sym (append-nil (symbols x)))
      ∙ (ap (λ z. found z other) (reads_again x [] [] g (left_edge_free x)) ∙ finished_again x [])

  -- what stands in an expression has one tree at most
  pub no_other : (ss : List (Symbol P O Q B)) (x y : OperatorTree P O Q B) → IsTreeOf l ss x → IsTreeOf l ss y → x ≡ y
  no_other ss x y g h = sym (found_again x x g.1)
      ∙ (ap (λ z. found (all_taken z (Expects [])) x) (g.0 ∙ sym h.0) ∙ found_again y x h.1)
