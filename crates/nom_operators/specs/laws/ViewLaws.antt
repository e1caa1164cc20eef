-- Expressions that are viewed alike have values that are.
use Rattle.std.specs.Prelude.{◌≡◌, ℕ, Bool, true, false, List, [], ◌∷◌, ◌++◌, map, Result, Ok, Err, refl}
use Rattle.std.proofs.Common.{sym, ◌∙◌, ap}
use Rattle.std.proofs.lemmas.List.{map-append}
use Rattle.nom_traits.specs.View.{View}
use Rattle.nom_operators.specs.Evaluations.{OnValue, by_precedence, Evaluates, IsValueOf, term_symbols}
use Rattle.nom_operators.specs.Groups.{is_left}
use Rattle.nom_operators.specs.OperatorTrees.{OperatorTree, Symbol, symbols, Binding, ends_operand, RightEdge, LeftEdge, IsGrouped}
use Rattle.nom_operators.specs.OperatorTrees.OperatorTree.{Bare, Prefixed, Postfixed, Between}
use Rattle.nom_operators.specs.OperatorTrees.Symbol.{OfPrefix, OfOperand, OfPostfix, OfBinary}
use Rattle.nom_operators.specs.OperatorViews.{unary_view, binary_view}
use Rattle.nom_operators.specs.declared.operation.Assoc.{Assoc}
use Rattle.nom_operators.specs.declared.operation.Operation.{Operation}
use Rattle.nom_operators.specs.declared.operation.Operation.TheVariants as Does
use Rattle.nom_operators.specs.declared.precedences.Unary.{Unary}
use Rattle.nom_operators.specs.declared.precedences.Binary.{Binary}
use Rattle.nom_operators.specs.laws.OperatorTreeLaws.{no_other}

-- The fold gives values that are equal as viewed for operators and values that are. No verdict rests on it: it is asked only where outputs
-- are compared.
pub record OperatesConsistently {P Q B O X : Type 0} (Gives : Operation P Q B O → Result O X → Type 0) (prefix : View P) (postfix : View Q) (binary : View B)
    (value : View O) : Type 0 where
  pub on_prefix : (a b : P) (x y u v : O) → prefix.value a ≡ prefix.value b → value.value x ≡ value.value y → Gives (Does.Prefix a x) (Ok u) →
      Gives (Does.Prefix b y) (Ok v) → value.value u ≡ value.value v
  pub on_postfix : (a b : Q) (x y u v : O) → postfix.value a ≡ postfix.value b → value.value x ≡ value.value y → Gives (Does.Postfix x a) (Ok u) →
      Gives (Does.Postfix y b) (Ok v) → value.value u ≡ value.value v
  pub on_binary : (a b : B) (x y z w u v : O) → binary.value a ≡ binary.value b → value.value x ≡ value.value y → value.value z ≡ value.value w →
      Gives (Does.Binary x a z) (Ok u) → Gives (Does.Binary y b w) (Ok v) → value.value u ≡ value.value v

module _ {P Q B O : Type 0} (prefix : View P) (postfix : View Q) (binary : View B) (value : View O) where
  viewed : OperatorTree (Unary P) O (Unary Q) (Binary B) →
      OperatorTree (prefix.Value × ℕ) value.Value (postfix.Value × ℕ) (binary.Value × ℕ × Assoc)
  viewed (Bare o) = Bare (value.value o)
  viewed (Prefixed p x) = Prefixed ((unary_view prefix).value p) (viewed x)
  viewed (Postfixed x q) = Postfixed (viewed x) ((unary_view postfix).value q)
  viewed (Between x b y) = Between (viewed x) ((binary_view binary).value b) (viewed y)

  -- what stands in an expression, as it is viewed
  pub viewed_symbol : Symbol (Unary P) O (Unary Q) (Binary B) →
      Symbol (prefix.Value × ℕ) value.Value (postfix.Value × ℕ) (binary.Value × ℕ × Assoc)
  viewed_symbol (OfPrefix p) = OfPrefix ((unary_view prefix).value p)
  viewed_symbol (OfOperand o) = OfOperand (value.value o)
  viewed_symbol (OfPostfix q) = OfPostfix ((unary_view postfix).value q)
  viewed_symbol (OfBinary b) = OfBinary ((binary_view binary).value b)

  viewed_levels : Binding (prefix.Value × ℕ) (postfix.Value × ℕ) (binary.Value × ℕ × Assoc)
  viewed_levels = record { prefix = λ p. p.1; postfix = λ q. q.1; binary = λ b. b.1; from_left = λ b. is_left b.2 }

  viewed_right : (Fact : ℕ → Type 0) (x : OperatorTree (Unary P) O (Unary Q) (Binary B)) → RightEdge by_precedence Fact x →
      RightEdge viewed_levels Fact (viewed x)
  unfolding viewed viewed_levels
  viewed_right Fact (Bare o) h = tt
  viewed_right Fact (Prefixed p x) h = (h.0, viewed_right Fact x h.1)
  viewed_right Fact (Postfixed x q) h = tt
  viewed_right Fact (Between x b y) h = (h.0, viewed_right Fact y h.1)

  viewed_left : (Fact : ℕ → Bool → Type 0) (x : OperatorTree (Unary P) O (Unary Q) (Binary B)) → LeftEdge by_precedence Fact x →
      LeftEdge viewed_levels Fact (viewed x)
  unfolding viewed viewed_levels
  viewed_left Fact (Bare o) h = tt
  viewed_left Fact (Prefixed p x) h = tt
  viewed_left Fact (Postfixed x q) h = (h.0, viewed_left Fact x h.1)
  viewed_left Fact (Between x b y) h = (h.0, viewed_left Fact x h.1)

  viewed_grouped : (x : OperatorTree (Unary P) O (Unary Q) (Binary B)) → IsGrouped by_precedence x → IsGrouped viewed_levels (viewed x)
  unfolding viewed viewed_levels
  viewed_grouped (Bare o) h = tt
  viewed_grouped (Prefixed p x) h = (viewed_left (λ k left. ends_operand k left p.precedence ≡ false) x h.0, viewed_grouped x h.1)
  viewed_grouped (Postfixed x q) h = (viewed_right (λ j. ends_operand q.precedence true j ≡ true) x h.0, viewed_grouped x h.1)
  viewed_grouped (Between x b y) h = (
    viewed_right (λ j. ends_operand b.precedence (is_left b.assoc) j ≡ true) x h.0,
    viewed_left (λ k left. ends_operand k left b.precedence ≡ false) y h.1,
    viewed_grouped x h.2,
    viewed_grouped y h.3,
  )

  viewed_symbols : (x : OperatorTree (Unary P) O (Unary Q) (Binary B)) → symbols (viewed x) ≡ map viewed_symbol (symbols x)
  unfolding viewed viewed_symbol
  viewed_symbols (Bare o) = refl
  viewed_symbols (Prefixed p x) = ap (λ z. OfPrefix ((unary_view prefix).value p) ∷ z) (viewed_symbols x)
  viewed_symbols (Postfixed x q) = ap (λ z. z ++ OfPostfix ((unary_view postfix).value q) ∷ []) (viewed_symbols x)
      ∙ sym (map-append viewed_symbol (symbols x) (OfPostfix q ∷ []))
  viewed_symbols (Between x b y) = ap (λ z. z ++ OfBinary ((binary_view binary).value b) ∷ symbols (viewed y)) (viewed_symbols x)
      ∙ (ap (λ z. map viewed_symbol (symbols x) ++ OfBinary ((binary_view binary).value b) ∷ z) (viewed_symbols y)
      ∙ sym (map-append viewed_symbol (symbols x) (OfBinary b ∷ symbols y)))

  module _ {X : Type 0} (Gives : Operation P Q B O → Result O X → Type 0) (consistent : OperatesConsistently Gives prefix postfix binary value) where
    prefix_consistent : (p q : Unary P) (r s : Result O X) (u v : O) → (unary_view prefix).value p ≡ (unary_view prefix).value q →
        ((x y : O) → r ≡ Ok x → s ≡ Ok y → value.value x ≡ value.value y) → OnValue r (λ x. Gives (Does.Prefix p.value x) (Ok u)) (Ok u) →
        OnValue s (λ x. Gives (Does.Prefix q.value x) (Ok v)) (Ok v) → value.value u ≡ value.value v
    prefix_consistent p q (Ok x) (Ok y) u v e f g h = consistent.on_prefix p.value q.value x y u v (ap (λ z. z.0) e) (f x y refl refl) g h
    prefix_consistent p q (Err x) s u v e f g h = absurd (cc (g))
    prefix_consistent p q (Ok x) (Err y) u v e f g h = absurd (cc (h))

    postfix_consistent : (p q : Unary Q) (r s : Result O X) (u v : O) → (unary_view postfix).value p ≡ (unary_view postfix).value q →
        ((x y : O) → r ≡ Ok x → s ≡ Ok y → value.value x ≡ value.value y) → OnValue r (λ x. Gives (Does.Postfix x p.value) (Ok u)) (Ok u) →
        OnValue s (λ x. Gives (Does.Postfix x q.value) (Ok v)) (Ok v) → value.value u ≡ value.value v
    postfix_consistent p q (Ok x) (Ok y) u v e f g h = consistent.on_postfix p.value q.value x y u v (ap (λ z. z.0) e) (f x y refl refl) g h
    postfix_consistent p q (Err x) s u v e f g h = absurd (cc (g))
    postfix_consistent p q (Ok x) (Err y) u v e f g h = absurd (cc (h))

    binary_consistent : (p q : Binary B) (r s k l : Result O X) (u v : O) → (binary_view binary).value p ≡ (binary_view binary).value q →
        ((x y : O) → r ≡ Ok x → s ≡ Ok y → value.value x ≡ value.value y) → ((x y : O) → k ≡ Ok x → l ≡ Ok y → value.value x ≡ value.value y) →
        OnValue r (λ x. OnValue k (λ z. Gives (Does.Binary x p.value z) (Ok u)) (Ok u)) (Ok u) →
        OnValue s (λ x. OnValue l (λ z. Gives (Does.Binary x q.value z) (Ok v)) (Ok v)) (Ok v) → value.value u ≡ value.value v
    binary_consistent p q (Ok x) (Ok y) (Ok z) (Ok w) u v e f d g h =
        consistent.on_binary p.value q.value x y z w u v (ap (λ t. t.0) e) (f x y refl refl) (d z w refl refl) g h
    binary_consistent p q (Err x) s k l u v e f d g h = absurd (cc (g))
    binary_consistent p q (Ok x) (Err y) k l u v e f d g h = absurd (cc (h))
    binary_consistent p q (Ok x) (Ok y) (Err z) l u v e f d g h = absurd (cc (g))
    binary_consistent p q (Ok x) (Ok y) (Ok z) (Err w) u v e f d g h = absurd (cc (h))

    evaluates_consistent : (x y : OperatorTree (Unary P) O (Unary Q) (Binary B)) (r s : Result O X) (u v : O) → r ≡ Ok u → s ≡ Ok v →
        viewed x ≡ viewed y → Evaluates Gives x r → Evaluates Gives y s → value.value u ≡ value.value v
    unfolding viewed
    evaluates_consistent (Bare o) (Bare p) r s u v c d e h k =
        let a : u ≡ o = cc (c, h) in
        let b : v ≡ p = cc (d, k) in
        let same : value.value o ≡ value.value p = cc (e) in
        ap value.value a ∙ (same ∙ sym (ap value.value b))
    evaluates_consistent (Prefixed p x) (Prefixed q y) r s u v c d e h k =
        let ops : (unary_view prefix).value p ≡ (unary_view prefix).value q = cc (e) in
        let trees : viewed x ≡ viewed y = cc (e) in
        prefix_consistent p q h.0 k.0 u v ops (λ a b f g. evaluates_consistent x y h.0 k.0 a b f g trees h.1 k.1) (rw c at h.2) (rw d at k.2)
    evaluates_consistent (Postfixed x p) (Postfixed y q) r s u v c d e h k =
        let ops : (unary_view postfix).value p ≡ (unary_view postfix).value q = cc (e) in
        let trees : viewed x ≡ viewed y = cc (e) in
        postfix_consistent p q h.0 k.0 u v ops (λ a b f g. evaluates_consistent x y h.0 k.0 a b f g trees h.1 k.1) (rw c at h.2) (rw d at k.2)
    evaluates_consistent (Between x p z) (Between y q w) r s u v c d e h k =
        let ops : (binary_view binary).value p ≡ (binary_view binary).value q = cc (e) in
        let lefts : viewed x ≡ viewed y = cc (e) in
        let rights : viewed z ≡ viewed w = cc (e) in
        binary_consistent p q h.0 k.0 h.1 k.1 u v ops (λ a b f g. evaluates_consistent x y h.0 k.0 a b f g lefts h.2 k.2)
        (λ a b f g. evaluates_consistent z w h.1 k.1 a b f g rights h.3 k.3) (rw c at h.4) (rw d at k.4)
    evaluates_consistent (Bare o) (Prefixed q y) r s u v c d e h k = absurd (cc (e))
    evaluates_consistent (Bare o) (Postfixed y q) r s u v c d e h k = absurd (cc (e))
    evaluates_consistent (Bare o) (Between y q w) r s u v c d e h k = absurd (cc (e))
    evaluates_consistent (Prefixed p x) (Bare o) r s u v c d e h k = absurd (cc (e))
    evaluates_consistent (Prefixed p x) (Postfixed y q) r s u v c d e h k = absurd (cc (e))
    evaluates_consistent (Prefixed p x) (Between y q w) r s u v c d e h k = absurd (cc (e))
    evaluates_consistent (Postfixed x p) (Bare o) r s u v c d e h k = absurd (cc (e))
    evaluates_consistent (Postfixed x p) (Prefixed q y) r s u v c d e h k = absurd (cc (e))
    evaluates_consistent (Postfixed x p) (Between y q w) r s u v c d e h k = absurd (cc (e))
    evaluates_consistent (Between x p z) (Bare o) r s u v c d e h k = absurd (cc (e))
    evaluates_consistent (Between x p z) (Prefixed q y) r s u v c d e h k = absurd (cc (e))
    evaluates_consistent (Between x p z) (Postfixed y q) r s u v c d e h k = absurd (cc (e))

    -- the values of what is viewed alike are viewed alike
    pub values_consistent : (ss ts : List (Symbol (Unary P) O (Unary Q) (Binary B))) (u v : O) → map viewed_symbol ss ≡ map viewed_symbol ts →
        IsValueOf Gives ss (Ok u) → IsValueOf Gives ts (Ok v) → value.value u ≡ value.value v
    values_consistent ss ts u v e g h = evaluates_consistent g.tree h.tree (Ok u) (Ok v) u v refl refl
        (no_other viewed_levels (map viewed_symbol ss) (viewed g.tree) (viewed h.tree)
        (viewed_symbols g.tree ∙ ap (map viewed_symbol) g.is_tree.0, viewed_grouped g.tree g.is_tree.1)
        (viewed_symbols h.tree ∙ (ap (map viewed_symbol) h.is_tree.0 ∙ sym e), viewed_grouped h.tree h.is_tree.1)) g.evaluates h.evaluates

  prefixes_viewed : (ps : List (Unary P)) → map viewed_symbol (map OfPrefix ps) ≡ map OfPrefix (map (unary_view prefix).value ps)
  unfolding viewed_symbol
  prefixes_viewed [] = refl
  prefixes_viewed (p ∷ ps) = ap (λ z. OfPrefix ((unary_view prefix).value p) ∷ z) (prefixes_viewed ps)

  postfixes_viewed : (qs : List (Unary Q)) → map viewed_symbol (map OfPostfix qs) ≡ map OfPostfix (map (unary_view postfix).value qs)
  unfolding viewed_symbol
  postfixes_viewed [] = refl
  postfixes_viewed (q ∷ qs) = ap (λ z. OfPostfix ((unary_view postfix).value q) ∷ z) (postfixes_viewed qs)

  term_viewed : (ps : List (Unary P)) (o : O) (qs : List (Unary Q)) → map viewed_symbol (term_symbols ps o qs) ≡
      term_symbols (map (unary_view prefix).value ps) (value.value o) (map (unary_view postfix).value qs)
  unfolding viewed_symbol
  term_viewed ps o qs = map-append viewed_symbol (map OfPrefix ps) (OfOperand o ∷ map OfPostfix qs)
      ∙ (ap (λ z. z ++ OfOperand (value.value o) ∷ map viewed_symbol (map OfPostfix qs)) (prefixes_viewed ps)
      ∙ ap (λ z. map OfPrefix (map (unary_view prefix).value ps) ++ OfOperand (value.value o) ∷ z) (postfixes_viewed qs))

  -- terms of parts that are viewed alike are viewed alike
  pub terms_consistent : (ps ps' : List (Unary P)) (o o' : O) (qs qs' : List (Unary Q)) → map (unary_view prefix).value ps ≡ map (unary_view prefix).value ps' →
      value.value o ≡ value.value o' → map (unary_view postfix).value qs ≡ map (unary_view postfix).value qs' →
      map viewed_symbol (term_symbols ps o qs) ≡ map viewed_symbol (term_symbols ps' o' qs')
  terms_consistent ps ps' o o' qs qs' e f g = term_viewed ps o qs
      ∙ (ap (λ z. term_symbols z (value.value o) (map (unary_view postfix).value qs)) e
      ∙ (ap (λ z. term_symbols (map (unary_view prefix).value ps') z (map (unary_view postfix).value qs)) f
      ∙ (ap (λ z. term_symbols (map (unary_view prefix).value ps') (value.value o') z) g ∙ sym (term_viewed ps' o' qs'))))

  -- and one operator
  pub binaries_consistent : (b c : Binary B) → (binary_view binary).value b ≡ (binary_view binary).value c →
      viewed_symbol (OfBinary b) ≡ viewed_symbol (OfBinary c)
  unfolding viewed_symbol
  binaries_consistent b c e = ap OfBinary e
