-- Values of one tree are equal as viewed.
use Rattle.std.specs.Prelude.{◌≡◌, ℕ, List, [], ◌∷◌, ◌++◌, map, Result, Ok, refl}
use Rattle.std.specs.List.{AllZip, FoldsTo}
use Rattle.std.proofs.Common.{sym, ◌∙◌, ap}
use Rattle.std.proofs.lemmas.List.{map-append}
use Rattle.nom_internal.specs.Prelude.{View, IsPinned, vec_view}
use Rattle.nom_repeat.specs.Lists.{zip_pinned}
use Rattle.nom_traits.specs.View.{view_3}
use Rattle.nom_operators.specs.OperatorTrees.Symbol.{OfBinary}
use Rattle.nom_operators.specs.OperatorViews.{unary_view, binary_view}
use Rattle.nom_operators.specs.Prefixes.{prefixes_in, prefixes_view}
use Rattle.nom_operators.specs.declared.operation.Assoc.{Assoc}
use Rattle.nom_operators.specs.declared.operation.Operation.{Operation}
use Rattle.nom_operators.specs.declared.precedences.Unary.{Unary}
use Rattle.nom_operators.specs.declared.precedences.Binary.{Binary}
use Rattle.nom_operators.specs.declared.prefixes.Prefixes.{Prefixes}
use Rattle.nom_operators.specs.laws.ViewLaws.{OperatesConsistently, viewed_symbol, values_consistent, terms_consistent, binaries_consistent}
use Rattle.nom_language.specs.Evaluated.{TermOutput, symbols_of_term, symbols_of_pairs, IsEvaluated}
use Rattle.nom_language.specs.LeftFolds.{IsFolded}

-- operators' outputs of one tree
pub unary_pinned : {V O : Type 0} {view : View O} {IsOutput : V → O → Type 0} (k : ℕ) → IsPinned view IsOutput →
    IsPinned (unary_view view) (λ t (u : Unary O). IsOutput t u.value × (u.precedence ≡ k))
unary_pinned {view = view} k p = record {
  one_view = λ t a b g h.
      let make : view.Value → ℕ → view.Value × ℕ = λ x n. (x, n) in
      ap (λ x. make x a.precedence) (p.one_view t a.value b.value g.0 h.0) ∙ ap (λ n. make (view.value b.value) n) (g.1 ∙ sym h.1);
}

pub binary_pinned : {V O : Type 0} {view : View O} {IsOutput : V → O → Type 0} (k : ℕ) (assoc : Assoc) → IsPinned view IsOutput →
    IsPinned (binary_view view) (λ t (b : Binary O). IsOutput t b.value × (b.precedence ≡ k) × (b.assoc ≡ assoc))
binary_pinned {view = view} k assoc p = record {
  one_view = λ t a b g h.
      let make : view.Value → ℕ → Assoc → view.Value × ℕ × Assoc = λ x n m. (x, n, m) in
      ap (λ x. make x a.precedence a.assoc) (p.one_view t a.value b.value g.0 h.0)
      ∙ (ap (λ n. make (view.value b.value) n a.assoc) (g.1 ∙ sym h.1) ∙ ap (λ m. make (view.value b.value) b.precedence m) (g.2 ∙ sym h.2));
}

-- prefixes of one list of trees
pub prefixes_pinned : {V O A : Type 0} {view : View O} {IsOutput : V → O → Type 0} → IsPinned view IsOutput →
    IsPinned (prefixes_view {A = A} view) (λ vs (k : Prefixes O A). AllZip IsOutput vs (prefixes_in k))
prefixes_pinned pinned = record { one_view = λ vs a b p q. zip_pinned pinned vs (prefixes_in a) (prefixes_in b) p q }

module _ {P Q B O : Type 0} (prefix : View P) (postfix : View Q) (binary : View B) (value : View O) where
  -- what stands in a term that is viewed alike
  term_consistent : {M : Type 0} (a b : TermOutput P O Q M) →
      map (unary_view prefix).value (prefixes_in a.0) ≡ map (unary_view prefix).value (prefixes_in b.0) →
      value.value a.1 ≡ value.value b.1 → map (unary_view postfix).value a.2.items ≡ map (unary_view postfix).value b.2.items →
      map (viewed_symbol prefix postfix binary value) (symbols_of_term a) ≡ map (viewed_symbol prefix postfix binary value) (symbols_of_term b)
  term_consistent a b e f g = terms_consistent prefix postfix binary value (prefixes_in a.0) (prefixes_in b.0) a.1 b.1 a.2.items b.2.items e f g

  module _ {T C M : Type 0} {IsTerm : T → TermOutput P O Q M → Type 0} {IsBinary : C → Binary B → Type 0}
      (terms : IsPinned (view_3 (prefixes_view {A = M} (unary_view prefix)) value (vec_view {A = M} (unary_view postfix))) IsTerm)
      (binaries : IsPinned (binary_view binary) IsBinary) where
    one_term : (t : T) (a b : TermOutput P O Q M) → IsTerm t a → IsTerm t b →
        map (viewed_symbol prefix postfix binary value) (symbols_of_term a) ≡ map (viewed_symbol prefix postfix binary value) (symbols_of_term b)
    one_term t a b h k =
        let e = terms.one_view t a b h k in
        term_consistent a b (ap (λ z. z.0) e) (ap (λ z. z.1) e) (ap (λ z. z.2) e)

    pairs_consistent : (us : List (C × T)) (xs ys : List (Binary B × TermOutput P O Q M)) → AllZip (λ t o. IsBinary t.0 o.0 × IsTerm t.1 o.1) us xs →
        AllZip (λ t o. IsBinary t.0 o.0 × IsTerm t.1 o.1) us ys →
        map (viewed_symbol prefix postfix binary value) (symbols_of_pairs xs) ≡ map (viewed_symbol prefix postfix binary value) (symbols_of_pairs ys)
    pairs_consistent [] [] [] h k = refl
    pairs_consistent [] [] (y ∷ ys) h k = absurd k
    pairs_consistent [] (x ∷ xs) ys h k = absurd h
    pairs_consistent (u ∷ us) [] ys h k = absurd h
    pairs_consistent (u ∷ us) (x ∷ xs) [] h k = absurd k
    pairs_consistent (u ∷ us) (x ∷ xs) (y ∷ ys) h k =
        let see = viewed_symbol prefix postfix binary value in
        let heads = binaries_consistent prefix postfix binary value x.0 y.0 (binaries.one_view u.0 x.0 y.0 h.0.0 k.0.0) in
        let terms = one_term u.1 x.1 y.1 h.0.1 k.0.1 in
        let rest = pairs_consistent us xs ys h.1 k.1 in
        map-append see (OfBinary x.0 ∷ symbols_of_term x.1) (symbols_of_pairs xs)
        ∙ (ap (λ z. (z ∷ map see (symbols_of_term x.1)) ++ map see (symbols_of_pairs xs)) heads
        ∙ (ap (λ z. (see (OfBinary y.0) ∷ z) ++ map see (symbols_of_pairs xs)) terms
        ∙ (ap (λ z. (see (OfBinary y.0) ∷ map see (symbols_of_term y.1)) ++ z) rest
        ∙ sym (map-append see (OfBinary y.0 ∷ symbols_of_term y.1) (symbols_of_pairs ys)))))

    -- the values of one tree
    pub expression_pinned : {X : Type 0} {Gives : Operation P Q B O → Result O X → Type 0} → OperatesConsistently Gives prefix postfix binary value →
        IsPinned value (λ e y. IsEvaluated IsTerm IsBinary Gives e (Ok y))
    expression_pinned consistent = record {
      one_view = λ e a b g h.
          let see = viewed_symbol prefix postfix binary value in
          values_consistent prefix postfix binary value _ consistent _ _ a b
          (map-append see (symbols_of_term g.first) (symbols_of_pairs g.pairs)
          ∙ (ap (λ z. z ++ map see (symbols_of_pairs g.pairs)) (one_term e.0 g.first h.first g.is_first h.is_first)
          ∙ (ap (λ z. map see (symbols_of_term h.first) ++ z) (pairs_consistent e.1 g.pairs h.pairs g.are_pairs h.are_pairs)
          ∙ sym (map-append see (symbols_of_term h.first) (symbols_of_pairs h.pairs))))) g.is_value h.is_value;
    }

-- The builder gives values that are equal as viewed for operators and values that are. No verdict rests on it: it is asked only where
-- outputs are compared.
pub record BuildsConsistently {H O : Type 0} (Gives : O → H → O → O → Type 0) (operator : View H) (value : View O) : Type 0 where
  pub on_pair : (a b : H) (x y z w u v : O) → operator.value a ≡ operator.value b → value.value x ≡ value.value y → value.value z ≡ value.value w →
      Gives x a z u → Gives y b w v → value.value u ≡ value.value v

module _ {T C H O : Type 0} {IsItem : T → O → Type 0} {IsOperator : C → H → Type 0} {Gives : O → H → O → O → Type 0} {operator : View H} {value : View O}
    (items : IsPinned value IsItem) (operators : IsPinned operator IsOperator) (consistent : BuildsConsistently Gives operator value) where
  folds_consistent : (us : List (C × T)) (xs ys : List (H × O)) (a b u v : O) → value.value a ≡ value.value b →
      AllZip (λ t o. IsOperator t.0 o.0 × IsItem t.1 o.1) us xs → AllZip (λ t o. IsOperator t.0 o.0 × IsItem t.1 o.1) us ys →
      FoldsTo (λ x p z. Gives x p.0 p.1 z) a xs u → FoldsTo (λ x p z. Gives x p.0 p.1 z) b ys v → value.value u ≡ value.value v
  folds_consistent [] [] [] a b u v e h k f g = sym (ap value.value f) ∙ (e ∙ ap value.value g)
  folds_consistent [] [] (y ∷ ys) a b u v e h k f g = absurd k
  folds_consistent [] (x ∷ xs) ys a b u v e h k f g = absurd h
  folds_consistent (t ∷ us) [] ys a b u v e h k f g = absurd h
  folds_consistent (t ∷ us) (x ∷ xs) [] a b u v e h k f g = absurd k
  folds_consistent (t ∷ us) (x ∷ xs) (y ∷ ys) a b u v e h k f g = folds_consistent us xs ys f.0 g.0 u v
      (consistent.on_pair x.0 y.0 a b x.1 y.1 f.0 g.0 (operators.one_view t.0 x.0 y.0 h.0.0 k.0.0) e (items.one_view t.1 x.1 y.1 h.0.1 k.0.1) f.1 g.1)
      h.1 k.1 f.2 g.2

  pub left_assoc_pinned : IsPinned value (IsFolded IsItem IsOperator Gives)
  left_assoc_pinned = record {
    one_view = λ e a b g h. folds_consistent e.1 g.pairs h.pairs g.first h.first a b (items.one_view e.0 g.first h.first g.is_first h.is_first)
        g.are_pairs h.are_pairs g.folded h.folded;
  }
