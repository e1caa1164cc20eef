-- Outputs that one tree stands for are one, as they are compared.
use Rattle.std.specs.Prelude.{◌≡◌, ◌⊎◌}
use Rattle.std.proofs.Common.{sym, ◌∙◌, ap, inl, inr}
use Rattle.nom_traits.specs.Input.{Model, IsSame}
use Rattle.nom_traits.specs.Slices.{IsModelledBy}
use Rattle.nom_traits.specs.View.{View, pair_view}
use Rattle.nom_internal.specs.Choice.{EitherOutput}

-- two outputs of one tree have one view: a record, by which view and outputs are found
pub record IsPinned {V O : Type 0} (view : View O) (IsOutput : V → O → Type 0) : Type 0 where
  pub one_view : (t : V) (a b : O) → IsOutput t a → IsOutput t b → view.value a ≡ view.value b

-- a value that is its own tree
pub value_pinned : {O : Type 0} {view : View O} → IsPinned view (λ t o. o ≡ t)
value_pinned {view = view} = record { one_view = λ t a b p q. ap view.value (p ∙ sym q) }

-- a slice, where inputs that are equal as models are compared as one
pub slice_pinned : {I A : Type 0} {w : Model I A} {view : View I} → ((x y : I) → IsSame w x y → view.value x ≡ view.value y) → IsPinned view (IsModelledBy w)
slice_pinned views = record {
  one_view = λ t a b p q. views a b (record { elements_are = p.elements_are ∙ sym q.elements_are; mark_is = p.mark_is ∙ sym q.mark_is });
}

module _ {V W O P : Type 0} {a : View O} {b : View P} {F : V → O → Type 0} {G : W → P → Type 0} where
  -- a pair, by its parts
  pub pair_pinned : IsPinned a F → IsPinned b G → IsPinned (pair_view a b) (λ (t : V × W) (o : O × P). F t.0 o.0 × G t.1 o.1)
  pair_pinned f g = record {
    one_view = λ t o p h k.
        let pair : a.Value → b.Value → a.Value × b.Value = λ x y. (x, y) in
        ap (λ x. pair x (b.value o.1)) (f.one_view t.0 o.0 p.0 h.0 k.0) ∙ ap (λ y. pair (a.value p.0) y) (g.one_view t.1 o.1 p.1 h.1 k.1);
  }

-- one of two, by the branch that the tree names
pub either_pinned : {V W O : Type 0} {view : View O} {F : V → O → Type 0} {G : W → O → Type 0} → IsPinned view F → IsPinned view G →
    IsPinned view (EitherOutput F G)
either_pinned {V} {W} {O} {view} {F} {G} f g = record { one_view = one }
  where
    one : (t : V ⊎ W) (a b : O) → EitherOutput F G t a → EitherOutput F G t b → view.value a ≡ view.value b
    one (inl t) a b p q = f.one_view t a b p q
    one (inr t) a b p q = g.one_view t a b p q
