-- Lemmas on the fold of one item.
use Rattle.std.proofs.Common.{true, Result, Ok, Err, Option, Some, [], ◌∷◌, inl, refl, arith}
use Rattle.nom_error.specs.declared.answer.OutOfMemory.{OutOfMemory}
use Rattle.nom_error.specs.declared.answer.Err as Answer
use Rattle.nom_error.specs.declared.kind.ErrorKind.TheVariants as Kind
use Rattle.nom_internal.specs.Prelude.{Built, Modes, Model, InputLaws, Errors, Meaning, Accept}
use Rattle.nom_internal.proofs.Consumed.{rest_self}
use Rattle.nom_internal.proofs.Shown.{Accepts}
use Rattle.nom_repeat.specs.Items.{item_turn}
use Rattle.nom_repeat.specs.Repeat.{TurnsBy}
use Rattle.nom_repeat.specs.Bounds.{one_limits}
use Rattle.nom_repeat.specs.declared.items.Limits.{Limits}
use Rattle.nom_repeat.specs.declared.items.TooFew.TheVariants.{Fresh}
use Rattle.nom_repeat.proofs.Repeated.{Collected}
use Rattle.nom_repeat.proofs.ItemsShown.{items_full, taken_turn}
use Rattle.nom_multi_fold.specs.FoldAlloc.{FoldsItem}
use Rattle.nom_multi_fold.proofs.FoldsAllocShown.{Reached, FoldShown, folds_by, folds_lack, folds_more, folds_none}

-- the limits of a first item
abbrev pub first_limits : Limits
first_limits = one_limits (Fresh Kind.Many1) true

module _ {I A V T R E : Type 0} {w : Model I A} (l : InputLaws w) (IsOutput : V → T → Type 0) (Inits : R → Type 0)
    (Gives : R → T → Result R OutOfMemory → Type 0) (m : Meaning I V E) (mode : Modes) {i : I} (known : w.IsKnown i) (first : Option R)
    (begun : Built mode.outputs Inits first) where
  -- no item yet
  abbrev pub at_start : Collected w (TurnsBy (Some 1) (item_turn first_limits) (λ _. m.answers mode.streaming))
      (λ vs. Built mode.outputs (Reached IsOutput Inits Gives vs) first) i i
  at_start = record {
    trees = [];
    taken = 0;
    pieces = (refl, refl);
    rest_is = rest_self w l i known;
    held = folds_none IsOutput Inits Gives mode.outputs first begun;
  }

  module _ (errs : Errors I E) {h : I} {x : Option T} (item : Accepts w IsOutput mode.outputs i (m.answers mode.streaming i) h x) where
    abbrev after_it : (y : Option R) → FoldsItem Gives first x (Ok y) → Collected w (TurnsBy (Some 1) (item_turn first_limits) (λ _. m.answers mode.streaming))
        (λ vs. Built mode.outputs (Reached IsOutput Inits Gives vs) y) i h
    after_it y f = record {
      trees = item.tree ∷ [];
      taken = item.length;
      pieces = (
        item.length,
        0,
        h,
        record {
          reply = Some (Accept item.length item.tree);
          replied = (omega arith, item.answered);
          fact = taken_turn first_limits 0 item.length item.tree (inl refl);
        },
        item.rest_is,
        (refl, refl),
        omega arith,
      );
      rest_is = item.rest_is;
      held = folds_more IsOutput Inits Gives mode.outputs [] item.tree first x y f at_start.held item.built_is;
    }

    -- the item is taken
    pub one_folded : {y : Option R} → FoldsItem Gives first x (Ok y) → FoldShown w errs IsOutput Gives m mode first_limits Inits i (Ok (h, y))
    one_folded {y = y} f = folds_by errs IsOutput Gives m mode first_limits Inits
        (items_full errs first_limits ⊥ m (after_it y f) (λ b. omega (arith, b)) (after_it y f).held)

    -- there is no memory for it
    pub one_lacks : {e : OutOfMemory} → FoldsItem Gives first x (Err e) →
        FoldShown w errs IsOutput Gives m mode first_limits Inits i (Err Answer.Err.OutOfMemory)
    one_lacks f = folds_lack errs IsOutput Gives m mode first_limits Inits first at_start (omega arith) item (inl refl) at_start.held f
