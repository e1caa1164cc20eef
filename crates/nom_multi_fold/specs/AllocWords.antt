-- The words of folds whose closures may take memory.
use Rattle.std.specs.Prelude.{◌≡◌, Result}
use Rattle.std.proofs.Common.{ap, ap₂}
use Rattle.nom_error.specs.Errors.{Errors}
use Rattle.nom_error.specs.declared.answer.OutOfMemory.{OutOfMemory}
use Rattle.nom_traits.specs.Input.{Model}
use Rattle.nom_internal.specs.Word.{Word, word}
use Rattle.nom_multi_fold.specs.Folds.{AreCallable}
use Rattle.nom_multi_fold.specs.FoldAlloc as FoldAlloc
use Rattle.nom_multi_fold.specs.Words.{Folding, folding, folding_is}

module _ {I A O R E : Type 0} (w : Model I A) (errs : Errors I E) where
  pub fold_many0_alloc_of : Folding O R (Result R OutOfMemory) → Word I O E → Word I R E
  fold_many0_alloc_of f g = word (FoldAlloc.fold_many0_alloc_by w errs (AreCallable f.CanInit f.Takes) f.Inits f.Gives g.grammar)

  pub fold_many1_alloc_of : Folding O R (Result R OutOfMemory) → Word I O E → Word I R E
  fold_many1_alloc_of f g = word (FoldAlloc.fold_many1_alloc_by w errs (AreCallable f.CanInit f.Takes) f.Inits f.Gives g.grammar)

  module _ {g h : Word I O E} where
    module _ (CanInit : Type 0) (Takes : R → O → Type 0) (Inits : Result R OutOfMemory → Type 0) (Gives : R → O → Result R OutOfMemory → Type 0) where
      pub fold_many0_alloc_worded : g ≡ h → fold_many0_alloc_of (folding CanInit Takes Inits Gives) g ≡
          word (FoldAlloc.fold_many0_alloc_by w errs (AreCallable CanInit Takes) Inits Gives h.grammar)
      unfolding fold_many0_alloc_of
      fold_many0_alloc_worded p = ap₂ fold_many0_alloc_of (folding_is CanInit Takes Inits Gives) p

      pub fold_many1_alloc_worded : g ≡ h → fold_many1_alloc_of (folding CanInit Takes Inits Gives) g ≡
          word (FoldAlloc.fold_many1_alloc_by w errs (AreCallable CanInit Takes) Inits Gives h.grammar)
      unfolding fold_many1_alloc_of
      fold_many1_alloc_worded p = ap₂ fold_many1_alloc_of (folding_is CanInit Takes Inits Gives) p

    module _ {f f' : Folding O R (Result R OutOfMemory)} where
      pub fold_many0_alloc_same : f ≡ f' → g ≡ h → fold_many0_alloc_of f g ≡ fold_many0_alloc_of f' h
      fold_many0_alloc_same q p = ap₂ fold_many0_alloc_of q p

      pub fold_many1_alloc_same : f ≡ f' → g ≡ h → fold_many1_alloc_of f g ≡ fold_many1_alloc_of f' h
      fold_many1_alloc_same q p = ap₂ fold_many1_alloc_of q p
