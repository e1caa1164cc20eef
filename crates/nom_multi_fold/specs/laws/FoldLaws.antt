-- The laws of folds.
use Rattle.std.specs.Prelude.{◌≡◌, ℕ, true, false, List, [], ◌∷◌}
use Rattle.std.specs.List.{AllZip, FoldsTo}
use Rattle.std.proofs.Common.{subst}
use Rattle.nom_internal.specs.Prelude.{Errors, Model, InputLaws, View, Meaning, IsLawful, IsSteady, IsPinned}
use Rattle.nom_error.specs.declared.kind.ErrorKind.TheVariants as Kind
use Rattle.nom_internal.specs.laws.SequenceLaws.{sequence_lawful, sequence_steady}
use Rattle.nom_repeat.specs.laws.ItemsLaws.{items_lawful, items_steady}
use Rattle.nom_multi_fold.specs.Under.{under_lawful, under_steady}
use Rattle.nom_multi_fold.specs.laws.UnfitLaws.{unfit_lawful, unfit_steady}
use Rattle.nom_multi_fold.specs.Folds.{Folds, FoldsConsistently, fold_many0_meaning, fold_many1_meaning, fold_many_m_n_meaning}
use Rattle.nom_repeat.specs.Bounds.{any_limits, one_limits, bounded_limits}
use Rattle.nom_repeat.specs.declared.items.TooFew.TheVariants.{Fresh}

-- folds of the outputs of one list of trees are equal as viewed
module _ {V T R : Type 0} {item : View T} {value : View R} {IsOutput : V → T → Type 0} {Inits : R → Type 0} {Gives : R → T → R → Type 0}
    (pinned : IsPinned item IsOutput) (consistent : FoldsConsistently item value Inits Gives) where
  folds_consistent : (vs : List V) (xs ys : List T) (a b c d : R) → value.value a ≡ value.value b → AllZip IsOutput vs xs → AllZip IsOutput vs ys →
      FoldsTo Gives a xs c → FoldsTo Gives b ys d → value.value c ≡ value.value d
  folds_consistent [] [] [] a b c d e p q f g = subst (λ z. value.value z ≡ value.value d) f (subst (λ z. value.value a ≡ value.value z) g e)
  folds_consistent [] [] (y ∷ ys) a b c d e p q f g = absurd q
  folds_consistent [] (x ∷ xs) ys a b c d e p q f g = absurd p
  folds_consistent (v ∷ vs) [] ys a b c d e p q f g = absurd p
  folds_consistent (v ∷ vs) (x ∷ xs) [] a b c d e p q f g = absurd q
  folds_consistent (v ∷ vs) (x ∷ xs) (y ∷ ys) a b c d e p q f g =
      folds_consistent vs xs ys f.0 g.0 c d (consistent.next a b x y f.0 g.0 e (pinned.one_view v x y p.0 q.0) f.1 g.1) p.1 q.1 f.2 g.2

  pub folds_pinned : IsPinned value (Folds IsOutput Inits Gives)
  folds_pinned = record {
    one_view = λ vs c d p q. folds_consistent vs p.outputs q.outputs p.first q.first c d (consistent.first p.first q.first p.is_first q.is_first) p.are_outputs
        q.are_outputs p.folded q.folded;
  }

module _ {I A V E : Type 0} {w : Model I A} (l : InputLaws w) (errs : Errors I E) {Premise : Type 0} {m : Meaning I V E} where
  pub fold_many0_lawful : IsLawful w m → IsLawful w (fold_many0_meaning w errs Premise m)
  fold_many0_lawful p = under_lawful (items_lawful l errs (any_limits Kind.Many0) p)

  pub fold_many0_steady : IsSteady w m → IsSteady w (fold_many0_meaning w errs Premise m)
  fold_many0_steady p = under_steady (items_steady l errs (any_limits Kind.Many0) p)

  pub fold_many1_lawful : IsLawful w m → IsLawful w (fold_many1_meaning w errs Premise m)
  fold_many1_lawful p =
      under_lawful (sequence_lawful l (items_lawful l errs (one_limits (Fresh Kind.Many1) true) p) (items_lawful l errs (any_limits Kind.Many1) p))

  pub fold_many1_steady : IsSteady w m → IsSteady w (fold_many1_meaning w errs Premise m)
  fold_many1_steady p =
      under_steady (sequence_steady l (items_steady l errs (one_limits (Fresh Kind.Many1) true) p) (items_steady l errs (any_limits Kind.Many1) p))

  pub fold_many_m_n_lawful : (least most : ℕ) → IsLawful w m → IsLawful w (fold_many_m_n_meaning w errs least most Premise m)
  fold_many_m_n_lawful least most p = under_lawful (unfit_lawful errs Kind.ManyMN false (items_lawful l errs (bounded_limits Kind.ManyMN least most) p))

  pub fold_many_m_n_steady : (least most : ℕ) → IsSteady w m → IsSteady w (fold_many_m_n_meaning w errs least most Premise m)
  fold_many_m_n_steady least most p = under_steady (unfit_steady errs Kind.ManyMN false (items_steady l errs (bounded_limits Kind.ManyMN least most) p))
