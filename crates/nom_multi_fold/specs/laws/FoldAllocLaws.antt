-- The laws of folds by closures that may take memory.
use Rattle.std.specs.Prelude.{ℕ, ◌+◌, ◌⊎◌, true, List, [], ◌∷◌, Result, Ok}
use Rattle.std.proofs.Common.{inl, inr}
use Rattle.nom_error.specs.declared.answer.OutOfMemory.{OutOfMemory}
use Rattle.nom_error.specs.declared.kind.ErrorKind.TheVariants as Kind
use Rattle.nom_internal.specs.Prelude.{Errors, Model, InputLaws, Meaning, Modes, IsLawful, IsSteady, Outcome, IsLawfulFamily, AnyKey}
use Rattle.nom_internal.specs.laws.SequenceLaws.{then_lawful, then_steady}
use Rattle.nom_repeat.specs.Items.{item_turn}
use Rattle.nom_repeat.specs.Repeat.{Pieces, TurnsBy}
use Rattle.nom_repeat.specs.laws.ItemsLaws.{items_lawful, items_steady}
use Rattle.nom_repeat.specs.Bounds.{any_limits, one_limits}
use Rattle.nom_repeat.specs.declared.items.Limits.{Limits}
use Rattle.nom_repeat.specs.declared.items.TooFew.TheVariants.{Fresh}
use Rattle.nom_multi_fold.specs.Under.{under_lawful, under_steady}
use Rattle.nom_multi_fold.specs.FoldAlloc.{FoldsWithoutMemory, LacksAt, beside, begun_meaning, folded_meaning, later_items, fold_many0_alloc_meaning}
use Rattle.nom_multi_fold.specs.FoldAlloc.{fold_many1_alloc_meaning}

module _ {I A V E : Type 0} {w : Model I A} {Lacks : Modes → I → Type 0} {Never : Modes → Type 0} {m : Meaning I V E} where
  beside_lawful : ((mode : Modes) (i : I) → Never mode → Lacks mode i → ⊥) → IsLawful w m → IsLawful w (beside Lacks Never m)
  beside_lawful never p = record {
    within = p.within;
    one_outcome = p.one_outcome;
    consistent = p.consistent;
    frugal = frugal;
    settles = p.settles;
    blames_consistent = p.blames_consistent;
    never_fails = p.never_fails;
  }
    where
      frugal : (mode : Modes) (i : I) → w.IsKnown i → m.IsFrugal mode × Never mode → m.may_run_out mode i ⊎ Lacks mode i → ⊥
      frugal mode i known f (inl h) = p.frugal mode i known f.0 h
      frugal mode i known f (inr h) = never mode i f.1 h

  beside_steady : IsSteady w m → IsSteady w (beside Lacks Never m)
  beside_steady p = record { stays = p.stays }

module _ {I A V R E : Type 0} {w : Model I A} {Inits : Result R OutOfMemory → Type 0} {m : Meaning I V E} where
  begun_lawful : IsLawful w m → IsLawful w (begun_meaning Inits m)
  begun_lawful p = beside_lawful (λ mode i n h. n h.0 h.1.lacking h.1.lacks) p

  begun_steady : IsSteady w m → IsSteady w (begun_meaning Inits m)
  begun_steady p = beside_steady p

-- where the closure lacks memory after some items, it takes some
module _ {I A V T R : Type 0} (w : Model I A) (IsOutput : V → T → Type 0) (Inits : R → Type 0) (Gives : R → T → Result R OutOfMemory → Type 0) (b : Limits)
    (Item : I → Outcome V → Type 0) (never : FoldsWithoutMemory Gives) where
  no_lack : (vs : List V) (k : ℕ) (i : I) (us : List V) (n : ℕ) →
      Pieces w (TurnsBy b.most (item_turn b) (λ _. Item)) (LacksAt IsOutput Inits Gives b Item vs) k i us n → ⊥
  no_lack vs k i [] n p = never p.1.value p.1.output p.1.lacking p.1.lacks
  no_lack vs k i (u ∷ us) n p = no_lack vs (k + 1) p.2 us p.1 p.5

module _ {I A V T R E : Type 0} {w : Model I A} (l : InputLaws w) (errs : Errors I E) {IsOutput : V → T → Type 0}
    {Gives : R → T → Result R OutOfMemory → Type 0} {m : Meaning I V E} where
  module _ (b : Limits) {Inits : R → Type 0} where
    folded_lawful : IsLawful w m → IsLawful w (folded_meaning w errs IsOutput Gives m b Inits)
    folded_lawful p = beside_lawful
        (λ mode i n h. no_lack w IsOutput Inits Gives b (m.answers mode.streaming) (n h.0) h.1.trees 0 i h.1.trees h.1.taken h.1.pieces)
        (items_lawful l errs b p)

    folded_steady : IsSteady w m → IsSteady w (folded_meaning w errs IsOutput Gives m b Inits)
    folded_steady p = beside_steady (items_steady l errs b {Grows = ⊥} p)

  later_lawful : {Inits : R → Type 0} → IsLawful w m → IsLawfulFamily w AnyKey (later_items w errs IsOutput Gives m Inits)
  later_lawful p = record {
    lawful = λ vs _. folded_lawful (any_limits Kind.Many1) p;
    frugal = λ mode h _ _. h;
    settles = λ h _ _. h;
    never_fails = λ cause h _ _. h;
  }

  module _ {Premise : Type 0} {Inits : Result R OutOfMemory → Type 0} where
    pub fold_many0_alloc_lawful : IsLawful w m → IsLawful w (fold_many0_alloc_meaning w errs IsOutput Gives m Premise Inits)
    fold_many0_alloc_lawful p = under_lawful (begun_lawful (folded_lawful (any_limits Kind.Many0) p))

    pub fold_many0_alloc_steady : IsSteady w m → IsSteady w (fold_many0_alloc_meaning w errs IsOutput Gives m Premise Inits)
    fold_many0_alloc_steady p = under_steady (begun_steady (folded_steady (any_limits Kind.Many0) p))

    pub fold_many1_alloc_lawful : IsLawful w m → IsLawful w (fold_many1_alloc_meaning w errs IsOutput Gives m Premise Inits)
    fold_many1_alloc_lawful p = under_lawful (begun_lawful (then_lawful l (later_items w errs IsOutput Gives m (λ r. Inits (Ok r)))
        (folded_lawful (one_limits (Fresh Kind.Many1) true) p) (later_lawful p)))

    pub fold_many1_alloc_steady : IsSteady w m → IsSteady w (fold_many1_alloc_meaning w errs IsOutput Gives m Premise Inits)
    fold_many1_alloc_steady p = under_steady (begun_steady (then_steady l (later_items w errs IsOutput Gives m (λ r. Inits (Ok r)))
        (folded_steady (one_limits (Fresh Kind.Many1) true) p) (λ vs. folded_steady (any_limits Kind.Many1) p)))
