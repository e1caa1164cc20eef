-- Folds of items.
use Rattle.std.specs.Prelude.{◌≡◌, ℕ, ◌<◌, false, true, List, ◌++◌}
use Rattle.std.specs.List.{AllZip, FoldsTo}
use Rattle.nom_internal.specs.Prelude.{Errors, Model, View, Meaning, sequence_meaning, Grammar}
use Rattle.nom_error.specs.declared.kind.ErrorKind.TheVariants as Kind
use Rattle.nom_repeat.specs.Items.{items_meaning}
use Rattle.nom_repeat.specs.declared.items.TooFew.TheVariants.{Fresh}
use Rattle.nom_multi_fold.specs.Under.{under}
use Rattle.nom_multi_fold.specs.Unfit.{unfit}
use Rattle.nom_repeat.specs.Bounds.{any_limits, one_limits, bounded_limits}

-- From a first value, the outputs of the items take it from left to right, one after another, to the value of the fold.
pub record Folds {V T R : Type 0} (IsOutput : V → T → Type 0) (Inits : R → Type 0) (Gives : R → T → R → Type 0) (vs : List V) (r : R) : Type 0 where
  pub first : R
  pub is_first : Inits first
  pub outputs : List T
  pub are_outputs : AllZip IsOutput vs outputs
  pub folded : FoldsTo Gives first outputs r

-- the premise: a first value can be made, and any value and any item can be folded
pub record AreCallable {T R : Type 0} (CanInit : Type 0) (Takes : R → T → Type 0) : Type 0 where
  pub can_init : CanInit
  pub takes : (r : R) (x : T) → Takes r x

-- First values are equal as viewed, and so are the results for values and items that are. No verdict rests on it: it is asked only
-- where outputs are compared.
pub record FoldsConsistently {T R : Type 0} (item : View T) (value : View R) (Inits : R → Type 0) (Gives : R → T → R → Type 0) : Type 0 where
  pub first : (a b : R) → Inits a → Inits b → value.value a ≡ value.value b
  pub next : (a b : R) (x y : T) (c d : R) → value.value a ≡ value.value b → item.value x ≡ item.value y → Gives a x c → Gives b y d →
      value.value c ≡ value.value d

-- Any number of items; one that consumes nothing is refused. Carrying a value takes no memory.
abbrev pub fold_many0_meaning : {I A V E : Type 0} → Model I A → Errors I E → Type 0 → Meaning I V E → Meaning I (List V) E
fold_many0_meaning w errs Premise m = under Premise (items_meaning w errs (any_limits Kind.Many0) ⊥ m)

-- One item at least: a first one, whose refusal is one of the kind at the start, and which may be empty; and then any number.
abbrev pub fold_many1_meaning : {I A V E : Type 0} → Model I A → Errors I E → Type 0 → Meaning I V E → Meaning I (List V) E
fold_many1_meaning w errs Premise m =
    under Premise (sequence_meaning w (λ vs us. vs ++ us) (λ o. o) (λ o. o) (items_meaning w errs (one_limits (Fresh Kind.Many1) true) ⊥ m)
    (items_meaning w errs (any_limits Kind.Many1) ⊥ m))

-- Items within two bounds, none of them empty. Where one is refused before the least number, the kind is added at its place.
-- Bounds that are the wrong way round are a refusal.
abbrev pub fold_many_m_n_meaning : {I A V E : Type 0} → Model I A → Errors I E → ℕ → ℕ → Type 0 → Meaning I V E → Meaning I (List V) E
fold_many_m_n_meaning w errs least most Premise m =
    under Premise (unfit errs Kind.ManyMN false (most < least) (items_meaning w errs (bounded_limits Kind.ManyMN least most) ⊥ m))

-- items of a grammar, folded by closures: which items and values they take, which first value they make, and what they give
module _ {I A V O R E : Type 0} (w : Model I A) (errs : Errors I E) (Premise : Type 0) (Inits : R → Type 0) (Gives : R → O → R → Type 0)
    (g : Grammar I V O E) where
  abbrev pub fold_many0_by : Grammar I (List V) R E
  fold_many0_by = record { meaning = fold_many0_meaning w errs Premise g.meaning; IsOutput = Folds g.IsOutput Inits Gives }

  abbrev pub fold_many1_by : Grammar I (List V) R E
  fold_many1_by = record { meaning = fold_many1_meaning w errs Premise g.meaning; IsOutput = Folds g.IsOutput Inits Gives }

  abbrev pub fold_many_m_n_by : ℕ → ℕ → Grammar I (List V) R E
  fold_many_m_n_by least most = record {
    meaning = fold_many_m_n_meaning w errs least most Premise g.meaning;
    IsOutput = Folds g.IsOutput Inits Gives;
  }
