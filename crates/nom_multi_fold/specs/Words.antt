-- The words of counts and folds.
use Rattle.std.specs.Prelude.{◌≡◌, ℕ, List}
use Rattle.std.proofs.Common.{refl, ap, ap₂}
use Rattle.std.specs.declared.ops.Bound.{Bound}
use Rattle.nom_error.specs.Errors.{Errors}
use Rattle.nom_traits.specs.Input.{Model}
use Rattle.nom_internal.specs.Word.{Word, word}
use Rattle.nom_multi_fold.specs.Counts as Counts
use Rattle.nom_multi_fold.specs.Dropped.{dropped_meaning}
use Rattle.nom_multi_fold.specs.Folds as Folds
use Rattle.nom_multi_fold.specs.Folds.{AreCallable}
use Rattle.nom_multi_fold.specs.Ranges as Ranges

-- a part of which nothing is built
module _ {I O E : Type 0} where
  pub dropped_of : Word I O E → Word I (Unit {0}) E
  dropped_of g = word (record { meaning = dropped_meaning g.grammar.meaning; IsOutput = λ _ _. Unit {0} })

  module _ {g h : Word I O E} where
    pub dropped_worded : g ≡ h → dropped_of g ≡ word (record { meaning = dropped_meaning h.grammar.meaning; IsOutput = λ _ _. Unit {0} })
    unfolding dropped_of
    dropped_worded p = ap dropped_of p

    pub dropped_same : g ≡ h → dropped_of g ≡ dropped_of h
    dropped_same p = ap dropped_of p

module _ {I A O E : Type 0} (w : Model I A) (errs : Errors I E) where
  pub many0_count_of : Word I O E → Word I ℕ E
  many0_count_of g = word (Counts.many0_count_of w errs g.grammar)

  module _ {g h : Word I O E} where
    pub many0_count_worded : g ≡ h → many0_count_of g ≡ word (Counts.many0_count_of w errs h.grammar)
    unfolding many0_count_of
    many0_count_worded p = ap many0_count_of p

    pub many0_count_same : g ≡ h → many0_count_of g ≡ many0_count_of h
    many0_count_same p = ap many0_count_of p

  pub many1_count_of : Word I O E → Word I ℕ E
  many1_count_of g = word (Counts.many1_count_of w errs g.grammar)

  module _ {g h : Word I O E} where
    pub many1_count_worded : g ≡ h → many1_count_of g ≡ word (Counts.many1_count_of w errs h.grammar)
    unfolding many1_count_of
    many1_count_worded p = ap many1_count_of p

    pub many1_count_same : g ≡ h → many1_count_of g ≡ many1_count_of h
    many1_count_same p = ap many1_count_of p

  pub many_m_n_count_of : ℕ → ℕ → Word I O E → Word I ℕ E
  many_m_n_count_of least most g = word (Counts.many_m_n_count_of w errs least most g.grammar)

  module _ {g h : Word I O E} where
    pub many_m_n_count_worded : (least most : ℕ) → g ≡ h → many_m_n_count_of least most g ≡ word (Counts.many_m_n_count_of w errs least most h.grammar)
    unfolding many_m_n_count_of
    many_m_n_count_worded least most p = ap (many_m_n_count_of least most) p

    pub many_m_n_count_same : {least least' most most' : ℕ} → least ≡ least' → most ≡ most' → g ≡ h →
        many_m_n_count_of least most g ≡ many_m_n_count_of least' most' h
    many_m_n_count_same a b p = λ i. many_m_n_count_of (a i) (b i) (p i)

-- The two closures of a fold: when the first can be called, what the second takes, which first values and which next values they make.
-- As one closed term they are compared by themselves, beside parts that are rewritten.
pub record Folding (O R S : Type 0) : Type 1 where
  pub CanInit : Type 0
  pub Takes : R → O → Type 0
  pub Inits : S → Type 0
  pub Gives : R → O → S → Type 0

module _ {O R S : Type 0} where
  pub folding : Type 0 → (R → O → Type 0) → (S → Type 0) → (R → O → S → Type 0) → Folding O R S
  folding CanInit Takes Inits Gives = record { CanInit = CanInit; Takes = Takes; Inits = Inits; Gives = Gives }

  pub folding_is : (CanInit : Type 0) (Takes : R → O → Type 0) (Inits : S → Type 0) (Gives : R → O → S → Type 0) → folding CanInit Takes Inits Gives ≡
      record { CanInit = CanInit; Takes = Takes; Inits = Inits; Gives = Gives }
  unfolding folding
  folding_is CanInit Takes Inits Gives = refl

module _ {I A O R E : Type 0} (w : Model I A) (errs : Errors I E) where
  pub fold_many0_of : Folding O R R → Word I O E → Word I R E
  fold_many0_of f g = word (Folds.fold_many0_by w errs (AreCallable f.CanInit f.Takes) f.Inits f.Gives g.grammar)

  pub fold_many1_of : Folding O R R → Word I O E → Word I R E
  fold_many1_of f g = word (Folds.fold_many1_by w errs (AreCallable f.CanInit f.Takes) f.Inits f.Gives g.grammar)

  pub fold_many_m_n_of : ℕ → ℕ → Folding O R R → Word I O E → Word I R E
  fold_many_m_n_of least most f g = word (Folds.fold_many_m_n_by w errs (AreCallable f.CanInit f.Takes) f.Inits f.Gives g.grammar least most)

  -- by a range of counts
  pub fold_of : Type 0 → Bound ℕ → Bound ℕ → Folding O R R → Word I O E → Word I R E
  fold_of IsSpent lower upper f g = word (Ranges.fold_by w errs IsSpent lower upper (AreCallable f.CanInit f.Takes) f.Inits f.Gives g.grammar)

  module _ {g h : Word I O E} where
    module _ (CanInit : Type 0) (Takes : R → O → Type 0) (Inits : R → Type 0) (Gives : R → O → R → Type 0) where
      pub fold_many0_worded : g ≡ h → fold_many0_of (folding CanInit Takes Inits Gives) g ≡
          word (Folds.fold_many0_by w errs (AreCallable CanInit Takes) Inits Gives h.grammar)
      unfolding fold_many0_of folding
      fold_many0_worded p = ap (fold_many0_of (folding CanInit Takes Inits Gives)) p

      pub fold_many1_worded : g ≡ h → fold_many1_of (folding CanInit Takes Inits Gives) g ≡
          word (Folds.fold_many1_by w errs (AreCallable CanInit Takes) Inits Gives h.grammar)
      unfolding fold_many1_of folding
      fold_many1_worded p = ap (fold_many1_of (folding CanInit Takes Inits Gives)) p

      pub fold_many_m_n_worded : (least most : ℕ) → g ≡ h → fold_many_m_n_of least most (folding CanInit Takes Inits Gives) g ≡
          word (Folds.fold_many_m_n_by w errs (AreCallable CanInit Takes) Inits Gives h.grammar least most)
      unfolding fold_many_m_n_of folding
      fold_many_m_n_worded least most p = ap (fold_many_m_n_of least most (folding CanInit Takes Inits Gives)) p

      pub fold_worded : (IsSpent : Type 0) (lower upper : Bound ℕ) → g ≡ h → fold_of IsSpent lower upper (folding CanInit Takes Inits Gives) g ≡
          word (Ranges.fold_by w errs IsSpent lower upper (AreCallable CanInit Takes) Inits Gives h.grammar)
      unfolding fold_of folding
      fold_worded IsSpent lower upper p = ap (fold_of IsSpent lower upper (folding CanInit Takes Inits Gives)) p

    module _ {f f' : Folding O R R} where
      pub fold_many0_same : f ≡ f' → g ≡ h → fold_many0_of f g ≡ fold_many0_of f' h
      fold_many0_same q p = ap₂ fold_many0_of q p

      pub fold_many1_same : f ≡ f' → g ≡ h → fold_many1_of f g ≡ fold_many1_of f' h
      fold_many1_same q p = ap₂ fold_many1_of q p

      pub fold_many_m_n_same : {least least' most most' : ℕ} → least ≡ least' → most ≡ most' → f ≡ f' → g ≡ h →
          fold_many_m_n_of least most f g ≡ fold_many_m_n_of least' most' f' h
      fold_many_m_n_same a b q p = λ i. fold_many_m_n_of (a i) (b i) (q i) (p i)

      pub fold_same : {IsSpent IsSpent' : Type 0} {lower lower' upper upper' : Bound ℕ} → IsSpent ≡ IsSpent' → lower ≡ lower' → upper ≡ upper' →
          f ≡ f' → g ≡ h → fold_of IsSpent lower upper f g ≡ fold_of IsSpent' lower' upper' f' h
      fold_same a b c q p = λ i. fold_of (a i) (b i) (c i) (q i) (p i)

-- a collection of items, by a range of counts
module _ {I A O C E : Type 0} (w : Model I A) (errs : Errors I E) (items : C → List O) where
  pub many_of : Type 0 → Bound ℕ → Bound ℕ → Word I O E → Word I C E
  many_of IsSpent lower upper g = word (Ranges.many_of w errs IsSpent lower upper items g.grammar)

  module _ {g h : Word I O E} where
    pub many_worded : (IsSpent : Type 0) (lower upper : Bound ℕ) → g ≡ h → many_of IsSpent lower upper g ≡
        word (Ranges.many_of w errs IsSpent lower upper items h.grammar)
    unfolding many_of
    many_worded IsSpent lower upper p = ap (many_of IsSpent lower upper) p

    pub many_same : {IsSpent IsSpent' : Type 0} {lower lower' upper upper' : Bound ℕ} → IsSpent ≡ IsSpent' → lower ≡ lower' → upper ≡ upper' → g ≡ h →
        many_of IsSpent lower upper g ≡ many_of IsSpent' lower' upper' h
    many_same a b c p = λ i. many_of (a i) (b i) (c i) (p i)
