-- The words of lists.
use Rattle.std.specs.Prelude.{◌≡◌, ℕ, Vec}
use Rattle.std.proofs.Common.{ap, ap₂}
use Rattle.nom_error.specs.Errors.{Errors}
use Rattle.nom_traits.specs.Input.{Model}
use Rattle.nom_internal.specs.Word.{Word, word}
use Rattle.nom_multi.specs.Bounded as Bounded
use Rattle.nom_multi.specs.Fill as Fill
use Rattle.nom_multi.specs.Many as Many
use Rattle.nom_multi.specs.Till as Till

module _ {I A O M E : Type 0} (w : Model I A) (errs : Errors I E) where
  pub many0_of : Word I O E → Word I (Vec O M) E
  many0_of g = word (Many.many0_of w errs g.grammar)

  module _ {g h : Word I O E} where
    pub many0_worded : g ≡ h → many0_of g ≡ word (Many.many0_of w errs h.grammar)
    unfolding many0_of
    many0_worded p = ap many0_of p

    pub many0_same : g ≡ h → many0_of g ≡ many0_of h
    many0_same p = ap many0_of p

  pub many1_of : Word I O E → Word I (Vec O M) E
  many1_of g = word (Many.many1_of w errs g.grammar)

  module _ {g h : Word I O E} where
    pub many1_worded : g ≡ h → many1_of g ≡ word (Many.many1_of w errs h.grammar)
    unfolding many1_of
    many1_worded p = ap many1_of p

    pub many1_same : g ≡ h → many1_of g ≡ many1_of h
    many1_same p = ap many1_of p

  pub count_of : ℕ → Word I O E → Word I (Vec O M) E
  count_of n g = word (Bounded.count_of w errs n g.grammar)

  module _ {g h : Word I O E} where
    pub count_worded : (n : ℕ) → g ≡ h → count_of n g ≡ word (Bounded.count_of w errs n h.grammar)
    unfolding count_of
    count_worded n p = ap (count_of n) p

    pub count_same : {n n' : ℕ} → n ≡ n' → g ≡ h → count_of n g ≡ count_of n' h
    count_same q p = ap₂ count_of q p

  pub many_m_n_of : ℕ → ℕ → Word I O E → Word I (Vec O M) E
  many_m_n_of least most g = word (Bounded.many_m_n_of w errs least most g.grammar)

  module _ {g h : Word I O E} where
    pub many_m_n_worded : (least most : ℕ) → g ≡ h → many_m_n_of least most g ≡ word (Bounded.many_m_n_of w errs least most h.grammar)
    unfolding many_m_n_of
    many_m_n_worded least most p = ap (many_m_n_of least most) p

    pub many_m_n_same : {least least' most most' : ℕ} → least ≡ least' → most ≡ most' → g ≡ h → many_m_n_of least most g ≡ many_m_n_of least' most' h
    many_m_n_same a b p = λ i. many_m_n_of (a i) (b i) (p i)

module _ {I A O P M E : Type 0} (w : Model I A) (errs : Errors I E) where
  pub many_till_of : Word I O E → Word I P E → Word I (Vec O M × P) E
  many_till_of g end = word (Till.many_till_of w errs g.grammar end.grammar)

  module _ {g h : Word I O E} {k l : Word I P E} where
    pub many_till_worded : g ≡ h → k ≡ l → many_till_of g k ≡ word (Till.many_till_of w errs h.grammar l.grammar)
    unfolding many_till_of
    many_till_worded p q = ap₂ many_till_of p q

    pub many_till_same : g ≡ h → k ≡ l → many_till_of g k ≡ many_till_of h l
    many_till_same p q = ap₂ many_till_of p q

-- as many items as a buffer has room for
module _ {I A O E : Type 0} (w : Model I A) (errs : Errors I E) where
  pub fill_of : ℕ → Word I O E → Word I (Unit {0}) E
  fill_of n g = word (Fill.fill_of w errs n g.grammar)

  module _ {g h : Word I O E} where
    pub fill_worded : (n : ℕ) → g ≡ h → fill_of n g ≡ word (Fill.fill_of w errs n h.grammar)
    unfolding fill_of
    fill_worded n p = ap (fill_of n) p

    pub fill_same : {n n' : ℕ} → n ≡ n' → g ≡ h → fill_of n g ≡ fill_of n' h
    fill_same q p = ap₂ fill_of q p
