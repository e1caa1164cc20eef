-- The next piece of a text with escapes: where an item is left, a normal piece, otherwise the control character and after
-- it an escapable piece.
use Rattle.std.specs.Prelude.{◌≡◌, ℕ, ◌<◌, Bool, true, false, List, [], ◌∷◌, length, Option, Some, None, Ok, Err}
use Rattle.nom_internal.specs.Prelude.{PResult, Needed, Incomplete, Built, Modes, with_outputs, Model, IsSuffixOf, ShowsAnswer, Meaning, Leaf, leaf_meaning}
use Rattle.nom_internal.specs.Prelude.{success_meaning, Family, then_meaning, otherwise_meaning, labelled_meaning}
use Rattle.nom_bytes_escaped.specs.declared.next_piece.Control.{Control}
use Rattle.nom_bytes_escaped.specs.declared.next_piece.Piece.{Piece}
use Rattle.nom_bytes_escaped.specs.declared.next_piece.Piece.TheVariants.{Normal, Escapable}
use Rattle.nom_bytes_escaped.specs.declared.next_piece.NextPiece.{NextPiece}
use Rattle.nom_bytes_escaped.specs.declared.next_piece.NextPiece.TheVariants.{Found, Other, Dangling, Done}

-- a leaf that refuses nothing
abbrev pub look : {I V E : Type 0} → Leaf I V → Meaning I V E
look leaf = leaf_meaning (λ i e. ⊥) ⊥ leaf

-- whether an item is left
abbrev pub IsLeft : {A : Type 0} → Bool → List A → Bool → Type 0
IsLeft s xs true = 0 < length xs
IsLeft s xs false = (s ≡ false) × (length xs ≡ 0)

-- Whether an item is left; where none is, and more may come, that isn't settled, and nobody knows how much is needed.
abbrev pub left_leaf : {I A : Type 0} → Model I A → Leaf I Bool
left_leaf w = record {
  Accepts = λ s i n v. (n ≡ 0) × IsLeft s (w.elements i) v;
  Refuses = λ s i. ⊥;
  Lacks = λ i k. (length (w.elements i) ≡ 0) × (k ≡ None);
}

module _ {I A : Type 0} (w : Model I A) (IsControl : A → Type 0) where
  -- at i the control character stands, items follow it, and of the rest after it the fact holds
  pub record AfterControl (Fact : I → Type 0) (i : I) : Type 0 where
    pub item : A
    pub items : List A
    pub elements_are : w.elements i ≡ item ∷ items
    pub is_control : IsControl item
    pub some : 0 < length items
    pub rest : I
    pub rest_is : IsSuffixOf w i (w.item_len item) rest
    pub fact : Fact rest

-- an item stands at i, and it isn't the control character
pub record StandsOther {I A : Type 0} (w : Model I A) (IsControl : A → Type 0) (i : I) : Type 0 where
  pub item : A
  pub items : List A
  pub elements_are : w.elements i ≡ item ∷ items
  pub is_other : IsControl item → ⊥

-- the control character is the last item of i
pub record StandsLast {I A : Type 0} (w : Model I A) (IsControl : A → Type 0) (i : I) : Type 0 where
  pub item : A
  pub elements_are : w.elements i ≡ item ∷ []
  pub is_control : IsControl item

-- what is told of the first item of i
abbrev pub IsControlAt : {I A : Type 0} → Model I A → (A → Type 0) → I → Control I → Type 0
IsControlAt w IsControl i Control.None = StandsOther w IsControl i
IsControlAt w IsControl i Control.Last = StandsLast w IsControl i
IsControlAt w IsControl i (Control.Before j) = AfterControl w IsControl (λ x. x ≡ j) i

-- the first item of i, of length n, is the control character, and items follow it
pub record StandsBefore {I A : Type 0} (w : Model I A) (IsControl : A → Type 0) (i : I) (n : ℕ) : Type 0 where
  pub item : A
  pub items : List A
  pub elements_are : w.elements i ≡ item ∷ items
  pub is_control : IsControl item
  pub some : 0 < length items
  pub length_is : n ≡ w.item_len item

-- what is told of the first item, and what is consumed of it
abbrev pub TellsControl : {I A : Type 0} → Model I A → (A → Type 0) → Bool → I → ℕ → Control (Unit {0}) → Type 0
TellsControl w IsControl s i n Control.None = (n ≡ 0) × StandsOther w IsControl i
TellsControl w IsControl s i n Control.Last = (n ≡ 0) × (s ≡ false) × StandsLast w IsControl i
TellsControl w IsControl s i n (Control.Before u) = StandsBefore w IsControl i n

-- Whether the first item is the control character. As the last item it lacks what follows it, where more may come.
abbrev pub control_leaf : {I A : Type 0} → Model I A → (A → Type 0) → Option ℕ → Leaf I (Control (Unit {0}))
control_leaf w IsControl lack = record {
  Accepts = TellsControl w IsControl;
  Refuses = λ s i. ⊥;
  Lacks = λ i k. StandsLast w IsControl i × (k ≡ lack);
}

-- what follows by what the first item is: after the control character an escapable piece
abbrev pub by_control : {I U W E : Type 0} → Meaning I W E → Control (Unit {0}) → Meaning I (NextPiece (Piece U W)) E
by_control g Control.None = success_meaning Other
by_control g Control.Last = success_meaning Dangling
by_control g (Control.Before u) = labelled_meaning (λ v. Found (Escapable v)) g

abbrev pub after_control : {I U W E : Type 0} → Meaning I W E → Family (Control (Unit {0})) I (NextPiece (Piece U W)) E
after_control g = record { at = by_control g; Runs = g.Runs; IsSound = g.IsSound; IsFrugal = g.IsFrugal; Settles = g.Settles; NeverFails = g.NeverFails }

-- the control character, and after it an escapable piece
abbrev pub escape_meaning : {I A U W E : Type 0} → Model I A → (A → Type 0) → Option ℕ → Meaning I W E → Meaning I (NextPiece (Piece U W)) E
escape_meaning w IsControl lack g = then_meaning w (λ _ t. t) (λ b. b) (λ b. b) (look (control_leaf w IsControl lack)) (after_control g)

-- a normal piece, otherwise the control character and after it an escapable piece
abbrev pub piece_meaning : {I A U W E : Type 0} → Model I A → (A → Type 0) → Option ℕ → Meaning I U E → Meaning I W E → Meaning I (NextPiece (Piece U W)) E
piece_meaning w IsControl lack m g = otherwise_meaning (labelled_meaning (λ u. Found (Normal u)) m) (escape_meaning w IsControl lack g)

-- what follows, by whether an item is left
abbrev pub by_left : {I V E : Type 0} → V → Meaning I V E → Bool → Meaning I V E
by_left done m true = m
by_left done m false = success_meaning done

abbrev pub where_left : {I V E : Type 0} → V → Meaning I V E → Family Bool I V E
where_left done m = record { at = by_left done m; Runs = m.Runs; IsSound = m.IsSound; IsFrugal = m.IsFrugal; Settles = m.Settles; NeverFails = m.NeverFails }

-- A piece, where an item is left. The size that lacks after a last control character is `lack`.
abbrev pub next_piece_meaning : {I A U W E : Type 0} → Model I A → (A → Type 0) → Option ℕ → Meaning I U E → Meaning I W E → Meaning I (NextPiece (Piece U W)) E
next_piece_meaning w IsControl lack m g = then_meaning w (λ _ t. t) (λ b. b) (λ b. b) (look (left_leaf w))
    (where_left Done (piece_meaning w IsControl lack m g))

module _ {U W O X : Type 0} (outputs : Bool) (IsNormal : U → O → Type 0) (IsEscapable : W → X → Type 0) where
  -- which value a piece stands for, where outputs are built
  abbrev pub IsPiece : Piece U W → Piece (Option O) (Option X) → Type 0
  IsPiece (Normal u) (Normal b) = Built outputs (IsNormal u) b
  IsPiece (Normal u) (Escapable b) = ⊥
  IsPiece (Escapable u) (Normal b) = ⊥
  IsPiece (Escapable u) (Escapable b) = Built outputs (IsEscapable u) b

  abbrev pub IsNextPiece : NextPiece (Piece U W) → NextPiece (Piece (Option O) (Option X)) → Type 0
  IsNextPiece (Found v) (Found b) = IsPiece v b
  IsNextPiece (Found v) Other = ⊥
  IsNextPiece (Found v) Dangling = ⊥
  IsNextPiece (Found v) Done = ⊥
  IsNextPiece Other b = b ≡ Other
  IsNextPiece Dangling b = b ≡ Dangling
  IsNextPiece Done b = b ≡ Done

-- what is returned for what stands at i: it is told always, and its values where outputs are built
abbrev pub ShowsNextPiece : {I A U W O X E : Type 0} → Model I A → (U → O → Type 0) → (W → X → Type 0) → Modes → (A → Type 0) → Option ℕ → Meaning I U E →
    Meaning I W E → I → PResult I (NextPiece (Piece (Option O) (Option X))) E → Type 0
ShowsNextPiece w IsNormal IsEscapable mode IsControl lack m g i r =
    ShowsAnswer w (IsNextPiece mode.outputs IsNormal IsEscapable) (with_outputs true mode) i
    ((next_piece_meaning w IsControl lack m g).answers mode.streaming i)
    ((next_piece_meaning w IsControl lack m g).blames mode.streaming i) ((next_piece_meaning w IsControl lack m g).may_run_out mode i) r

-- what is returned where an input ends at i
abbrev pub Lacks : {I T E : Type 0} → Bool → Needed → I → T → PResult I T E → Type 0
Lacks true size i next_piece r = r ≡ Err (Incomplete size)
Lacks false size i next_piece r = r ≡ Ok (i, Some next_piece)
