-- Lemmas on the answers of `escaped_transform`.
use Rattle.std.proofs.Common.{◌≡◌, ℕ, Ok, Err, Option, Some, None, List, ◌∷◌, [], ◌++◌, refl, sym, subst}
use Rattle.std.specs.Prelude.{IsSome}
use Rattle.nom_internal.specs.Prelude.{Needed, OutOfMemory, Errors, Built, Modes, PResult, Refuses, Model, InputLaws, input_len, Meaning, Grammar}
use Rattle.nom_internal.specs.Prelude.{ShowsMeaning}
use Rattle.nom_error.specs.declared.answer.Err as Answer
use Rattle.nom_error.specs.declared.kind.ErrorKind.TheVariants as Kind
use Rattle.nom_internal.proofs.Shown.{accepts}
use Rattle.nom_repeat.specs.Repeat.{TurnsBy}
use Rattle.nom_repeat.proofs.Repeated.{Collected, is_empty, consumes}
use Rattle.nom_bytes_escaped.specs.declared.next_piece.Piece.{Piece}
use Rattle.nom_bytes_escaped.specs.declared.next_piece.NextPiece.{NextPiece}
use Rattle.nom_bytes_escaped.specs.declared.next_piece.NextPiece.TheVariants.{Found, Other, Dangling, Done}
use Rattle.nom_bytes_escaped.specs.NextPieces.{next_piece_meaning, ShowsNextPiece}
use Rattle.nom_bytes_escaped.specs.Escapes.{escape_turn, escaped_transform_meaning}
use Rattle.nom_bytes_escaped.specs.Texts.{AddAll, IsExtended}
use Rattle.nom_bytes_escaped.proofs.TextsBuilt.{some_is_built, text_extended}
use Rattle.nom_bytes_escaped.proofs.EscapeShown.{Accepted, FoundPiece, next_piece_accepted, same_next_piece, done_shown, other_shown, start_refused}
use Rattle.nom_bytes_escaped.proofs.EscapeShown.{dangling_refused, empty_shown, full_shown}
use Rattle.nom_bytes_escaped.proofs.EscapeShown.{piece_taken, passed_on, piece_found, other_found, dangling_found, done_found, taken_some}

module _ {I A U W O X E T P : Type 0} (w : Model I A) (errs : Errors I E) (IsControl : A → Type 0) (normal : Grammar I U O E) (escapable : Grammar I W X E)
    (normal_adds : O → List P) (escapable_adds : X → List P) (parts : T → List P) (mode : Modes) (i j : I) where
  abbrev pub AllAdded : List (Piece U W) → T → Type 0
  AllAdded vs t = AddAll normal.IsOutput escapable.IsOutput normal_adds escapable_adds vs (parts t)

  -- pieces were taken from i to j, and the text has what they add
  abbrev pub Gathered : Option T → Type 0
  Gathered text = Collected w (TurnsBy None escape_turn (λ _. (next_piece_meaning w IsControl None normal.meaning escapable.meaning).answers mode.streaming))
      (λ vs. Built mode.outputs (λ t. AllAdded vs t) text) i j

  -- that, and what is shown there
  pub record TransformAt (text : Option T) (r : PResult I (NextPiece (Piece (Option O) (Option X))) E) : Type 0 where
    pub laws : InputLaws w
    pub collected : Gathered text
    pub shown : ShowsNextPiece w normal.IsOutput escapable.IsOutput mode IsControl None normal.meaning escapable.meaning j r

module _ {I A U W O X E T P : Type 0} {w : Model I A} {errs : Errors I E} {IsControl : A → Type 0} {normal : Grammar I U O E} {escapable : Grammar I W X E}
    {normal_adds : O → List P} {escapable_adds : X → List P} {parts : T → List P} {mode : Modes} {i j : I} {text : Option T}
    {shows : PResult I (NextPiece (Piece (Option O) (Option X))) E}
    (k : TransformAt w errs IsControl normal escapable normal_adds escapable_adds parts mode i j text shows) where
  abbrev Part : Meaning I (NextPiece (Piece U W)) E
  Part = next_piece_meaning w IsControl None normal.meaning escapable.meaning

  abbrev Adds : List (Piece U W) → T → Type 0
  Adds = AllAdded w errs IsControl normal escapable normal_adds escapable_adds parts mode i j

  abbrev Goal : PResult I T E → Type 0
  Goal = ShowsMeaning w Adds (escaped_transform_meaning w errs IsControl normal.meaning escapable.meaning) mode i

  abbrev Gives : I → E → Type 0
  Gives k = errs.of_kind k Kind.EscapedTransform

  abbrev Shows : PResult I (NextPiece (Piece (Option O) (Option X))) E → Type 0
  Shows r = ShowsNextPiece w normal.IsOutput escapable.IsOutput mode IsControl None normal.meaning escapable.meaning j r

  pub transform_passed : {f : Answer.Err E (Option E) Needed} {r : PResult I T E} → shows ≡ Err f → r ≡ Err f → Goal r
  transform_passed {f} q e = subst (λ z. Goal z) (sym e)
      (passed_on w k.laws Gives errs.grows (λ x y. y) Part Adds mode i j k.collected _ f (subst (λ z. Shows z) q k.shown))

  module _ {h : I} {o : Option (NextPiece (Piece (Option O) (Option X)))} {y : NextPiece (Piece (Option O) (Option X))} (at : shows ≡ Ok (h, o))
      (is : o ≡ Some y) where
    t : Accepted w mode.outputs normal.IsOutput escapable.IsOutput j (Part.answers mode.streaming j) h y
    t = next_piece_accepted w mode.outputs normal.IsOutput escapable.IsOutput j (Part.answers mode.streaming j) h o y is
        (accepts (subst (λ z. Shows z) at k.shown))

    -- a piece
    module _ {x : Piece (Option O) (Option X)} (e : y ≡ Found x) where
      item : FoundPiece w mode.outputs normal.IsOutput escapable.IsOutput j (Part.answers mode.streaming j) h x
      item = piece_found w mode.outputs normal.IsOutput escapable.IsOutput j (Part.answers mode.streaming j) h y x e t

      pub transform_full : IsSome text → Goal (Err OutOfMemory)
      transform_full n = full_shown w k.laws Gives errs.grows (λ x y. y) Part Adds mode i j k.collected item.length item.tree item.answered
          (some_is_built (Adds k.collected.trees) mode.outputs text n k.collected.held)

      module _ (new : Option T) (added : IsExtended parts normal_adds escapable_adds text x new) where
        longer : Built mode.outputs (Adds (k.collected.trees ++ item.tree ∷ [])) new
        longer = text_extended normal.IsOutput escapable.IsOutput normal_adds escapable_adds parts k.collected.trees item.tree mode.outputs text x new added
            k.collected.held item.is_piece

        pub transform_empty : {b a : ℕ} → b ≡ input_len w h → a ≡ input_len w j → b ≡ a → Goal (Ok (j, new))
        transform_empty p q n = empty_shown w k.laws Gives errs.grows (λ x y. y) Part Adds mode i j k.collected item.length item.tree item.answered
            (is_empty item.rest_is p q n) new longer

        pub transform_more : {b a : ℕ} → b ≡ input_len w h → a ≡ input_len w j → (b ≡ a → ⊥) →
            Gathered w errs IsControl normal escapable normal_adds escapable_adds parts mode i h new
        transform_more p q n = piece_taken w k.laws Gives errs.grows (λ x y. y) Part Adds mode i j k.collected item.length item.tree h item.answered
            (consumes item.rest_is p q n) item.rest_is longer

    pub transform_none : y ≡ Other → {b a : ℕ} → b ≡ input_len w j → a ≡ input_len w i → b ≡ a → {f : Answer.Err E (Option E) Needed} →
        Refuses (Gives i) errs.grows mode.errors f → Goal (Err f)
    transform_none e p q n {f} r = start_refused w k.laws Gives errs.grows (λ x y. y) Part Adds mode i j k.collected t.length
        (other_found w mode.outputs normal.IsOutput escapable.IsOutput j (Part.answers mode.streaming j) h y e t) (is_empty k.collected.rest_is p q n) f r

    pub transform_other : y ≡ Other → {b a : ℕ} → b ≡ input_len w j → a ≡ input_len w i → (b ≡ a → ⊥) → Goal (Ok (j, text))
    transform_other e {b} {a} p q n = other_shown w k.laws Gives errs.grows (λ x y. y) Part Adds mode i j k.collected t.length
        (other_found w mode.outputs normal.IsOutput escapable.IsOutput j (Part.answers mode.streaming j) h y e t)
        (taken_some w i k.collected.taken j a b k.collected.rest_is p q n) text k.collected.held

    pub transform_dangling : y ≡ Dangling → {f : Answer.Err E (Option E) Needed} → Refuses (Gives j) errs.grows mode.errors f → Goal (Err f)
    transform_dangling e {f} r = dangling_refused w k.laws Gives errs.grows (λ x y. y) Part Adds mode i j k.collected t.length
        (dangling_found w mode.outputs normal.IsOutput escapable.IsOutput j (Part.answers mode.streaming j) h y e t) f r

    pub transform_done : y ≡ Done → Goal (Ok (j, text))
    transform_done e = done_shown w k.laws Gives errs.grows (λ x y. y) Part Adds mode i j k.collected t.length
        (done_found w mode.outputs normal.IsOutput escapable.IsOutput j (Part.answers mode.streaming j) h y e t) text k.collected.held

-- the same at equal states of the parts and an equal control character
pub transform_at : {S R I A U W O X E T P : Type 0} {w : Model I A} (l : InputLaws w) (errs : Errors I E) (normal : S → Grammar I U O E)
    (escapable : R → Grammar I W X E) (normal_adds : O → List P) (escapable_adds : X → List P) (parts : T → List P) (IsControl : ℕ → A → Type 0)
    {mode : Modes} {i j : I} {text : Option T} {r : PResult I (NextPiece (Piece (Option O) (Option X))) E} {a b : S} {x y : ℕ} {c d : R} → a ≡ b → x ≡ y →
    c ≡ d → Gathered w errs (IsControl y) (normal b) (escapable d) normal_adds escapable_adds parts mode i j text →
    ShowsNextPiece w (normal a).IsOutput (escapable c).IsOutput mode (IsControl x) None (normal a).meaning (escapable c).meaning j r →
    TransformAt w errs (IsControl y) (normal b) (escapable d) normal_adds escapable_adds parts mode i j text r
transform_at {w = w} l errs normal escapable normal_adds escapable_adds parts IsControl {mode} {j = j} {r = r} {a} {b} {x} {y} {c} {d} p q t collected h =
    record { laws = l; collected = collected; shown = same_next_piece w normal escapable mode IsControl j r a b x y c d None None p q t refl h }
