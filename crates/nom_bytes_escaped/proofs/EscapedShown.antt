-- Lemmas on the answers of `escaped`.
use Rattle.std.proofs.Common.{◌≡◌, ℕ, Bool, false, Ok, Err, Option, Some, None, List, refl, sym, subst}
use Rattle.nom_internal.specs.Prelude.{Needed, Errors, Built, modes, PResult, Refuses, Model, InputLaws, IsSuffixOf, input_len, Slice, IsFirst}
use Rattle.nom_internal.specs.Prelude.{IsModelledBy, Meaning, Grammar, ShowsMeaning, always}
use Rattle.nom_error.specs.declared.answer.Err as Answer
use Rattle.nom_error.specs.declared.kind.ErrorKind.TheVariants as Kind
use Rattle.nom_internal.proofs.Shown.{accepts}
use Rattle.nom_internal.proofs.Consumed.{recognized_err, recognized_ok}
use Rattle.nom_repeat.specs.Repeat.{TurnsBy, repeat_meaning}
use Rattle.nom_repeat.proofs.Repeated.{Collected, is_empty, consumes}
use Rattle.nom_bytes_escaped.specs.declared.next_piece.Piece.{Piece}
use Rattle.nom_bytes_escaped.specs.declared.next_piece.NextPiece.{NextPiece}
use Rattle.nom_bytes_escaped.specs.declared.next_piece.NextPiece.TheVariants.{Found, Other, Dangling, Done}
use Rattle.nom_bytes_escaped.specs.NextPieces.{next_piece_meaning, ShowsNextPiece}
use Rattle.nom_bytes_escaped.specs.Escapes.{escape_turn, escape_rule, all_pieces, escaped_meaning}
use Rattle.nom_bytes_escaped.proofs.EscapeShown.{AnyPieces, NoValue, Accepted, next_piece_accepted, done_shown, other_shown, start_refused, dangling_refused}
use Rattle.nom_bytes_escaped.proofs.EscapeShown.{empty_shown, same_next_piece}
use Rattle.nom_bytes_escaped.proofs.EscapeShown.{piece_taken, passed_on, piece_found, other_found, dangling_found, done_found, taken_some}

-- pieces were taken from i to j, and what is shown there
pub record EscapedAt {I A U W O X E : Type 0} (w : Model I A) (errs : Errors I E) (IsControl : A → Type 0) (normal : Grammar I U O E)
    (escapable : Grammar I W X E) (errors streaming : Bool) (i j : I) (r : PResult I (NextPiece (Piece (Option O) (Option X))) E) : Type 0 where
  pub laws : InputLaws w
  pub collected : Collected w (TurnsBy None escape_turn
      (λ _. (next_piece_meaning w IsControl (Some 1) normal.meaning escapable.meaning).answers streaming)) AnyPieces i j
  pub shown : ShowsNextPiece w normal.IsOutput escapable.IsOutput (modes false errors streaming) IsControl (Some 1) normal.meaning escapable.meaning j r

module _ {I A U W O X E : Type 0} {w : Model I A} {errs : Errors I E} {IsControl : A → Type 0} {normal : Grammar I U O E} {escapable : Grammar I W X E}
    {errors streaming : Bool} {i j : I} {shows : PResult I (NextPiece (Piece (Option O) (Option X))) E}
    (k : EscapedAt w errs IsControl normal escapable errors streaming i j shows) (outputs : Bool) where
  abbrev Part : Meaning I (NextPiece (Piece U W)) E
  Part = next_piece_meaning w IsControl (Some 1) normal.meaning escapable.meaning

  abbrev Goal : PResult I I E → Type 0
  Goal = ShowsMeaning w (IsModelledBy w) (escaped_meaning w errs IsControl normal.meaning escapable.meaning) (modes outputs errors streaming) i

  -- the slice before a place
  abbrev SliceBefore : I → Option I → Type 0
  SliceBefore h z = (n : ℕ) (t : Slice w) → IsSuffixOf w i n h → IsFirst w i n t → Built outputs (IsModelledBy w t) z

  abbrev Gives : I → E → Type 0
  Gives k = errs.of_kind k Kind.Escaped

  abbrev AllPieces : Meaning I (List (Piece U W)) E
  AllPieces = repeat_meaning w (escape_rule Gives errs.grows (λ x y. x)) all_pieces (always Part)

  abbrev Inner : PResult I (Unit {0}) E → Type 0
  Inner = ShowsMeaning w NoValue AllPieces (modes false errors streaming) i

  abbrev Shows : PResult I (NextPiece (Piece (Option O) (Option X))) E → Type 0
  Shows = ShowsNextPiece w normal.IsOutput escapable.IsOutput (modes false errors streaming) IsControl (Some 1) normal.meaning escapable.meaning j

  given : (z : Option I) → Inner (Ok (j, None)) → SliceBefore j z → Goal (Ok (j, z))
  given z h f = recognized_ok w NoValue AllPieces (modes outputs errors streaming) i j None z h f

  fault : (f : Answer.Err E (Option E) Needed) → Inner (Err f) → Goal (Err f)
  fault f h = recognized_err w NoValue AllPieces (modes outputs errors streaming) i f h

  pub escaped_passed : {f : Answer.Err E (Option E) Needed} {r : PResult I I E} → shows ≡ Err f → r ≡ Err f → Goal r
  escaped_passed {f} q e = subst (λ z. Goal z) (sym e)
      (fault f (passed_on w k.laws Gives errs.grows (λ x y. x) Part NoValue (modes false errors streaming) i j k.collected _ f
      (subst (λ z. Shows z) q k.shown)))

  module _ {h : I} {o : Option (NextPiece (Piece (Option O) (Option X)))} {y : NextPiece (Piece (Option O) (Option X))} (at : shows ≡ Ok (h, o))
      (is : o ≡ Some y) where
    t : Accepted w false normal.IsOutput escapable.IsOutput j (Part.answers streaming j) h y
    t = next_piece_accepted w false normal.IsOutput escapable.IsOutput j (Part.answers streaming j) h o y is
        (accepts (subst (λ z. Shows z) at k.shown))

    pub escaped_empty : {x : Piece (Option O) (Option X)} → y ≡ Found x → {b a : ℕ} → b ≡ input_len w h → a ≡ input_len w j → b ≡ a → {z : Option I} →
        SliceBefore j z → Goal (Ok (j, z))
    escaped_empty {x} e p q n {z} f =
        let item = piece_found w false normal.IsOutput escapable.IsOutput j (Part.answers streaming j) h y x e t in
        given z (empty_shown w k.laws Gives errs.grows (λ x y. x) Part NoValue (modes false errors streaming) i j k.collected item.length item.tree
        item.answered (is_empty item.rest_is p q n) None refl) f

    pub escaped_more : {x : Piece (Option O) (Option X)} → y ≡ Found x → {b a : ℕ} → b ≡ input_len w h → a ≡ input_len w j → (b ≡ a → ⊥) →
        Collected w (TurnsBy None escape_turn (λ _. Part.answers streaming)) AnyPieces i h
    escaped_more {x} e p q n =
        let item = piece_found w false normal.IsOutput escapable.IsOutput j (Part.answers streaming j) h y x e t in
        piece_taken w k.laws Gives errs.grows (λ x y. x) Part NoValue (modes false errors streaming) i j k.collected item.length item.tree h item.answered
        (consumes item.rest_is p q n) item.rest_is tt

    pub escaped_none : y ≡ Other → {b a : ℕ} → b ≡ input_len w j → a ≡ input_len w i → b ≡ a → {f : Answer.Err E (Option E) Needed} →
        Refuses (Gives i) errs.grows errors f → Goal (Err f)
    escaped_none e p q n {f} r = fault f
        (start_refused w k.laws Gives errs.grows (λ x y. x) Part NoValue (modes false errors streaming) i j k.collected t.length
        (other_found w false normal.IsOutput escapable.IsOutput j (Part.answers streaming j) h y e t) (is_empty k.collected.rest_is p q n) f r)

    pub escaped_other : y ≡ Other → {b a : ℕ} → b ≡ input_len w j → a ≡ input_len w i → (b ≡ a → ⊥) → {z : Option I} → SliceBefore j z → Goal (Ok (j, z))
    escaped_other e {b} {a} p q n {z} f =
        given z (other_shown w k.laws Gives errs.grows (λ x y. x) Part NoValue (modes false errors streaming) i j k.collected t.length
        (other_found w false normal.IsOutput escapable.IsOutput j (Part.answers streaming j) h y e t)
        (taken_some w i k.collected.taken j a b k.collected.rest_is p q n) None refl) f

    pub escaped_dangling : y ≡ Dangling → {f : Answer.Err E (Option E) Needed} → Refuses (Gives i) errs.grows errors f → Goal (Err f)
    escaped_dangling e {f} r = fault f
        (dangling_refused w k.laws Gives errs.grows (λ x y. x) Part NoValue (modes false errors streaming) i j k.collected t.length
        (dangling_found w false normal.IsOutput escapable.IsOutput j (Part.answers streaming j) h y e t) f r)

    pub escaped_done : y ≡ Done → {z : Option I} → SliceBefore j z → Goal (Ok (j, z))
    escaped_done e {z} f = given z (done_shown w k.laws Gives errs.grows (λ x y. x) Part NoValue (modes false errors streaming) i j k.collected t.length
        (done_found w false normal.IsOutput escapable.IsOutput j (Part.answers streaming j) h y e t) None refl) f

-- the same at equal states of the parts, an equal control character and an equal size that lacks
pub escaped_at : {S T I A U W O X E : Type 0} {w : Model I A} (l : InputLaws w) (errs : Errors I E) (normal : S → Grammar I U O E)
    (escapable : T → Grammar I W X E) (IsControl : ℕ → A → Type 0) {errors streaming : Bool} {i j : I}
    {r : PResult I (NextPiece (Piece (Option O) (Option X))) E} {a b : S} {x y : ℕ} {c d : T} {e : Option ℕ} → a ≡ b → x ≡ y → c ≡ d → e ≡ Some 1 →
    Collected w (TurnsBy None escape_turn
    (λ _. (next_piece_meaning w (IsControl y) (Some 1) (normal b).meaning (escapable d).meaning).answers streaming)) AnyPieces i j →
    ShowsNextPiece w (normal a).IsOutput (escapable c).IsOutput (modes false errors streaming) (IsControl x) e (normal a).meaning (escapable c).meaning j r →
    EscapedAt w errs (IsControl y) (normal b) (escapable d) errors streaming i j r
escaped_at {w = w} l errs normal escapable IsControl {errors} {streaming} {j = j} {r = r} {a} {b} {x} {y} {c} {d} {e} p q t u collected h = record {
  laws = l;
  collected = collected;
  shown = same_next_piece w normal escapable (modes false errors streaming) IsControl j r a b x y c d e (Some 1) p q t u h;
}
