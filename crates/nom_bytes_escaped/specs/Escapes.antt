-- Escapes: a list of pieces.
--
-- At each place where items are left, what stands there is a piece or ends the list:
-- - A piece that consumes is taken, and the next place is after it.
-- - A normal piece that consumes nothing is the last one.
-- - An item that begins no piece ends the list; where it is the first item, the whole is refused.
-- - The control character as the last item is refused, or more is needed.
-- - All else that a part answers is passed on.
-- Where no items are left, the list ends, or more is needed.
use Rattle.std.specs.Prelude.{◌≡◌, ℕ, true, List, [], ◌∷◌, ◌++◌, Option, Some, None, zero, suc}
use Rattle.nom_internal.specs.Prelude.{Errors, Model, Slice, Outcome, Accept, Refuse, Stop, Fails, Needs, Meaning, always, recognized_meaning}
use Rattle.nom_error.specs.declared.kind.ErrorKind.TheVariants as Kind
use Rattle.nom_repeat.specs.Repeat.{Turn, Rule, repeat_meaning}
use Rattle.nom_repeat.specs.Repeat.Turn.{Takes, Ends}
use Rattle.nom_bytes_escaped.specs.declared.next_piece.Piece.{Piece}
use Rattle.nom_bytes_escaped.specs.declared.next_piece.NextPiece.{NextPiece}
use Rattle.nom_bytes_escaped.specs.declared.next_piece.NextPiece.TheVariants.{Found, Other, Dangling, Done}
use Rattle.nom_bytes_escaped.specs.NextPieces.{next_piece_meaning}

-- how the list goes on by what stands at the place, after k pieces, and by its length; an end may have a last piece
abbrev pub by_next_piece : {V : Type 0} → NextPiece V → ℕ → ℕ → Turn V (Option V)
by_next_piece (Found v) k zero = Ends (Accept 0 (Some v))
by_next_piece (Found v) k (suc n) = Takes (suc n) v
by_next_piece Other zero n = Ends Refuse
by_next_piece Other (suc k) n = Ends (Accept 0 None)
by_next_piece Dangling k n = Ends Refuse
by_next_piece Done k n = Ends (Accept 0 None)

abbrev pub escape_turn : {V : Type 0} → ℕ → Option (Outcome (NextPiece V)) → Turn V (Option V)
escape_turn k (Some (Accept n v)) = by_next_piece v k n
escape_turn k (Some Refuse) = Ends Refuse
escape_turn k (Some (Stop why)) = Ends (Stop why)
escape_turn k None = Ends (Accept 0 None)

-- by cases: a piece, an item that begins none, the control character as the last item, no item
abbrev pub OnNextPiece : {V : Type 0} → Type 0 → Type 0 → Type 0 → NextPiece V → Type 0
OnNextPiece Taken Unknown Last (Found v) = Taken
OnNextPiece Taken Unknown Last Other = Unknown
OnNextPiece Taken Unknown Last Dangling = Last
OnNextPiece Taken Unknown Last Done = ⊥

-- that, and a fault of a part
abbrev pub OnReplied : {V : Type 0} → Type 0 → Type 0 → Type 0 → Type 0 → Option (Outcome (NextPiece V)) → Type 0
OnReplied Taken Unknown Last Fault (Some (Accept n v)) = OnNextPiece Taken Unknown Last v
OnReplied Taken Unknown Last Fault (Some Refuse) = Fault
OnReplied Taken Unknown Last Fault (Some (Stop (Fails cause))) = Fault
OnReplied Taken Unknown Last Fault (Some (Stop (Needs d))) = ⊥
OnReplied Taken Unknown Last Fault None = ⊥

-- Where a list is refused, the error of a kind stands at its start; for the control character as the last item at the start, or at the
-- control character, as `at` says. Where outputs are built, a piece may ask for memory.
abbrev pub escape_rule : {I V E : Type 0} → (I → E → Type 0) → Type 0 → (I → I → I) → Rule I (NextPiece V) V (Option V) E
escape_rule Gives Grows at = record {
  bound = None;
  turn = escape_turn;
  Blames = λ i k j a P e. OnReplied ⊥ (Gives i e) (Gives (at i j) e) (P e) a;
  part = λ _ mode. mode;
  Asks = λ mode k. OnReplied (mode.outputs ≡ true) ((k ≡ 0) × (mode.errors ≡ true) × Grows) ((mode.errors ≡ true) × Grows) ⊥;
  Runs = λ Part. Part;
  IsSound = λ Part. Part;
  IsFrugal = λ PartIs mode. PartIs mode × (mode.outputs ≡ true → ⊥) × (mode.errors ≡ true → Grows → ⊥);
  NeverFails = λ Part. Part;
}

-- the pieces, with the last one
abbrev pub all_pieces : {V : Type 0} → List V → Option V → List V
all_pieces vs None = vs
all_pieces vs (Some v) = vs ++ v ∷ []

module _ {I A U W E : Type 0} (w : Model I A) (errs : Errors I E) (IsControl : A → Type 0) (m : Meaning I U E) (g : Meaning I W E) where
  -- the items of all pieces; the size that lacks after a last control character is 1
  abbrev pub escaped_meaning : Meaning I (Slice w) E
  escaped_meaning = recognized_meaning w
      (repeat_meaning w (escape_rule (λ i. errs.of_kind i Kind.Escaped) errs.grows (λ i j. i)) all_pieces
      (always (next_piece_meaning w IsControl (Some 1) m g)))

  -- all pieces; what lacks after a last control character is unknown
  abbrev pub escaped_transform_meaning : Meaning I (List (Piece U W)) E
  escaped_transform_meaning = repeat_meaning w (escape_rule (λ i. errs.of_kind i Kind.EscapedTransform) errs.grows (λ i j. j)) all_pieces
      (always (next_piece_meaning w IsControl None m g))
