-- The laws of escapes.
use Rattle.std.specs.Prelude.{◌≡◌, ℕ, true, Option, Some, None, zero, suc}
use Rattle.std.proofs.Common.{inl}
use Rattle.nom_internal.specs.Prelude.{Errors, Model, InputLaws, Outcome, Cause, Accept, Refuse, Stop, Fails, Needs, Meaning, IsLawful}
use Rattle.nom_internal.specs.Prelude.{IsSteady, always, always_lawful}
use Rattle.nom_error.specs.declared.kind.ErrorKind.TheVariants as Kind
use Rattle.nom_internal.specs.laws.RecognizedLaws.{recognized_lawful, recognized_steady}
use Rattle.nom_repeat.specs.Repeat.{Ran}
use Rattle.nom_repeat.specs.Repeat.Turn.{Ends}
use Rattle.nom_repeat.specs.laws.RepeatLaws.{KeepsTurn, KeepsReply, EndsTurn, RuleLaws, repeat_lawful, repeat_steady}
use Rattle.nom_bytes_escaped.specs.declared.next_piece.NextPiece.{NextPiece}
use Rattle.nom_bytes_escaped.specs.declared.next_piece.NextPiece.TheVariants.{Found, Other, Dangling, Done}
use Rattle.nom_bytes_escaped.specs.NextPieces.{next_piece_meaning}
use Rattle.nom_bytes_escaped.specs.laws.NextPieceLaws.{next_piece_lawful, next_piece_steady}
use Rattle.nom_bytes_escaped.specs.Escapes.{by_next_piece, escape_turn, OnReplied, escape_rule, escaped_meaning, escaped_transform_meaning}

escape_decided : {V : Type 0} (k : ℕ) (a : Option (Outcome (NextPiece V))) → KeepsTurn true (escape_turn k a) → KeepsReply true a
escape_decided k (Some (Accept n v)) h = tt
escape_decided k (Some Refuse) h = tt
escape_decided k (Some (Stop why)) h = h
escape_decided k None h = tt

next_piece_ends : {V : Type 0} (v : NextPiece V) (k m : ℕ) (n : ℕ) (t : Option V) → Ends (Accept n t) ≡ by_next_piece v k m → n ≡ 0
next_piece_ends (Found v) k zero n t e = cc
next_piece_ends (Found v) k (suc m) n t e = absurd (cc)
next_piece_ends Other zero m n t e = absurd (cc)
next_piece_ends Other (suc k) m n t e = cc
next_piece_ends Dangling k m n t e = absurd (cc)
next_piece_ends Done k m n t e = cc

escape_ends : {V : Type 0} (k : ℕ) (a : Option (Outcome (NextPiece V))) (n : ℕ) (t : Option V) → Ends (Accept n t) ≡ escape_turn k a → EndsTurn n a
escape_ends k (Some (Accept m v)) n t e = inl (next_piece_ends v k m n t e)
escape_ends k (Some Refuse) n t e = absurd (cc)
escape_ends k (Some (Stop why)) n t e = absurd (cc)
escape_ends k None n t e = cc

on_fault : {V : Type 0} (Taken Unknown Last : Type 0) {P Q : Type 0} (a : Option (Outcome (NextPiece V))) → (Ran a → P → Q) →
    OnReplied Taken Unknown Last P a → OnReplied Taken Unknown Last Q a
on_fault Taken Unknown Last (Some (Accept n v)) f h = h
on_fault Taken Unknown Last (Some Refuse) f h = f tt h
on_fault Taken Unknown Last (Some (Stop (Fails cause))) f h = f tt h
on_fault Taken Unknown Last (Some (Stop (Needs d))) f h = h
on_fault Taken Unknown Last None f h = h

on_none : {V : Type 0} (Taken Unknown Last : Type 0) (a : Option (Outcome (NextPiece V))) → (Taken → ⊥) → (Unknown → ⊥) → (Last → ⊥) →
    OnReplied Taken Unknown Last ⊥ a → ⊥
on_none Taken Unknown Last (Some (Accept n (Found v))) f g k h = f h
on_none Taken Unknown Last (Some (Accept n Other)) f g k h = g h
on_none Taken Unknown Last (Some (Accept n Dangling)) f g k h = k h
on_none Taken Unknown Last (Some (Accept n Done)) f g k h = h
on_none Taken Unknown Last (Some Refuse) f g k h = h
on_none Taken Unknown Last (Some (Stop (Fails cause))) f g k h = h
on_none Taken Unknown Last (Some (Stop (Needs d))) f g k h = h
on_none Taken Unknown Last None f g k h = h

next_piece_fails : {V : Type 0} (cause : Cause) (v : NextPiece V) (k n : ℕ) → Ends (Stop (Fails cause)) ≡ by_next_piece v k n → ⊥
next_piece_fails cause (Found v) k zero e = cc (e)
next_piece_fails cause (Found v) k (suc n) e = cc (e)
next_piece_fails cause Other zero n e = cc (e)
next_piece_fails cause Other (suc k) n e = cc (e)
next_piece_fails cause Dangling k n e = cc (e)
next_piece_fails cause Done k n e = cc (e)

escape_fails : {V : Type 0} (cause : Cause) (k : ℕ) (a : Option (Outcome (NextPiece V))) → Ends (Stop (Fails cause)) ≡ escape_turn k a →
    a ≡ Some (Stop (Fails cause))
escape_fails cause k (Some (Accept n v)) e = absurd (next_piece_fails cause v k n e)
escape_fails cause k (Some Refuse) e = absurd (cc (e))
escape_fails cause k (Some (Stop why)) e = cc (e)
escape_fails cause k None e = absurd (cc (e))

escape_rule_laws : {I V E : Type 0} (Gives : I → E → Type 0) (Grows : Type 0) (at : I → I → I) → RuleLaws (escape_rule {V = V} Gives Grows at)
escape_rule_laws Gives Grows at = record {
  decided = escape_decided;
  ends = escape_ends;
  blames = λ i k j a P Q e f. on_fault ⊥ (Gives i e) (Gives (at i j) e) a (λ r. f r e);
  part_frugal = λ Part mode k h. h.0;
  asks_none = λ Part mode k a h. on_none (mode.outputs ≡ true) ((k ≡ 0) × (mode.errors ≡ true) × Grows)
      ((mode.errors ≡ true) × Grows) a h.1 (λ p. h.2 p.1 p.2) (λ p. h.2 p.0 p.1);
  never_fails = λ Part cause k a h e. (h, escape_fails cause k a e);
}

module _ {I A U W E : Type 0} {w : Model I A} (l : InputLaws w) (errs : Errors I E) (IsControl : A → Type 0) {m : Meaning I U E} {g : Meaning I W E} where
  pub escaped_lawful : IsLawful w m → IsLawful w g → IsLawful w (escaped_meaning w errs IsControl m g)
  escaped_lawful p q =
      recognized_lawful l (repeat_lawful l (escape_rule_laws (λ i. errs.of_kind i Kind.Escaped) errs.grows (λ i j. i))
      (always (next_piece_meaning w IsControl (Some 1) m g)) (always_lawful (next_piece_lawful l IsControl (Some 1) p q)))

  pub escaped_steady : IsSteady w m → IsSteady w g → IsSteady w (escaped_meaning w errs IsControl m g)
  escaped_steady p q =
      recognized_steady l (repeat_steady l (escape_rule_laws (λ i. errs.of_kind i Kind.Escaped) errs.grows (λ i j. i))
      (always (next_piece_meaning w IsControl (Some 1) m g)) (λ _. next_piece_steady l IsControl (Some 1) p q))

  pub escaped_transform_lawful : IsLawful w m → IsLawful w g → IsLawful w (escaped_transform_meaning w errs IsControl m g)
  escaped_transform_lawful p q =
      repeat_lawful l (escape_rule_laws (λ i. errs.of_kind i Kind.EscapedTransform) errs.grows (λ i j. j))
      (always (next_piece_meaning w IsControl None m g)) (always_lawful (next_piece_lawful l IsControl None p q))

  pub escaped_transform_steady : IsSteady w m → IsSteady w g → IsSteady w (escaped_transform_meaning w errs IsControl m g)
  escaped_transform_steady p q =
      repeat_steady l (escape_rule_laws (λ i. errs.of_kind i Kind.EscapedTransform) errs.grows (λ i j. j))
      (always (next_piece_meaning w IsControl None m g)) (λ _. next_piece_steady l IsControl None p q)
