-- Where texts of pieces run out of memory.
use Rattle.std.proofs.Common.{◌≡◌, ℕ, ◌+◌, Bool, true, false, Option, Some, None, ◌⊎◌, inl, inr, List, [], ◌∷◌, ◌++◌, zero, suc, refl, sym, ◌∙◌, subst}
use Rattle.std.proofs.Common.{ap, arith}
use Rattle.nom_internal.specs.Prelude.{Errors, Modes, with_errors, with_outputs, Model, InputLaws}
use Rattle.nom_internal.specs.Prelude.{IsSuffixOf, IsSame, items_len, rest_consistent, Outcome, Accept}
use Rattle.nom_internal.specs.Prelude.{Refuse, Stop, Meaning, IsLawful, labelled, labelled_meaning, GoesOnRefused, GoesOn, after, Fails, Needs}
use Rattle.nom_repeat.specs.Repeat.{IsBelow, OnReply, Pieces, Replies, TurnsBy}
use Rattle.nom_repeat.specs.Repeat.Turn.{Takes}
use Rattle.nom_bytes_escaped.specs.declared.next_piece.Control.{Control}
use Rattle.nom_bytes_escaped.specs.declared.next_piece.Piece.{Piece}
use Rattle.nom_bytes_escaped.specs.declared.next_piece.Piece.TheVariants.{Normal, Escapable}
use Rattle.nom_bytes_escaped.specs.declared.next_piece.NextPiece.{NextPiece}
use Rattle.nom_bytes_escaped.specs.declared.next_piece.NextPiece.TheVariants.{Found, Other, Dangling, Done}
use Rattle.nom_bytes_escaped.specs.NextPieces.{AfterControl, by_control, by_left, control_leaf, escape_meaning, left_leaf, look, piece_meaning}
use Rattle.nom_bytes_escaped.specs.NextPieces.{next_piece_meaning}
use Rattle.nom_bytes_escaped.specs.laws.NextPieceLaws.{next_piece_lawful}
use Rattle.nom_bytes_escaped.specs.Escapes.{by_next_piece, escape_turn, OnReplied, OnNextPiece, escaped_transform_meaning}
use Rattle.nom.specs.Growths.{AlwaysFrugal, IsAccepted, GrowsByPieces}

-- an acceptance after n items comes of one
after_accept : {P Q : Type 0} (n k : ℕ) (t : Q) (tree : P → Q) (o : Outcome P) → Accept k t ≡ after n tree o →
    (m : ℕ) × (u : P) × (o ≡ Accept m u) × (t ≡ tree u)
after_accept n k t tree (Accept m u) e = (m, u, refl, cc (e))
after_accept n k t tree Refuse e = absurd (cc (e))
after_accept n k t tree (Stop why) e = absurd (cc (e))

refuse_of : {P Q : Type 0} (label : P → Q) (a : Outcome P) → Refuse ≡ labelled label a → a ≡ Refuse
refuse_of label (Accept k t) e = absurd (cc (e))
refuse_of label Refuse e = refl
refuse_of label (Stop why) e = absurd (cc (e))

accept_of : {P Q : Type 0} (n : ℕ) (u : Q) (label : P → Q) (a : Outcome P) → Accept n u ≡ labelled label a →
    (k : ℕ) × (t : P) × (a ≡ Accept k t) × (u ≡ label t)
accept_of n u label (Accept k t) e = (k, t, refl, cc (e))
accept_of n u label Refuse e = absurd (cc (e))
accept_of n u label (Stop why) e = absurd (cc (e))

-- a rest after nothing is the input
same_rest : {I A : Type 0} (w : Model I A) → InputLaws w → (i j : I) (n : ℕ) → n ≡ 0 → IsSuffixOf w i n j → IsSame w j i
same_rest w l i j n e r = by r.front r.whole r.length_is r.mark_is
  where
    by : (front : List _) → w.elements i ≡ front ++ w.elements j → items_len w.item_len front ≡ n → w.mark j ≡ w.mark_after (w.mark i) front → IsSame w j i
    by [] whole is mark = record { elements_are = sym whole; mark_is = mark ∙ l.mark_none (w.mark i) }
    by (x ∷ xs) whole is mark = absurd (omega (arith, l.positive x, is, e))

module _ {I A U W E : Type 0} (w : Model I A) (l : InputLaws w) (IsControl : A → Type 0) (lack : Option ℕ) (m : Meaning I U E) (g : Meaning I W E)
    (p : IsLawful w m) (s : Bool) where
  -- a piece stands at i
  abbrev pub HasPiece : I → Type 0
  HasPiece i = IsAccepted (m.answers s) i ⊎ (m.answers s i Refuse × AfterControl w IsControl (IsAccepted (g.answers s)) i)

  found_other : (v : Piece U W) → ◌≡◌ {A = NextPiece (Piece U W)} (Found v) Other → ⊥
  found_other v e = absurd (cc (e))

  found_dangling : (v : Piece U W) → ◌≡◌ {A = NextPiece (Piece U W)} (Found v) Dangling → ⊥
  found_dangling v e = absurd (cc (e))

  found_done : (v : Piece U W) → ◌≡◌ {A = NextPiece (Piece U W)} (Found v) Done → ⊥
  found_done v e = absurd (cc (e))

  -- after the control character
  escaped_at : (i : I) (n : ℕ) (v : Piece U W) → (escape_meaning {U = U} w IsControl lack g).answers s i (Accept n (Found v)) →
      AfterControl w IsControl (IsAccepted (g.answers s)) i
  escaped_at i n v a = by a.first a.answered a.goes_on
    where
      piece_after : (k : ℕ) (c : Control (Unit {0})) → (look {E = E} (control_leaf w IsControl lack)).answers s i (Accept k c) → (j : I) → IsSuffixOf w i k j →
          (o : Outcome (NextPiece (Piece U W))) → (by_control {U = U} g c).answers s j o → Accept n (Found v) ≡ after k (λ t. t) o →
          AfterControl w IsControl (IsAccepted (g.answers s)) i
      piece_after k Control.None b j r o x e =
          let f = after_accept k n (Found v) (λ t. t) o e in
          let y = subst (λ z. (by_control {U = U} g Control.None).answers s j z) f.2 x in
          absurd (found_other v (f.3 ∙ y.1))
      piece_after k Control.Last b j r o x e =
          let f = after_accept k n (Found v) (λ t. t) o e in
          let y = subst (λ z. (by_control {U = U} g Control.Last).answers s j z) f.2 x in
          absurd (found_dangling v (f.3 ∙ y.1))
      piece_after k (Control.Before u) b j r o x e =
          let f = after_accept k n (Found v) (λ t. t) o e in
          let c = accept_of f.0 f.1 (λ z. Found (Escapable z)) x.outcome (sym f.2 ∙ x.fact) in
          record {
            item = b.item;
            items = b.items;
            elements_are = b.elements_are;
            is_control = b.is_control;
            some = b.some;
            rest = j;
            rest_is = subst (λ z. IsSuffixOf w i z j) b.length_is r;
            fact = (c.0, c.1, subst (λ z. g.answers s z (Accept c.0 c.1)) (sym x.at_is) (subst (g.answers s x.at) c.2 x.answered));
          }

      by : (first : Outcome (Control (Unit {0}))) → (look {E = E} (control_leaf w IsControl lack)).answers s i first →
          GoesOn w (λ _ t. t) (λ c. (by_control {U = U} g c).answers s) i first (Accept n (Found v)) →
          AfterControl w IsControl (IsAccepted (g.answers s)) i
      by (Accept k c) b x = piece_after k c b x.0 x.2 x.1 x.3 x.4
      by Refuse b x = absurd (cc (x))
      by (Stop why) b x = absurd (cc (x))

  piece_at : (i : I) (n : ℕ) (v : Piece U W) → (piece_meaning w IsControl lack m g).answers s i (Accept n (Found v)) → HasPiece i
  piece_at i n v a = by a.first a.answered a.goes_on
    where
      by : (first : Outcome (NextPiece (Piece U W))) → (labelled_meaning (λ u. Found (Normal u)) m).answers s i first →
          GoesOnRefused ((escape_meaning {U = U} w IsControl lack g).answers s i) first (Accept n (Found v)) → HasPiece i
      by (Accept k u) b e =
          let c = accept_of k u (λ z. Found (Normal z)) b.outcome b.fact in
          inl (c.0, c.1, subst (λ z. m.answers s z (Accept c.0 c.1)) (sym b.at_is) (subst (m.answers s b.at) c.2 b.answered))
      by Refuse b e =
          inr (
            subst (λ z. m.answers s z Refuse) (sym b.at_is) (subst (m.answers s b.at) (refuse_of (λ z. Found (Normal z)) b.outcome b.fact)
                b.answered),
            escaped_at i n v e,
          )
      by (Stop why) b e = absurd (cc (e))

  -- at an input that is equal as models
  piece_consistent : (i j : I) → w.IsKnown i → w.IsKnown j → IsSame w j i → HasPiece j → HasPiece i
  piece_consistent i j h k r (inl a) = inl (a.0, a.1, p.consistent s j i (Accept a.0 a.1) k h r a.2 tt)
  piece_consistent i j h k r (inr a) = inr (
    p.consistent s j i Refuse k h r a.0 tt,
    record {
      item = a.1.item;
      items = a.1.items;
      elements_are = sym r.elements_are ∙ a.1.elements_are;
      is_control = a.1.is_control;
      some = a.1.some;
      rest = a.1.rest;
      rest_is = rest_consistent w j i (w.item_len a.1.item) a.1.rest r a.1.rest_is;
      fact = a.1.fact;
    },
  )

  -- where a piece is found, it stands there
  next_piece_at : (i : I) (n : ℕ) (v : Piece U W) → w.IsKnown i → (next_piece_meaning w IsControl lack m g).answers s i (Accept n (Found v)) → HasPiece i
  next_piece_at i n v h a = by a.first a.answered a.goes_on
    where
      on_left : (k : ℕ) (left : Bool) → (k ≡ 0) → (j : I) → IsSuffixOf w i k j → (o : Outcome (NextPiece (Piece U W))) →
          (by_left Done (piece_meaning w IsControl lack m g) left).answers s j o → Accept n (Found v) ≡ after k (λ t. t) o → HasPiece i
      on_left k true z j r o x e =
          let f = after_accept k n (Found v) (λ t. t) o e in
          let found = subst (λ y. (piece_meaning w IsControl lack m g).answers s j y) (f.2 ∙ ap (λ y. Accept f.0 y) (sym f.3)) x in
          piece_consistent i j h r.known (same_rest w l i j k z r) (piece_at j f.0 v found)
      on_left k false z j r o x e =
          let f = after_accept k n (Found v) (λ t. t) o e in
          let y = subst (λ z. (by_left Done (piece_meaning w IsControl lack m g) false).answers s j z) f.2 x in
          absurd (found_done v (f.3 ∙ y.1))

      by : (first : Outcome Bool) → (look {E = E} (left_leaf w)).answers s i first →
          GoesOn w (λ _ t. t) (λ b. (by_left Done (piece_meaning w IsControl lack m g) b).answers s) i first (Accept n (Found v)) → HasPiece i
      by (Accept k b) c x = on_left k b c.0 x.0 x.2 x.1 x.3 x.4
      by Refuse c x = absurd (cc (x))
      by (Stop why) c x = absurd (cc (x))

  next_piece_taken : (i : I) (u : NextPiece (Piece U W)) (n k a : ℕ) (v : Piece U W) → Takes a v ≡ by_next_piece u k n → (x : Piece U W) × (u ≡ Found x)
  next_piece_taken i (Found x) n k a v e = (x, refl)
  next_piece_taken i Other n zero a v e = absurd (cc (e))
  next_piece_taken i Other n (suc k) a v e = absurd (cc (e))
  next_piece_taken i Dangling n k a v e = absurd (cc (e))
  next_piece_taken i Done n k a v e = absurd (cc (e))

  taken_by : (k : ℕ) (i : I) (a : ℕ) (v : Piece U W) (reply : Option (Outcome (NextPiece (Piece U W)))) → w.IsKnown i →
      Replies None (λ _. (next_piece_meaning w IsControl lack m g).answers s) k i reply → Takes a v ≡ escape_turn k reply → HasPiece i
  taken_by k i a v (Some (Accept n u)) h r e =
      let x = next_piece_taken i u n k a v e in
      next_piece_at i n x.0 h (subst (λ z. (next_piece_meaning w IsControl lack m g).answers s i (Accept n z)) x.1 r.1)
  taken_by k i a v (Some Refuse) h r e = absurd (cc (e))
  taken_by k i a v (Some (Stop why)) h r e = absurd (cc (e))
  taken_by k i a v None h r e = absurd (cc (e))

module _ {I A U W E : Type 0} (w : Model I A) (l : InputLaws w) (IsControl : A → Type 0) (errs : Errors I E) (m : Meaning I U E) (g : Meaning I W E)
    (p : IsLawful w m) (q : IsLawful w g) (frugal : AlwaysFrugal m × AlwaysFrugal g) (none : errs.grows → ⊥) (mode : Modes) where
  abbrev Piece_at : I → Type 0
  Piece_at i = HasPiece w l IsControl None m g p mode.streaming i

  abbrev Asked : ℕ → I → Type 0
  Asked k j =
      OnReply None (λ _. (next_piece_meaning w IsControl None m g).answers mode.streaming)
      (OnReplied (mode.outputs ≡ true) ((k ≡ 0) × (mode.errors ≡ true) × errs.grows) ((mode.errors ≡ true) × errs.grows) ⊥) k j
      ⊎ (IsBelow None k × (next_piece_meaning w IsControl None m g).may_run_out mode j)

  on_next_piece : (k : ℕ) (j : I) (n : ℕ) (u : NextPiece (Piece U W)) → w.IsKnown j →
      (next_piece_meaning w IsControl None m g).answers mode.streaming j (Accept n u) →
      OnNextPiece (mode.outputs ≡ true) ((k ≡ 0) × (mode.errors ≡ true) × errs.grows) ((mode.errors ≡ true) × errs.grows) u → (mode.outputs ≡ true) × Piece_at j
  on_next_piece k j n (Found v) h a z = (z, next_piece_at w l IsControl None m g p mode.streaming j n v h a)
  on_next_piece k j n Other h a z = absurd (none z.2)
  on_next_piece k j n Dangling h a z = absurd (none z.1)
  on_next_piece k j n Done h a z = absurd z

  asked_by : (k : ℕ) (j : I) (reply : Option (Outcome (NextPiece (Piece U W)))) → w.IsKnown j →
      Replies None (λ _. (next_piece_meaning w IsControl None m g).answers mode.streaming) k j reply →
      OnReplied (mode.outputs ≡ true) ((k ≡ 0) × (mode.errors ≡ true) × errs.grows) ((mode.errors ≡ true) × errs.grows) ⊥ reply →
      (mode.outputs ≡ true) × Piece_at j
  asked_by k j (Some (Accept n u)) h r z = on_next_piece k j n u h r.1 z
  asked_by k j (Some Refuse) h r z = absurd z
  asked_by k j (Some (Stop (Fails cause))) h r z = absurd z
  asked_by k j (Some (Stop (Needs d))) h r z = absurd z
  asked_by k j None h r z = absurd z

  asked : (k : ℕ) (j : I) → w.IsKnown j → Asked k j → (mode.outputs ≡ true) × Piece_at j
  asked k j h (inl r) = asked_by k j r.reply h r.replied r.fact
  asked k j h (inr r) = absurd ((next_piece_lawful l IsControl None p q).frugal mode j h
      (λ _ x. x, (frugal.0 (with_outputs mode.outputs (with_errors false mode)), (λ _ x. x, frugal.1 mode))) r.1)

  walked : (k : ℕ) (i : I) (vs : List (Piece U W)) (n : ℕ) → w.IsKnown i →
      Pieces w (TurnsBy None escape_turn (λ _. (next_piece_meaning w IsControl None m g).answers mode.streaming)) Asked k i vs n →
      (mode.outputs ≡ true) × Piece_at i
  walked k i [] n h z = asked k i h z.1
  walked k i (v ∷ vs) n h z = (
    (walked (k + 1) z.2 vs z.1 z.4.known z.5).0,
    taken_by w l IsControl None m g p mode.streaming k i z.0 v z.3.reply h z.3.replied z.3.fact,
  )

  pub pieces_grow : (i : I) → w.IsKnown i → (escaped_transform_meaning w errs IsControl m g).may_run_out mode i → (mode.outputs ≡ true) × Piece_at i
  pieces_grow i h r = walked 0 i r.trees r.taken h r.pieces

pub escaped_transform_grow : {I A U W E : Type 0} (w : Model I A) → InputLaws w →
    (IsControl : A → Type 0) (errs : Errors I E) (m : Meaning I U E) (g : Meaning I W E) → IsLawful w m → IsLawful w g →
    GrowsByPieces w IsControl errs m g (escaped_transform_meaning w errs IsControl m g)
escaped_transform_grow w l IsControl errs m g p q frugal none mode i h r = pieces_grow w l IsControl errs m g p q frugal none mode i h r
