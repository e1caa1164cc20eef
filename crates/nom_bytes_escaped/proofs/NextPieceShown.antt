-- Lemmas on the piece that stands at a place.
use Rattle.std.proofs.Common.{◌≡◌, ℕ, ◌<◌, Bool, true, false, List, [], length, Ok, Err, Option, Some, None, refl, sym, ◌∙◌, subst}
use Rattle.nom_internal.specs.Prelude.{Needed, Unknown, Error, PResult, size_of, modes, Model, InputLaws, IsSuffixOf, input_len, Accept, Refuse, Stop, Needs}
use Rattle.nom_internal.specs.Prelude.{ShowsAnswer, Shown, Meaning, ShowsMeaning, LeafAnswers, labelled_meaning}
use Rattle.nom_error.specs.declared.answer.Err as Answer
use Rattle.nom_internal.proofs.Shown.{next_shown}
use Rattle.nom_internal.proofs.Cased.{here, labels_err, labels_ok}
use Rattle.nom_internal.proofs.Choices.{otherwise_first, otherwise_next}
use Rattle.nom_internal.proofs.Consumed.{rest_self}
use Rattle.nom_repeat.proofs.Parts.{part_refused}
use Rattle.nom_bytes_escaped.specs.declared.next_piece.Control.{Control}
use Rattle.nom_bytes_escaped.specs.declared.next_piece.Piece.{Piece}
use Rattle.nom_bytes_escaped.specs.declared.next_piece.Piece.TheVariants.{Normal, Escapable}
use Rattle.nom_bytes_escaped.specs.declared.next_piece.NextPiece.{NextPiece}
use Rattle.nom_bytes_escaped.specs.declared.next_piece.NextPiece.TheVariants.{Found, Other, Dangling, Done}
use Rattle.nom_bytes_escaped.specs.NextPieces.{Lacks, left_leaf, IsLeft, AfterControl, StandsOther, StandsLast, TellsControl, control_leaf, by_control}
use Rattle.nom_bytes_escaped.specs.NextPieces.{escape_meaning, piece_meaning, by_left, IsNextPiece, ShowsNextPiece}
use Rattle.nom_bytes_escaped.proofs.Controls.{no_items, some_items}

module _ {I A U W O X E : Type 0} (w : Model I A) (l : InputLaws w) (IsNormal : U → O → Type 0) (IsEscapable : W → X → Type 0) (outputs errors : Bool)
    (IsControl : A → Type 0) (lack : Option ℕ) (m : Meaning I U E) (g : Meaning I W E) (i : I) (known : w.IsKnown i) where
  abbrev Result : Type 0
  Result = PResult I (NextPiece (Piece (Option O) (Option X))) E

  -- what a part that returns the next piece shows at a place
  abbrev Shows : Meaning I (NextPiece (Piece U W)) E → Bool → I → Result → Type 0
  Shows part s j = ShowsAnswer w (IsNextPiece outputs IsNormal IsEscapable) (modes true errors s) j (part.answers s j) (part.blames s j)
      (part.may_run_out (modes outputs errors s) j)

  abbrev NormalPart : Meaning I (NextPiece (Piece U W)) E
  NormalPart = labelled_meaning (λ u. Found (Normal u)) m

  abbrev Goal : Bool → Result → Type 0
  Goal s = ShowsNextPiece w IsNormal IsEscapable (modes outputs errors s) IsControl lack m g i

  -- what is shown by whether an item is left
  goes : (s b : Bool) → IsLeft s (w.elements i) b → (r : Result) → Shows (by_left Done (piece_meaning w IsControl lack m g) b) s i r → Goal s r
  goes s b a r h = next_shown w l (λ _ t. t) (LeafAnswers (left_leaf w) s) (λ _ _. ⊥) (λ j. ⊥ × (errors ≡ true) × ⊥)
      (λ u. (by_left Done (piece_meaning w IsControl lack m g) u).answers s) (λ u. (by_left Done (piece_meaning w IsControl lack m g) u).blames s)
      (λ u. (by_left Done (piece_meaning w IsControl lack m g) u).may_run_out (modes outputs errors s)) (IsNextPiece outputs IsNormal IsEscapable)
      (modes true errors s) i i 0 b (refl, a) (rest_self w l i known) r h

  -- no item is left
  end_by : (s : Bool) → length (w.elements i) ≡ 0 → (r : Result) → Lacks s Unknown i Done r → Goal s r
  end_by true e r h = Shown (Stop (Needs None)) (record { first = Stop (Needs None); answered = (refl, (e, refl)); goes_on = refl }) (Unknown, refl, h)
  end_by false e r h = goes false false (refl, e) r (Shown (Accept 0 Done) (refl, refl) (i, Some Done, rest_self w l i known, (Done, refl, refl), h))

  pub end_shown : (s : Bool) (n : ℕ) → n ≡ input_len w i → n ≡ 0 → (r : Result) → Lacks s Unknown i Done r → Goal s r
  end_shown s n e z r h = end_by s (length_zero (no_items w.item_len l.positive (w.elements i) (sym e ∙ z))) r h
    where
      length_zero : {B : Type 0} {xs : List B} → xs ≡ [] → length xs ≡ 0
      length_zero q = subst (λ ys. length ys ≡ 0) (sym q) refl

  module _ (s : Bool) (n : ℕ) (e : n ≡ input_len w i) (z : n ≡ 0 → ⊥) where
    left : 0 < length (w.elements i)
    left = some_items w.item_len l.positive (w.elements i) (λ h. z (e ∙ h))

    -- whatever `normal` answers but a refusal
    first : (r : Result) → ((x : Option E) → r ≡ Err (Error x) → ⊥) →
        ShowsAnswer w (IsNextPiece outputs IsNormal IsEscapable) (modes true false s) i (NormalPart.answers s i) (NormalPart.blames s i)
        (NormalPart.may_run_out (modes outputs false s) i) r → Goal s r
    first r f h = goes s true left r
        (otherwise_first w (IsNextPiece outputs IsNormal IsEscapable) NormalPart (escape_meaning w IsControl lack g) true (modes outputs errors s) i r f h)

    pub normal_found : (j : I) (x : Option O) → ShowsMeaning w IsNormal m (modes outputs false s) i (Ok (j, x)) → Goal s (Ok (j, Some (Found (Normal x))))
    normal_found j x h = first (Ok (j, Some (Found (Normal x)))) (λ y q. cc (q))
        (labels_ok w (λ u. Found (Normal u)) IsNormal (IsNextPiece outputs IsNormal IsEscapable) m true (modes outputs false s) i j x
        (Some (Found (Normal x))) h (λ u b. (Found (Normal x), refl, b)))

    pub normal_stops : (f k : Answer.Err E (Option E) Needed) → f ≡ k → ((x : Option E) → k ≡ Error x → ⊥) →
        ShowsMeaning w IsNormal m (modes outputs false s) i (Err f) → Goal s (Err k)
    normal_stops f k q other h = first (Err k) (λ x p. other x (cc (p)))
        (labels_err w (λ u. Found (Normal u)) IsNormal (IsNextPiece outputs IsNormal IsEscapable) m true (modes outputs false s) i k
        (subst (λ y. ShowsMeaning w IsNormal m (modes outputs false s) i (Err y)) q h))

    -- `normal` refuses
    module _ (f : Answer.Err E (Option E) Needed) (b : Option E) (is : f ≡ Error b) (h : ShowsMeaning w IsNormal m (modes outputs false s) i (Err f)) where
      next : (r : Result) → Shows (escape_meaning w IsControl lack g) s i r → Goal s r
      next r k =
          let refused = part_refused is h in
          goes s true left r (otherwise_next w (IsNextPiece outputs IsNormal IsEscapable) NormalPart (escape_meaning w IsControl lack g) true
          (modes outputs errors s) i (here Refuse refused refl) r k)

      controlled : (c : Control (Unit {0})) (n : ℕ) (j : I) → TellsControl w IsControl s i n c → IsSuffixOf w i n j → (r : Result) →
          Shows (by_control g c) s j r → Goal s r
      controlled c n j a p r k = next r (next_shown w l (λ _ t. t) (LeafAnswers (control_leaf w IsControl lack) s) (λ _ _. ⊥) (λ j. ⊥ × (errors ≡ true) × ⊥)
          (λ u. (by_control g u).answers s) (λ u. (by_control g u).blames s) (λ u. (by_control g u).may_run_out (modes outputs errors s))
          (IsNextPiece outputs IsNormal IsEscapable) (modes true errors s) i j n c a p r k)

      pub other_stands : StandsOther w IsControl i → Goal s (Ok (i, Some Other))
      other_stands a = controlled Control.None 0 i (refl, a) (rest_self w l i known) (Ok (i, Some Other))
          (Shown (Accept 0 Other) (refl, refl) (i, Some Other, rest_self w l i known, (Other, refl, refl), refl))

      -- an escapable piece is sought after the control character
      module _ (j : I) (c : AfterControl w IsControl (λ y. y ≡ j) i) where
        after : (r : Result) → Shows (labelled_meaning (λ v. Found (Escapable v)) g) s j r → Goal s r
        after r k = controlled (Control.Before tt)
            (w.item_len c.item) j (record {
              item = c.item;
              items = c.items;
              elements_are = c.elements_are;
              is_control = c.is_control;
              some = c.some;
              length_is = refl;
            }) (subst (λ y. IsSuffixOf w i (w.item_len c.item) y) c.fact c.rest_is) r k

        pub escapable_faults : (e : Answer.Err E (Option E) Needed) (r : Result) → ShowsMeaning w IsEscapable g (modes outputs errors s) j (Err e) →
            r ≡ Err e → Goal s r
        escapable_faults e r k y = subst (λ q. Goal s q) (sym y)
            (after (Err e) (labels_err w (λ v. Found (Escapable v)) IsEscapable (IsNextPiece outputs IsNormal IsEscapable) g true (modes outputs errors s) j
            e k))

        pub escapable_found : (h : I) (x : Option X) → ShowsMeaning w IsEscapable g (modes outputs errors s) j (Ok (h, x)) →
            Goal s (Ok (h, Some (Found (Escapable x))))
        escapable_found h x k = after (Ok (h, Some (Found (Escapable x))))
            (labels_ok w (λ v. Found (Escapable v)) IsEscapable (IsNextPiece outputs IsNormal IsEscapable) g true (modes outputs errors s) j h x
            (Some (Found (Escapable x))) k (λ u b. (Found (Escapable x), refl, b)))

  module _ (n : ℕ) (e : n ≡ input_len w i) (z : n ≡ 0 → ⊥) where
    -- the control character is the last item
    pub last_shown : (s : Bool) (f : Answer.Err E (Option E) Needed) (b : Option E) → f ≡ Error b →
        ShowsMeaning w IsNormal m (modes outputs false s) i (Err f) → (size : Needed) → size_of size ≡ lack → StandsLast w IsControl i → (r : Result) →
        Lacks s size i Dangling r → Goal s r
    last_shown true f b is h size c a r k =
        next true n e z f b is h r (Shown (Stop (Needs lack)) (record { first = Stop (Needs lack); answered = (refl, (a, refl)); goes_on = refl }) (size, c, k))
    last_shown false f b is h size c a r k =
        controlled false n e z f b is h Control.Last 0 i (refl, refl, a)
        (rest_self w l i known) r (Shown (Accept 0 Dangling) (refl, refl) (i, Some Dangling, rest_self w l i known, (Dangling, refl, refl), k))
