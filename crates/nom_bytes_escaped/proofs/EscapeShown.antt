-- Lemmas on the answers of a list of pieces.
use Rattle.std.proofs.Common.{◌≡◌, ℕ, ◌<◌, Bool, true, Ok, Err, Option, Some, None, List, [], ◌∷◌, ◌++◌, length, refl, sym, subst, zero}
use Rattle.std.proofs.Common.{suc, arith, inl, inr}
use Rattle.nom_internal.specs.Prelude.{Needed, Incomplete, Error, Failure, OutOfMemory, Built, Modes, with_outputs, PResult, Refuses, Model, InputLaws}
use Rattle.nom_internal.specs.Prelude.{IsSuffixOf, input_len, Outcome, Grammar}
use Rattle.nom_internal.specs.Prelude.{Accept, Refuse, Stop, ShowsAnswer, Meaning, ShowsMeaning, always}
use Rattle.nom_error.specs.declared.answer.Err as Answer
use Rattle.nom_internal.proofs.Consumed.{rest_length}
use Rattle.nom_internal.proofs.Shown.{Accepts, built_error}
use Rattle.nom_repeat.specs.Repeat.{Pieces, TurnsBy, repeat_meaning}
use Rattle.nom_repeat.specs.Repeat.Turn.{Takes, Ends}
use Rattle.nom_repeat.proofs.Parts.{part_refusal}
use Rattle.nom_repeat.proofs.Repeated.{IsNoRefusal, Collected, collected_more, ended, refused, ran_out, stopped, where_some}
use Rattle.nom_bytes_escaped.specs.declared.next_piece.Piece.{Piece}
use Rattle.nom_bytes_escaped.specs.declared.next_piece.NextPiece.{NextPiece}
use Rattle.nom_bytes_escaped.specs.declared.next_piece.NextPiece.TheVariants.{Found, Other, Dangling, Done}
use Rattle.nom_bytes_escaped.specs.NextPieces.{IsPiece, IsNextPiece, ShowsNextPiece}
use Rattle.nom_bytes_escaped.specs.Escapes.{by_next_piece, escape_turn, escape_rule, all_pieces}

-- an item that begins no piece ends the list where pieces were taken
other_turn : {V : Type 0} (k n : ℕ) → (k ≡ 0 → ⊥) → Ends (Accept 0 None) ≡ by_next_piece {V = V} Other k n
other_turn zero n h = absurd (h refl)
other_turn (suc k) n h = refl

refused_turn : {V : Type 0} (k n : ℕ) → k ≡ 0 → Ends Refuse ≡ by_next_piece {V = V} Other k n
refused_turn zero n e = refl
refused_turn (suc k) n e = absurd (cc (e))

-- a piece that is taken consumes
takes_some : {V : Type 0} (k n a : ℕ) (v : V) (x : NextPiece V) → Takes a v ≡ by_next_piece x k n → 0 < a
takes_some k zero a v (Found y) e = absurd (cc (e))
takes_some k (suc n) a v (Found y) e = let same : a ≡ suc n = cc (e) in omega (arith, same)
takes_some zero n a v Other e = absurd (cc (e))
takes_some (suc k) n a v Other e = absurd (cc (e))
takes_some k n a v Dangling e = absurd (cc (e))
takes_some k n a v Done e = absurd (cc (e))

turn_some : {V : Type 0} (k a : ℕ) (v : V) (o : Option (Outcome (NextPiece V))) → Takes a v ≡ escape_turn k o → 0 < a
turn_some k a v (Some (Accept n x)) e = takes_some k n a v x e
turn_some k a v (Some Refuse) e = absurd (cc (e))
turn_some k a v (Some (Stop why)) e = absurd (cc (e))
turn_some k a v None e = absurd (cc (e))

module _ {I A V : Type 0} (w : Model I A) (Part : I → Outcome (NextPiece V) → Type 0) where
  none_taken : (j : I) (k : ℕ) (i : I) (vs : List V) (n : ℕ) → Pieces w (TurnsBy None escape_turn (λ _. Part)) (λ _ x. x ≡ j) k i vs n → n ≡ 0 → length vs ≡ 0
  none_taken j k i [] n p e = refl
  none_taken j k i (v ∷ vs) n p e = absurd (omega (arith, turn_some k p.0 v (p.3).reply (p.3).fact, p.6, e))

  some_taken : (j : I) (k : ℕ) (i : I) (vs : List V) (n : ℕ) → Pieces w (TurnsBy None escape_turn (λ _. Part)) (λ _ x. x ≡ j) k i vs n → (n ≡ 0 → ⊥) →
      length vs ≡ 0 → ⊥
  some_taken j k i [] n p h e = h p.0
  some_taken j k i (v ∷ vs) n p h e = omega (arith, e)

module _ {I A V O E : Type 0} (w : Model I A) (l : InputLaws w) (Gives : I → E → Type 0) (Grows : Type 0) (at : I → I → I) (m : Meaning I (NextPiece V) E)
    (IsOutput : List V → O → Type 0) (mode : Modes) {Held : List V → Type 0} (i j : I)
    (c : Collected w (TurnsBy None escape_turn (λ _. m.answers mode.streaming)) Held i j) where
  abbrev Goal : PResult I O E → Type 0
  Goal = ShowsMeaning w IsOutput (repeat_meaning w (escape_rule Gives Grows at) all_pieces (always m)) mode i

  -- no item is left
  pub done_shown : (n : ℕ) → m.answers mode.streaming j (Accept n Done) → (b : Option O) → Built mode.outputs (IsOutput c.trees) b → Goal (Ok (j, b))
  done_shown n a b h = ended (escape_rule Gives Grows at) all_pieces (always m) c (Some (Accept n Done)) (tt, a) None refl h

  -- an item that begins no piece ends the list
  pub other_shown : (n : ℕ) → m.answers mode.streaming j (Accept n Other) → (c.taken ≡ 0 → ⊥) → (b : Option O) →
      Built mode.outputs (IsOutput c.trees) b → Goal (Ok (j, b))
  other_shown n a h b g = ended (escape_rule Gives Grows at) all_pieces (always m) c (Some (Accept n Other))
      (tt, a) None (other_turn (length c.trees) n (some_taken w (m.answers mode.streaming) j 0 i c.trees c.taken c.pieces h)) g

  -- a refusal with an error of its own
  module _ (n : ℕ) (x : NextPiece V) (a : m.answers mode.streaming j (Accept n x)) (place : I) (e : Ends Refuse ≡ by_next_piece x (length c.trees) n) where
    own_refused : ((y : E) → Gives place y → (escape_rule Gives Grows at).Blames i (length c.trees) j (Some (Accept n x))
        (m.blames mode.streaming j) y) → ((mode.errors ≡ true) × Grows → (escape_rule Gives Grows at).Asks mode (length c.trees) (Some (Accept n x))) →
        (f : Answer.Err E (Option E) Needed) → Refuses (Gives place) Grows mode.errors f → Goal (Err f)
    own_refused blames asks f (inl h) =
        subst (λ y. Goal (Err y)) (sym h.0) (ran_out (escape_rule Gives Grows at) all_pieces (always m) c (Some (Accept n x)) (tt, a) (asks (h.1, h.2)))
    own_refused blames asks f (inr h) =
        subst (λ y. Goal (Err y)) (sym h.2)
        (refused (escape_rule Gives Grows at) all_pieces (always m) c (Some (Accept n x))
        (tt, a) e h.0 (built_error mode.errors (Gives place) _ h.0 blames h.1))

  pub start_refused : (n : ℕ) → m.answers mode.streaming j (Accept n Other) → c.taken ≡ 0 → (f : Answer.Err E (Option E) Needed) →
      Refuses (Gives i) Grows mode.errors f → Goal (Err f)
  start_refused n a h f r = own_refused n Other a i
      (refused_turn (length c.trees) n (none_taken w (m.answers mode.streaming) j 0 i c.trees c.taken c.pieces h)) (λ y g. g)
      (λ g. (none_taken w (m.answers mode.streaming) j 0 i c.trees c.taken c.pieces h, g.0, g.1)) f r

  pub dangling_refused : (n : ℕ) → m.answers mode.streaming j (Accept n Dangling) → (f : Answer.Err E (Option E) Needed) →
      Refuses (Gives (at i j)) Grows mode.errors f → Goal (Err f)
  dangling_refused n a f r = own_refused n Dangling a (at i j) refl (λ y g. g) (λ g. g) f r

  -- a piece that consumes nothing is the last one
  pub empty_shown : (n : ℕ) (v : V) → m.answers mode.streaming j (Accept n (Found v)) → n ≡ 0 → (b : Option O) →
      Built mode.outputs (IsOutput (c.trees ++ v ∷ [])) b → Goal (Ok (j, b))
  empty_shown n v a e b h = ended (escape_rule Gives Grows at) all_pieces (always m) c (Some (Accept n (Found v))) (tt, a) (Some v)
      (subst (λ y. Ends (Accept 0 (Some v)) ≡ by_next_piece (Found v) (length c.trees) y) (sym e) refl) h

  -- there is no memory for a piece
  pub full_shown : (n : ℕ) (v : V) → m.answers mode.streaming j (Accept n (Found v)) → mode.outputs ≡ true → Goal (Err OutOfMemory)
  full_shown n v a h = ran_out (escape_rule Gives Grows at) all_pieces (always m) c (Some (Accept n (Found v))) (tt, a) h

  -- a piece that consumes is taken
  pub piece_taken : {More : List V → Type 0} (n : ℕ) (v : V) (h : I) → m.answers mode.streaming j (Accept n (Found v)) → 0 < n → IsSuffixOf w j n h →
      More (c.trees ++ v ∷ []) → Collected w (TurnsBy None escape_turn (λ _. m.answers mode.streaming)) More i h
  piece_taken n v h a p r g = collected_more l (TurnsBy None escape_turn (λ _. m.answers mode.streaming)) v c
      (record {
        reply = Some (Accept n (Found v));
        replied = (tt, a);
        fact = where_some (λ y. Takes y v ≡ by_next_piece (Found v) (length c.trees) y) (λ y. refl) p;
      }) r g

  -- all else is passed on
  module _ {X : Type 0} (IsX : NextPiece V → X → Type 0) where
    stops : {f : Answer.Err E (Option E) Needed} → IsNoRefusal f → ShowsAnswer w IsX (with_outputs true mode) j
        (m.answers mode.streaming j) (m.blames mode.streaming j) (m.may_run_out mode j) (Err f) → Goal (Err f)
    stops other h = stopped (escape_rule Gives Grows at) all_pieces (always m) c (record { ends = λ k why. refl; blames = λ i k j cause P e z. z })
        tt refl other h

    pub passed_on : (f : Answer.Err E (Option E) Needed) → ShowsAnswer w IsX (with_outputs true mode) j (m.answers mode.streaming j)
        (m.blames mode.streaming j) (m.may_run_out mode j) (Err f) → Goal (Err f)
    passed_on (Error b) h = let p = part_refusal refl h in
        refused (escape_rule Gives Grows at) all_pieces (always m) c (Some Refuse) (tt, p.0) refl b p.1
    passed_on (Failure x) h = stops tt h
    passed_on (Incomplete k) h = stops tt h
    passed_on OutOfMemory h = stops tt h

-- what stands at a place, by the value that is returned
module _ {I A U W O X : Type 0} (w : Model I A) (outputs : Bool) (IsNormal : U → O → Type 0) (IsEscapable : W → X → Type 0) (i : I)
    (Answers : Outcome (NextPiece (Piece U W)) → Type 0) where
  pub record FoundPiece (j : I) (x : Piece (Option O) (Option X)) : Type 0 where
    pub length : ℕ
    pub tree : Piece U W
    pub answered : Answers (Accept length (Found tree))
    pub rest_is : IsSuffixOf w i length j
    pub is_piece : IsPiece outputs IsNormal IsEscapable tree x

  -- an acceptance, with what stands there
  pub record Accepted (j : I) (y : NextPiece (Piece (Option O) (Option X))) : Type 0 where
    pub length : ℕ
    pub tree : NextPiece (Piece U W)
    pub answered : Answers (Accept length tree)
    pub rest_is : IsSuffixOf w i length j
    pub is_next_piece : IsNextPiece outputs IsNormal IsEscapable tree y

  pub next_piece_accepted : (j : I) (b : Option (NextPiece (Piece (Option O) (Option X)))) (y : NextPiece (Piece (Option O) (Option X))) → b ≡ Some y →
      Accepts w (IsNextPiece outputs IsNormal IsEscapable) true i Answers j b → Accepted j y
  next_piece_accepted j b y e a =
      let same : (a.built_is).0 ≡ y = cc (e, (a.built_is).1) in
      record {
        length = a.length;
        tree = a.tree;
        answered = a.answered;
        rest_is = a.rest_is;
        is_next_piece =
            subst (λ z. IsNextPiece outputs IsNormal IsEscapable a.tree z) same (a.built_is).2;
      }

  found_of : (j : I) (x : Piece (Option O) (Option X)) (n : ℕ) (t : NextPiece (Piece U W)) → Answers (Accept n t) → IsSuffixOf w i n j →
      IsNextPiece outputs IsNormal IsEscapable t (Found x) → FoundPiece j x
  found_of j x n (Found v) a r h = record { length = n; tree = v; answered = a; rest_is = r; is_piece = h }
  found_of j x n Other a r h = absurd (cc (h))
  found_of j x n Dangling a r h = absurd (cc (h))
  found_of j x n Done a r h = absurd (cc (h))

  pub piece_found : (j : I) (y : NextPiece (Piece (Option O) (Option X))) (x : Piece (Option O) (Option X)) → y ≡ Found x → Accepted j y → FoundPiece j x
  piece_found j y x e a = found_of j x a.length a.tree a.answered a.rest_is (subst (λ z. IsNextPiece outputs IsNormal IsEscapable a.tree z) e a.is_next_piece)

  other_of : (n : ℕ) (t : NextPiece (Piece U W)) → Answers (Accept n t) → IsNextPiece outputs IsNormal IsEscapable t Other → Answers (Accept n Other)
  other_of n (Found v) a h = absurd h
  other_of n Other a h = a
  other_of n Dangling a h = absurd (cc (h))
  other_of n Done a h = absurd (cc (h))

  pub other_found : (j : I) (y : NextPiece (Piece (Option O) (Option X))) → y ≡ Other → (a : Accepted j y) → Answers (Accept a.length Other)
  other_found j y e a = other_of a.length a.tree a.answered (subst (λ z. IsNextPiece outputs IsNormal IsEscapable a.tree z) e a.is_next_piece)

  dangling_of : (n : ℕ) (t : NextPiece (Piece U W)) → Answers (Accept n t) → IsNextPiece outputs IsNormal IsEscapable t Dangling → Answers (Accept n Dangling)
  dangling_of n (Found v) a h = absurd h
  dangling_of n Other a h = absurd (cc (h))
  dangling_of n Dangling a h = a
  dangling_of n Done a h = absurd (cc (h))

  pub dangling_found : (j : I) (y : NextPiece (Piece (Option O) (Option X))) → y ≡ Dangling → (a : Accepted j y) → Answers (Accept a.length Dangling)
  dangling_found j y e a = dangling_of a.length a.tree a.answered (subst (λ z. IsNextPiece outputs IsNormal IsEscapable a.tree z) e a.is_next_piece)

  done_of : (n : ℕ) (t : NextPiece (Piece U W)) → Answers (Accept n t) → IsNextPiece outputs IsNormal IsEscapable t Done → Answers (Accept n Done)
  done_of n (Found v) a h = absurd h
  done_of n Other a h = absurd (cc (h))
  done_of n Dangling a h = absurd (cc (h))
  done_of n Done a h = a

  pub done_found : (j : I) (y : NextPiece (Piece (Option O) (Option X))) → y ≡ Done → (a : Accepted j y) → Answers (Accept a.length Done)
  done_found j y e a = done_of a.length a.tree a.answered (subst (λ z. IsNextPiece outputs IsNormal IsEscapable a.tree z) e a.is_next_piece)

-- the same at equal states of the parts, an equal control character and an equal size that lacks
pub same_next_piece : {S T I A U W O X E : Type 0} (w : Model I A) (normal : S → Grammar I U O E) (escapable : T → Grammar I W X E) (mode : Modes)
    (IsControl : ℕ → A → Type 0) (i : I) (r : PResult I (NextPiece (Piece (Option O) (Option X))) E) (a b : S) (x y : ℕ) (c d : T) (e f : Option ℕ) →
    a ≡ b → x ≡ y → c ≡ d → e ≡ f → ShowsNextPiece w (normal a).IsOutput (escapable c).IsOutput mode (IsControl x) e (normal a).meaning
    (escapable c).meaning i r →
    ShowsNextPiece w (normal b).IsOutput (escapable d).IsOutput mode (IsControl y) f (normal b).meaning (escapable d).meaning i r
same_next_piece w normal escapable mode IsControl i r a b x y c d e f p q t u h =
    let first = subst (λ z. ShowsNextPiece w (normal z).IsOutput (escapable c).IsOutput mode (IsControl x) e (normal z).meaning (escapable c).meaning i r)
    p h in
    let second = subst (λ z. ShowsNextPiece w (normal b).IsOutput (escapable c).IsOutput mode (IsControl z) e (normal b).meaning (escapable c).meaning i r)
    q first in
    let third = subst (λ z. ShowsNextPiece w (normal b).IsOutput (escapable z).IsOutput mode (IsControl y) e (normal b).meaning (escapable z).meaning i r)
    t second in
    subst (λ z. ShowsNextPiece w (normal b).IsOutput (escapable d).IsOutput mode (IsControl y) z (normal b).meaning (escapable d).meaning i r) u third

-- of the pieces nothing is asked
abbrev pub AnyPieces : {V : Type 0} → List V → Type 0
AnyPieces vs = Unit {0}

-- of a value that isn't built nothing is asked
abbrev pub NoValue : {V : Type 0} → List V → Unit {0} → Type 0
NoValue vs o = Unit {0}

-- a rest that is shorter was not reached by nothing
pub taken_some : {I A : Type 0} (w : Model I A) (i : I) (n : ℕ) (j : I) (a b : ℕ) → IsSuffixOf w i n j → b ≡ input_len w j → a ≡ input_len w i →
    (b ≡ a → ⊥) → n ≡ 0 → ⊥
taken_some w i n j a b r x y h e = h (omega (arith, rest_length r, x, y, e))
