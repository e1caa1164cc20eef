-- Escapes, each with the plain characters after it, as many as there are.
use Rattle.std.specs.Prelude.{◌≡◌, ℕ, ◌+◌, ◌==◌, zero, suc, Bool, true, false, ltb, List, [], ◌∷◌, Option, Some, None, drop, refl}
use Rattle.std.proofs.Common.{arith, sym, ◌∙◌, ap, subst, inl, inr}
use Rattle.std.proofs.lemmas.Bool.{le-ltb}
use Rattle.std.proofs.lemmas.List.{drop-drop}
use Rattle.nom_error.specs.Errors.{Errors}
use Rattle.nom_error.specs.declared.kind.ErrorKind.TheVariants as Kind
use Rattle.nom_error.specs.declared.value.Error.{Error}
use Rattle.nom_error.specs.PlainErrors.{plain_errors}
use Rattle.nom_internal.specs.Prelude.{Meaning, bytes_model, Outcome, Accept, Refuse, Stop, Fails, Needs, after}
use Rattle.nom_repeat.specs.Bounds.{any_limits}
use Rattle.nom_repeat.specs.Items.{ItemAsks, ItemBlames, item_turn, items_meaning, refused_turn}
use Rattle.nom_repeat.specs.Repeat.{OnReply, Pieces, Replies, Turn, TurnsBy}
use Rattle.nom_repeat.specs.Repeat.Turn.{Ends, Takes}
use Rattle.nom_json_run.specs.Grammars.{Bytes}
use Rattle.nom_json_run.specs.Json.{JsonCharacters, begins, first_is, is_plain_code}
use Rattle.nom_json_run.proofs.Blames.{Blaming, IsBlamed, Where}
use Rattle.nom_json_run.proofs.Decisions.{Decides, Finds, led}
use Rattle.nom_json_run.proofs.Reading.{By, Led, Placed, Reads, OutcomeIs, later_placed, moved, rest_from}
use Rattle.nom_json_run.proofs.Strings.{Passes, after_piece, passes_finds, passes_more, passes_none, piece_lacks, piece_past}

-- Where no plain character stands, they pass to a place where neither such a one nor a backslash does; or no string is there.
pub record Passed (xs : List ℕ) (n : ℕ) : Type 0 where
  pub passes : Passes xs n
  pub no_plain : first_is is_plain_code (drop n xs) ≡ false
  pub no_backslash : begins 92 (drop n xs) ≡ false

abbrev pub Escaped : Bool → List ℕ → ℕ → Type 0
Escaped true xs n = first_is is_plain_code xs ≡ false → Passed xs n
Escaped false xs n = first_is is_plain_code xs ≡ false → Finds JsonCharacters false xs n

-- what a turn says of the bytes at its place
abbrev TurnIs : {V : Type 0} → List ℕ → Turn V (Unit {0}) → Type 0
TurnIs xs (Takes n v) = Decides (led (λ b. b == 92) after_piece) true xs n
TurnIs xs (Ends (Accept n w)) = (n ≡ 0) × (begins 92 xs ≡ false)
TurnIs xs (Ends Refuse) = ⊥
TurnIs xs (Ends (Stop (Fails c))) = Unit {0}
TurnIs xs (Ends (Stop (Needs n))) = ⊥

reached : {V : Type 0} (Turns : ℕ → Bytes → Turn V (Unit {0}) → Type 0) (Fact : ℕ → Bytes → Type 0) (k : ℕ) (i : Bytes) (vs : List V) (n : ℕ) →
    Pieces bytes_model Turns Fact k i vs n → (l : ℕ) × (j : Bytes) × Fact l j
reached Turns Fact k i [] n p = (k, i, p.1)
reached Turns Fact k i (v ∷ vs) n p = reached Turns Fact (k + 1) p.2 vs p.1 p.5

module _ {V : Type 0} {m : Meaning Bytes V (Error Bytes)} (r : Reads (Led (λ b. b == 92) after_piece) 1 m) where
  abbrev Turns : ℕ → Bytes → Turn V (Unit {0}) → Type 0
  Turns = TurnsBy None (item_turn (any_limits Kind.Many0Count)) (λ _. m.answers false)

  turn_outcome : (k : ℕ) (i : Bytes) (x : Option (Outcome V)) → Replies None (λ _. m.answers false) k i x →
      TurnIs i.now (item_turn (any_limits Kind.Many0Count) k x)
  turn_outcome k i (Some (Accept zero v)) h = absurd (omega (arith, (r.outcomes i (Accept 0 v) h.1).0))
  turn_outcome k i (Some (Accept (suc n) v)) h = (r.outcomes i (Accept (suc n) v) h.1).1
  turn_outcome k i (Some Refuse) h =
      let none : ltb k 0 ≡ false = le-ltb k 0 (omega arith) in
      subst (λ t. TurnIs {V = V} i.now (refused_turn t)) (sym none) (refl, r.outcomes i Refuse h.1)
  turn_outcome k i (Some (Stop (Fails c))) h = tt
  turn_outcome k i (Some (Stop (Needs n))) h = r.outcomes i (Stop (Needs n)) h.1
  turn_outcome k i None h = absurd (h tt)

  turn_is : (k : ℕ) (i : Bytes) (t : Turn V (Unit {0})) → Turns k i t → TurnIs i.now t
  turn_is k i t h = subst (TurnIs i.now) (sym h.fact) (turn_outcome k i h.reply h.replied)

  -- the place where the pieces end, of which the fact holds
  record Ended (Fact : ℕ → Bytes → Type 0) (i : Bytes) (n : ℕ) : Type 0 where
    pub count : ℕ
    pub at : Bytes
    pub there : at.now ≡ drop n i.now
    pub fact : Fact count at
    pub passes : first_is is_plain_code i.now ≡ false → Passes i.now n × (first_is is_plain_code (drop n i.now) ≡ false)

  ended : (Fact : ℕ → Bytes → Type 0) (k : ℕ) (i : Bytes) (vs : List V) (n : ℕ) → Pieces bytes_model Turns Fact k i vs n → Ended Fact i n
  ended Fact k i [] n p = subst (Ended Fact i) (sym p.0) (record { count = k; at = i; there = refl; fact = p.1; passes = λ e. (passes_none i.now, e) })
  ended Fact k i (v ∷ vs) n p =
      let from = rest_from i p.0 p.2 p.4 in
      let past = piece_past (turn_is k i (Takes p.0 v) p.3) in
      let next = ended Fact (k + 1) p.2 vs p.1 p.5 in
      let more = subst (λ xs. first_is is_plain_code xs ≡ false → Passes xs p.1 × (first_is is_plain_code (drop p.1 xs) ≡ false)) from next.passes past.next in
      subst (Ended Fact i) (sym p.6) (record {
        count = next.count;
        at = next.at;
        there = next.there ∙ (ap (drop p.1) from ∙ drop-drop p.1 p.0 i.now);
        fact = next.fact;
        passes = λ _. (passes_more past.passes more.0, ap (first_is is_plain_code) (sym (drop-drop p.1 p.0 i.now)) ∙ more.1);
      })

  many_outcome : (i : Bytes) (vs : List V) (n : ℕ) (o : Outcome (Unit {0})) → Ended (λ k j. Turns k j (Ends o)) i n →
      OutcomeIs (By Escaped) 0 i.now (after n (λ _. vs) o)
  many_outcome i vs n (Accept q w) f =
      let g = turn_is f.count f.at (Ends (Accept q w)) f.fact in
      let same : n ≡ n + q = omega (arith, g.0) in (
        omega arith,
        λ first. subst (Passed i.now) same (record {
          passes = (f.passes first).0;
          no_plain = (f.passes first).1;
          no_backslash = ap (begins 92) (sym f.there) ∙ g.1;
        }),
      )
  many_outcome i vs n Refuse f = tt
  many_outcome i vs n (Stop (Fails c)) f = tt
  many_outcome i vs n (Stop (Needs k)) f = turn_is f.count f.at (Ends (Stop (Needs k))) f.fact

  fault_at : (i j : Bytes) (k : ℕ) (e : Error Bytes) (x : Option (Outcome V)) → Replies None (λ _. m.answers false) k j x →
      ItemBlames plain_errors (any_limits Kind.Many0Count) i j x (m.blames false j) e → Placed (Finds JsonCharacters false) j.now e.input.now
  fault_at i j k e (Some (Accept zero v)) h b = absurd (omega (arith, (r.outcomes j (Accept 0 v) h.1).0))
  fault_at i j k e (Some (Accept (suc n) v)) h b = absurd b
  fault_at i j k e (Some Refuse) h b = absurd b
  fault_at i j k e (Some (Stop (Fails c))) h b = moved (λ n. piece_lacks (r.outcomes j (Stop (Fails c)) h.1)) (r.places j (Stop (Fails c)) e h.1 tt b)
  fault_at i j k e (Some (Stop (Needs n))) h b = absurd b
  fault_at i j k e None h b = absurd b

  abbrev Blamed : Bytes → Error Bytes → ℕ → Bytes → Type 0
  Blamed i e k j = OnReply None (λ _. m.answers false) (λ x. ItemBlames plain_errors (any_limits Kind.Many0Count) i j x (m.blames false j) e) k j

  many_places : (i : Bytes) (e : Error Bytes) (n : ℕ) → Ended (Blamed i e) i n → Placed (Escaped false) i.now e.input.now
  many_places i e n f =
      later_placed n f.there (λ l h first. passes_finds (f.passes first).0 h) (fault_at i f.at f.count e f.fact.reply f.fact.replied f.fact.fact)

  no_memory : (Errors Outputs : Type 0) (k : ℕ) (x : Option (Outcome V)) → ItemAsks (any_limits Kind.Many0Count) (Errors × ⊥) (Outputs × ⊥) k x → ⊥
  no_memory Errors Outputs k (Some (Accept zero v)) h = h.1
  no_memory Errors Outputs k (Some (Accept (suc n) v)) h = h.1
  no_memory Errors Outputs k (Some Refuse) h = h.1
  no_memory Errors Outputs k (Some (Stop why)) h = h
  no_memory Errors Outputs k None h = h

  pub many_reads : Reads (By Escaped) 0 (items_meaning bytes_model plain_errors (any_limits Kind.Many0Count) ⊥ m)
  many_reads = record {
    outcomes = λ i o h. subst (OutcomeIs (By Escaped) 0 i.now) (sym h.outcome_is)
        (many_outcome i h.trees h.taken h.ending (ended (λ k j. Turns k j (Ends h.ending)) 0 i h.trees h.taken h.pieces));
    places = λ i o e h t b. many_places i e b.taken (ended (Blamed i e) 0 i b.trees b.taken b.pieces);
    frugal = λ mode i h.
        let x = reached (TurnsBy None (item_turn (any_limits Kind.Many0Count)) (λ _. m.answers mode.streaming)) _ 0 i h.trees h.taken h.pieces in
        elim x.2 [ inl y ↦ no_memory (mode.errors ≡ true) (mode.outputs ≡ true) x.0 y.reply y.fact | inr y ↦ r.frugal _ x.1 y.1 ];
  }

  -- of the errors of the pieces, those of failures alone are told
  module _ (b : Blaming (Where (λ b. b == 92) true) m) where
    failed_told : (i j : Bytes) (k : ℕ) (e : Error Bytes) (x : Option (Outcome V)) → Replies None (λ _. m.answers false) k j x →
        ItemBlames plain_errors (any_limits Kind.Many0Count) i j x (m.blames false j) e → IsBlamed e
    failed_told i j k e (Some (Accept zero v)) h x = absurd (omega (arith, (r.outcomes j (Accept 0 v) h.1).0))
    failed_told i j k e (Some (Accept (suc n) v)) h x = absurd x
    failed_told i j k e (Some Refuse) h x = absurd x
    failed_told i j k e (Some (Stop (Fails c))) h x = b.told j (Stop (Fails c)) e h.1 tt x (r.outcomes j (Stop (Fails c)) h.1)
    failed_told i j k e (Some (Stop (Needs n))) h x = absurd x
    failed_told i j k e None h x = absurd x

    pub many_blames : Blaming (λ i e. IsBlamed e) (items_meaning bytes_model plain_errors (any_limits Kind.Many0Count) ⊥ m)
    many_blames = record {
      told = λ i o e h t x.
          let f = ended (Blamed i e) 0 i x.trees x.taken x.pieces in
          failed_told i f.at f.count e f.fact.reply f.fact.replied f.fact.fact;
    }
