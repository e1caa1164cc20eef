-- Lemmas on the answers of a repetition.
use Rattle.std.proofs.Common.{◌≡◌, ℕ, ◌+◌, ◌<◌, Bool, Ok, Err, Option, Some, ◌⊎◌, List, [], ◌∷◌, ◌++◌, length, refl, zero, suc, arith, inl, inr, subst, sym}
use Rattle.nom_error.specs.declared.answer.Err as Answer
use Rattle.nom_internal.specs.Outcome.{Reason}
use Rattle.nom_internal.specs.Prelude.{Needed, Incomplete, Error, Failure, OutOfMemory, Built, Modes, Model, InputLaws, IsSuffixOf, input_len}
use Rattle.nom_internal.specs.Prelude.{rest_rest, Outcome, Accept, Refuse, Stop, Fails, Needs, RanOut, Shown, ShowsAnswer, ShowsMeaning, Family, after, Cause}
use Rattle.nom_internal.proofs.Consumed.{rest_length}
use Rattle.nom_internal.proofs.Shown.{built_error}
pub use Rattle.nom_repeat.specs.Repeat.{Collected}
use Rattle.nom_repeat.specs.Repeat.{Turn, Pieces, Reaches, Repeats, IsBelow, Replies, OnReply, TurnsBy, Rule, repeat_meaning}
use Rattle.nom_repeat.specs.Repeat.Turn.{Takes, Ends}

module _ {I A V T : Type 0} (w : Model I A) (Turns : ℕ → I → Turn V T → Type 0) where
  -- what holds at the place reached
  pub pieces_end : (Fact : ℕ → I → Type 0) (j : I) (c : ℕ) → Fact c j → (k : ℕ) (i : I) (vs : List V) (n : ℕ) → k + length vs ≡ c →
      Pieces w Turns (λ _ x. x ≡ j) k i vs n → Pieces w Turns Fact k i vs n
  pieces_end Fact j c h k i [] n e p = (p.0, subst (λ x. Fact k x) (sym p.1) (subst (λ z. Fact z j) (omega (arith, e)) h))
  pieces_end Fact j c h k i (v ∷ vs) n e p = (p.0, p.1, p.2, p.3, p.4, pieces_end Fact j c h (k + 1) p.2 vs p.1 (omega (arith, e)) p.5, p.6)

  -- one item more
  pub pieces_more : (h j : I) (a : ℕ) (v : V) (c : ℕ) → IsSuffixOf w h a j → Turns c h (Takes a v) → (k : ℕ) (i : I) (vs : List V) (n : ℕ) →
      k + length vs ≡ c → Pieces w Turns (λ _ x. x ≡ h) k i vs n → Pieces w Turns (λ _ x. x ≡ j) k i (vs ++ v ∷ []) (n + a)
  pieces_more h j a v c r t k i [] n e p = (
    a,
    0,
    j,
    subst (λ x. Turns k x (Takes a v)) (sym p.1) (subst (λ z. Turns z h (Takes a v)) (omega (arith, e)) t),
    subst (λ x. IsSuffixOf w x a j) (sym p.1) r,
    (refl, refl),
    omega (arith, p.0),
  )
  pieces_more h j a v c r t k i (u ∷ vs) n e p =
      (p.0, p.1 + a, p.2, p.3, p.4, pieces_more h j a v c r t (k + 1) p.2 vs p.1 (omega (arith, e)) p.5, omega (arith, p.6))

  -- of the trees another fact holds
  pub collected_as : {Held More : List V → Type 0} {i j : I} → ((vs : List V) → Held vs → More vs) → Collected w Turns Held i j → Collected w Turns More i j
  collected_as f c = record { trees = c.trees; taken = c.taken; pieces = c.pieces; rest_is = c.rest_is; held = f c.trees c.held }

module _ {I A V T : Type 0} {w : Model I A} (l : InputLaws w) where
  pub collected_none : {Turns : ℕ → I → Turn V T → Type 0} {Held : List V → Type 0} {i : I} → w.IsKnown i → Held [] → Collected w Turns Held i i
  collected_none {i = i} known h =
      record {
        trees = [];
        taken = 0;
        pieces = (refl, refl);
        rest_is =
            record { known = known; front = []; whole = refl; length_is = refl; mark_is = sym (l.mark_none (w.mark i)) };
        held = h;
      }

  pub collected_more : (Turns : ℕ → I → Turn V T → Type 0) {Held More : List V → Type 0} {i j h : I} {a : ℕ} (v : V) →
      (c : Collected w Turns Held i j) → Turns (length c.trees) j (Takes a v) → IsSuffixOf w j a h → More (c.trees ++ v ∷ []) → Collected w Turns More i h
  collected_more Turns {i = i} {j = j} {h = h} {a = a} v c t q z = record {
    trees = c.trees ++ v ∷ [];
    taken = c.taken + a;
    pieces = pieces_more w Turns j h a v (length c.trees) q t 0 i c.trees c.taken (omega arith) c.pieces;
    rest_is = rest_rest w l i c.taken j a h c.rest_is q;
    held = z;
  }

-- all that a parser answers but an acceptance and a refusal
abbrev pub IsNoRefusal : {E : Type 0} → Answer.Err E (Option E) Needed → Type 0
IsNoRefusal (Error x) = ⊥
IsNoRefusal (Failure x) = Unit {0}
IsNoRefusal (Incomplete k) = Unit {0}
IsNoRefusal OutOfMemory = Unit {0}

-- A stop of the part ends the repetition with that stop, whatever came before, and the errors of a failure are the part's.
pub record PassesStops {I P V T E : Type 0} (r : Rule I P V T E) : Type 1 where
  pub ends : (k : ℕ) (why : Reason) → Ends (Stop why) ≡ r.turn k (Some (Stop why))
  pub blames : (i : I) (k : ℕ) (j : I) (cause : Cause) (X : E → Type 0) (e : E) → X e → r.Blames i k j (Some (Stop (Fails cause))) X e

module _ {I A P V T R E : Type 0} (w : Model I A) (r : Rule I P V T E) (tree : List V → T → R) (f : Family ℕ I P E) (s : Bool) {Held : List V → Type 0}
    (i j : I) (c : Collected w (TurnsBy r.bound r.turn (λ k. (f.at k).answers s)) Held i j) where
  reaches : (Fact : ℕ → I → Type 0) → Fact (length c.trees) j → Reaches w (TurnsBy r.bound r.turn (λ k. (f.at k).answers s)) Fact i
  reaches Fact h = record {
    trees = c.trees;
    taken = c.taken;
    pieces =
        pieces_end w (TurnsBy r.bound r.turn (λ k. (f.at k).answers s)) Fact j (length c.trees) h 0 i c.trees c.taken (omega arith) c.pieces;
  }

  -- what the part replies here
  module _ (a : Option (Outcome P)) (p : Replies r.bound (λ k. (f.at k).answers s) (length c.trees) j a) where
    ends : (o : Outcome T) → Ends o ≡ r.turn (length c.trees) a →
        Repeats w (TurnsBy r.bound r.turn (λ k. (f.at k).answers s)) tree i (after c.taken (tree c.trees) o)
    ends o t = record {
      trees = c.trees;
      taken = c.taken;
      ending = o;
      pieces =
          pieces_end w (TurnsBy r.bound r.turn (λ k. (f.at k).answers s)) (λ k x. TurnsBy r.bound r.turn (λ k. (f.at k).answers s) k x (Ends o)) j
          (length c.trees) (record { reply = a; replied = p; fact = t }) 0 i c.trees c.taken (omega arith) c.pieces;
      outcome_is = refl;
    }

    -- it ends by an error that is blamed on the part's outcome
    blamed : (e : E) → r.Blames i (length c.trees) j a ((f.at (length c.trees)).blames s j) e → (repeat_meaning w r tree f).blames s i e
    blamed e h = reaches (λ k x. OnReply r.bound (λ k. (f.at k).answers s) (λ y. r.Blames i k x y ((f.at k).blames s x) e) k x)
        (record { reply = a; replied = p; fact = h })

-- memory may run out at what the part replies
pub may_ask : {I A P V T R E : Type 0} {w : Model I A} (r : Rule I P V T E) (tree : List V → T → R) (f : Family ℕ I P E)
    {mode : Modes} {Held : List V → Type 0} {i j : I} (c : Collected w (TurnsBy r.bound r.turn (λ k. (f.at k).answers mode.streaming)) Held i j)
    (a : Option (Outcome P)) → Replies r.bound (λ k. (f.at k).answers mode.streaming) (length c.trees) j a → r.Asks mode (length c.trees) a →
    (repeat_meaning w r tree f).may_run_out mode i
may_ask {w = w} r tree f {mode} {Held} {i} {j} c a p h = reaches w r tree f mode.streaming i j c
    (λ k x. OnReply r.bound (λ k. (f.at k).answers mode.streaming) (r.Asks mode k) k x ⊎ (IsBelow r.bound k × (f.at k).may_run_out (r.part k mode) x))
    (inl (record { reply = a; replied = p; fact = h }))

module _ {I A P V T R O E : Type 0} {w : Model I A} (r : Rule I P V T E) (tree : List V → T → R) (f : Family ℕ I P E) {IsOutput : R → O → Type 0}
    {mode : Modes} {Held : List V → Type 0} {i j : I} (c : Collected w (TurnsBy r.bound r.turn (λ k. (f.at k).answers mode.streaming)) Held i j) where
  -- what the part replies here
  module _ (a : Option (Outcome P)) (p : Replies r.bound (λ k. (f.at k).answers mode.streaming) (length c.trees) j a) where
    -- the repetition ends with success, before what the part accepts, wherever memory may run out
    pub ended : (t : T) → Ends (Accept 0 t) ≡ r.turn (length c.trees) a → {b : Option O} {RunsOut : Type 0} →
        Built mode.outputs (IsOutput (tree c.trees t)) b → ShowsAnswer w IsOutput mode i ((repeat_meaning w r tree f).answers mode.streaming i)
        ((repeat_meaning w r tree f).blames mode.streaming i) RunsOut (Ok (j, b))
    ended t e {b = b} h = Shown (Accept (c.taken + 0) (tree c.trees t)) (ends w r tree f mode.streaming i j c a p (Accept 0 t) e)
        (j, b, subst (λ n. IsSuffixOf w i n j) (omega arith) c.rest_is, h, refl)

    -- or after it
    pub ended_after : InputLaws w → (n : ℕ) (t : T) {h : I} → IsSuffixOf w j n h → Ends (Accept n t) ≡ r.turn (length c.trees) a →
        {b : Option O} {RunsOut : Type 0} → Built mode.outputs (IsOutput (tree c.trees t)) b → ShowsAnswer w IsOutput mode i
        ((repeat_meaning w r tree f).answers mode.streaming i) ((repeat_meaning w r tree f).blames mode.streaming i) RunsOut (Ok (h, b))
    ended_after l n t {h} q e {b = b} z = Shown (Accept (c.taken + n) (tree c.trees t)) (ends w r tree f mode.streaming i j c a p (Accept n t) e)
        (h, b, rest_rest w l i c.taken j n h c.rest_is q, z, refl)

    pub refused : Ends Refuse ≡ r.turn (length c.trees) a → (b : Option E) →
        Built mode.errors (r.Blames i (length c.trees) j a ((f.at (length c.trees)).blames mode.streaming j)) b →
        ShowsMeaning w IsOutput (repeat_meaning w r tree f) mode i (Err (Error b))
    refused e b h = Shown Refuse (ends w r tree f mode.streaming i j c a p Refuse e)
        (b, built_error mode.errors _ _ b (blamed w r tree f mode.streaming i j c a p) h, refl)

    -- it ran out there, in whatever mode that is told
    pub ran_out : r.Asks mode (length c.trees) a → {told : Modes} → ShowsAnswer w IsOutput told i ((repeat_meaning w r tree f).answers mode.streaming i)
        ((repeat_meaning w r tree f).blames mode.streaming i) ((repeat_meaning w r tree f).may_run_out mode i) (Err OutOfMemory)
    ran_out h = RanOut refl (may_ask r tree f c a p h)

  -- A failure of the part, a lack and want of memory are the repetition's own, in whatever mode either is told.
  pub stopped : PassesStops r → IsBelow r.bound (length c.trees) → {X : Type 0} {IsItem : P → X → Type 0} {asked told : Modes}
      {e g : Answer.Err E (Option E) Needed} → e ≡ g → IsNoRefusal g →
      ShowsAnswer w IsItem asked j ((f.at (length c.trees)).answers mode.streaming j) ((f.at (length c.trees)).blames mode.streaming j)
      ((f.at (length c.trees)).may_run_out (r.part (length c.trees) mode) j) (Err e) →
      ShowsAnswer w IsOutput told i ((repeat_meaning w r tree f).answers mode.streaming i) ((repeat_meaning w r tree f).blames mode.streaming i)
      ((repeat_meaning w r tree f).may_run_out mode i) (Err g)
  stopped p below is other (RanOut x h) = RanOut (cc (is, x))
      (reaches w r tree f mode.streaming i j c (λ k y. OnReply r.bound (λ n. (f.at n).answers mode.streaming) (r.Asks mode k) k y ⊎
      (IsBelow r.bound k × (f.at k).may_run_out (r.part k mode) y)) (inr (below, h)))
  stopped p below is other (Shown (Accept n v) a s) = absurd (cc (s.4))
  stopped p below {g = g} is other (Shown Refuse a s) = let e : g ≡ Error s.0 = cc (is, s.2) in absurd (subst (λ y. IsNoRefusal y) e other)
  stopped p below is other (Shown (Stop (Fails cause)) a s) = Shown (Stop (Fails cause))
      (ends w r tree f mode.streaming i j c (Some (Stop (Fails cause))) (below, a) (Stop (Fails cause)) (p.ends (length c.trees) (Fails cause))) (
        s.0,
        blamed w r tree f mode.streaming i j c (Some (Stop (Fails cause))) (below, a) s.0 (p.blames i (length c.trees) j cause _ s.0 s.1),
        cc (is, s.2),
      )
  stopped p below is other (Shown (Stop (Needs n)) a s) = Shown (Stop (Needs n))
      (ends w r tree f mode.streaming i j c (Some (Stop (Needs n))) (below, a) (Stop (Needs n)) (p.ends (length c.trees) (Needs n))) (s.0, s.1, cc (is, s.2))

-- a fact of each length above 0
pub where_some : (Fact : ℕ → Type 0) → ((m : ℕ) → Fact (suc m)) → {n : ℕ} → 0 < n → Fact n
where_some Fact h {n = zero} p = absurd (omega (arith, p))
where_some Fact h {n = suc m} p = h m

-- lengths tell whether a part consumed
module _ {I A : Type 0} {w : Model I A} {i : I} {n : ℕ} {j : I} where
  pub is_empty : {a b : ℕ} → IsSuffixOf w i n j → b ≡ input_len w j → a ≡ input_len w i → b ≡ a → n ≡ 0
  is_empty r x y e = omega (arith, rest_length r, x, y, e)

  pub consumes : {a b : ℕ} → IsSuffixOf w i n j → b ≡ input_len w j → a ≡ input_len w i → (b ≡ a → ⊥) → 0 < n
  consumes {a} {b} r x y e = by_cases n r x y e
    where
      by_cases : (m : ℕ) → IsSuffixOf w i m j → b ≡ input_len w j → a ≡ input_len w i → (b ≡ a → ⊥) → 0 < m
      by_cases zero r x y e = absurd (e (omega (arith, rest_length r, x, y)))
      by_cases (suc m) r x y e = omega arith

  pub is_shorter : IsSuffixOf w i n j → 0 < n → input_len w j < input_len w i
  is_shorter r p = omega (arith, rest_length r, p)
