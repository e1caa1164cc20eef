-- Parsers over bytes by what they read of a list, in the complete mode: one lemma for each combinator, by its meaning.
use Rattle.std.specs.Prelude.{◌≡◌, ℕ, ◌+◌, ◌≤◌, ◌++◌, Bool, true, false, List, Option, Some, drop}
use Rattle.std.proofs.Common.{arith, sym, ◌∙◌, ap, refl, subst, inl, inr}
use Rattle.std.proofs.lemmas.List.{drop-drop}
use Rattle.std.proofs.Math.Seq.{drop-append_seam}
use Rattle.nom_error.specs.Modes.{with_outputs}
use Rattle.nom_error.specs.declared.value.Error.{Error}
use Rattle.nom_internal.specs.Prelude.{Accept, Case, Cause, Closed, Fails, FirstFails, FirstRefuses, GoesOn, GoesOnRefused, IsFailure, IsFault, IsSuffixOf}
use Rattle.nom_internal.specs.Prelude.{Leaf, LeafAnswers, Meaning, Modes, Needs, NextBlames, NextFails, NextRefuses, OnPart, OnRefused, OrBlames, Outcome}
use Rattle.nom_internal.specs.Prelude.{Reason, Refuse, RunsOutBeside, RunsOutFirst, RunsOutInPart, RunsOutNext, Stop, ThenBlames, after, bytes_model}
use Rattle.nom_internal.specs.Prelude.{case_meaning, closed_case, closed_meaning, items_len-ones, labelled, leaf_meaning, mode_of, or_meaning}
use Rattle.nom_internal.specs.Prelude.{plain_case, premised, sequence_meaning}
use Rattle.nom_internal.specs.Sequence.ThenBlames.{BlamesFirst, BlamesNext}
use Rattle.nom_internal.specs.Tuples.{built_meaning}
use Rattle.nom_combinator.specs.Verdicts.{NeverCut, cut_meaning, cut_outcome, opt_meaning, opt_outcome, verdict_case}
use Rattle.nom_json_run.specs.Grammars.{Bytes}
use Rattle.nom_json_run.specs.Json.{first_is, and_then}
use Rattle.nom_json_run.proofs.Decisions.{Decides, choose, chosen, chosen_other, decides_not, decides_then, led, led_first, led_then}
use Rattle.nom_json_run.proofs.Decisions.{none_taken}

abbrev pub After : Type 0
After = List ℕ → Option (List ℕ)

-- How a part reads. By a function: where it is accepted the function has what is left, and elsewhere nothing; such a part that isn't refused; one that
-- is refused just where its first byte fails a test, with a function of the other bytes. Or by facts of where it is accepted (true) and of its errors.
pub data Part : Type 1 where
  Any : After → Part
  Sure : After → Part
  Led : (ℕ → Bool) → After → Part
  By : (Bool → List ℕ → ℕ → Type 0) → Part

-- of the bytes before a place and the one there: a part is accepted up to the place (true), or an error is there
abbrev pub Fact : Part → Bool → List ℕ → ℕ → Type 0
Fact (Any f) = Decides f
Fact (Sure f) = Decides f
Fact (Led test next) = Decides (led test next)
Fact (By facts) = facts

-- where a part fails (true) or is refused
abbrev pub Ends : Part → Bool → List ℕ → Type 0
Ends (Any f) fails xs = Unit {0}
Ends (Sure f) fails xs = fails ≡ true
Ends (Led test next) fails xs = first_is test xs ≡ fails
Ends (By facts) fails xs = Unit {0}

abbrev pub Halts : Part → List ℕ → Reason → Type 0
Halts p xs (Fails c) = Ends p true xs
Halts p xs (Needs n) = ⊥

-- an outcome, and that what is accepted has a least length
abbrev pub OutcomeIs : {V : Type 0} → Part → ℕ → List ℕ → Outcome V → Type 0
OutcomeIs p k xs (Accept n v) = (k ≤ n) × Fact p true xs n
OutcomeIs p k xs Refuse = Ends p false xs
OutcomeIs p k xs (Stop why) = Halts p xs why

-- an error's input is the bytes from a place on, of which the fact holds
pub record Placed (fact : List ℕ → ℕ → Type 0) (xs ys : List ℕ) : Type 0 where
  pub place : ℕ
  pub there : ys ≡ drop place xs
  pub holds : fact xs place

pub record Reads {V : Type 0} (p : Part) (k : ℕ) (m : Meaning Bytes V (Error Bytes)) : Type 0 where
  pub outcomes : (i : Bytes) (o : Outcome V) → m.answers false i o → OutcomeIs p k i.now o
  pub places : (i : Bytes) (o : Outcome V) (e : Error Bytes) → m.answers false i o → IsFault o → m.blames false i e → Placed (Fact p false) i.now e.input.now
  pub frugal : (mode : Modes) (i : Bytes) → m.may_run_out mode i → ⊥

pub moved : {fact other : List ℕ → ℕ → Type 0} {xs ys : List ℕ} → ((n : ℕ) → fact xs n → other xs n) → Placed fact xs ys → Placed other xs ys
moved f x = record { place = x.place; there = x.there; holds = f x.place x.holds }

-- from a place on
pub later_placed : {fact other : List ℕ → ℕ → Type 0} {xs ys zs : List ℕ} (n : ℕ) → ys ≡ drop n xs → ((m : ℕ) → fact (drop n xs) m → other xs (n + m)) →
    Placed fact ys zs → Placed other xs zs
later_placed {fact} {xs = xs} n from f x = record {
  place = n + x.place;
  there = x.there ∙ (ap (drop x.place) from ∙ drop-drop x.place n xs);
  holds = f x.place (subst (λ ys. fact ys x.place) from x.holds);
}

pub rest_from : (i : Bytes) (n : ℕ) (j : Bytes) → IsSuffixOf bytes_model i n j → j.now ≡ drop n i.now
rest_from i n j s =
    let size = sym (items_len-ones s.front) ∙ s.length_is in
    sym (ap (drop n) s.whole ∙ (ap (λ k. drop k (s.front ++ j.now)) (sym size) ∙ drop-append_seam s.front j.now))

-- a part of which less is said
module _ {V : Type 0} {p : Part} {k : ℕ} {m : Meaning Bytes V (Error Bytes)} (r : Reads p k m) (q : Part) (l : ℕ) (le : l ≤ k)
    (facts : (t : Bool) (xs : List ℕ) (n : ℕ) → Fact p t xs n → Fact q t xs n) (ends : (s : Bool) (xs : List ℕ) → Ends p s xs → Ends q s xs) where
  other_outcome : (xs : List ℕ) (o : Outcome V) → OutcomeIs p k xs o → OutcomeIs q l xs o
  other_outcome xs (Accept n v) h = (omega (arith, le, h.0), facts true xs n h.1)
  other_outcome xs Refuse h = ends false xs h
  other_outcome xs (Stop (Fails c)) h = ends true xs h
  other_outcome xs (Stop (Needs n)) h = h

  pub reads_as : Reads q l m
  reads_as = record {
    outcomes = λ i o h. other_outcome i.now o (r.outcomes i o h);
    places = λ i o e h t b. moved (facts false i.now) (r.places i o e h t b);
    frugal = r.frugal;
  }

-- one part after another
module _ {P Q T : Type 0} (tree : P → Q → T) (f g : Modes → Modes) (r : Part) {p q : Part} {k l : ℕ} {a : Meaning Bytes P (Error Bytes)}
    {b : Meaning Bytes Q (Error Bytes)} (ra : Reads p k a) (rb : Reads q l b)
    (joins : (t : Bool) (xs : List ℕ) (n m : ℕ) → Fact p true xs n → Fact q t (drop n xs) m → Fact r t xs (n + m))
    (first : (xs : List ℕ) (n : ℕ) → Fact p false xs n → Fact r false xs n) (ends : (s : Bool) (xs : List ℕ) → Ends p s xs → Ends r s xs)
    (next : (s : Bool) (xs : List ℕ) (n : ℕ) → Fact p true xs n → Ends q s (drop n xs) → Ends r s xs) where
  after_outcome : (xs : List ℕ) (n : ℕ) (u : P) (o : Outcome Q) → OutcomeIs p k xs (Accept n u) → OutcomeIs q l (drop n xs) o →
      OutcomeIs r (k + l) xs (after n (tree u) o)
  after_outcome xs n u (Accept m v) h h' = (omega (arith, h.0, h'.0), joins true xs n m h.1 h'.1)
  after_outcome xs n u Refuse h h' = next false xs n h.1 h'
  after_outcome xs n u (Stop (Fails c)) h h' = next true xs n h.1 h'
  after_outcome xs n u (Stop (Needs c)) h h' = h'

  then_outcome : (i : Bytes) (o : Outcome T) (x : Outcome P) → a.answers false i x → GoesOn bytes_model tree (λ _. b.answers false) i x o →
      OutcomeIs r (k + l) i.now o
  then_outcome i o (Accept n u) h (j, y, s, h', e) = subst (OutcomeIs r (k + l) i.now) (sym e)
      (after_outcome i.now n u y (ra.outcomes i (Accept n u) h) (subst (λ ys. OutcomeIs q l ys y) (rest_from i n j s) (rb.outcomes j y h')))
  then_outcome i o Refuse h e = subst (OutcomeIs r (k + l) i.now) (sym e) (ends false i.now (ra.outcomes i Refuse h))
  then_outcome i o (Stop (Fails c)) h e = subst (OutcomeIs r (k + l) i.now) (sym e) (ends true i.now (ra.outcomes i (Stop (Fails c)) h))
  then_outcome i o (Stop (Needs n)) h e = absurd (ra.outcomes i (Stop (Needs n)) h)

  then_places : (i : Bytes) (e : Error Bytes) → ThenBlames bytes_model (a.answers false) (a.blames false) (λ _. b.answers false) (λ _. b.blames false) i e →
      Placed (Fact r false) i.now e.input.now
  then_places i e (BlamesFirst x) = moved (first i.now) (ra.places i x.outcome e x.answered x.kind_is x.fact)
  then_places i e (BlamesNext x) =
      later_placed x.length (rest_from i x.length x.rest x.rest_is) (λ m. joins false i.now x.length m (ra.outcomes i (Accept x.length x.tree) x.accepted).1)
      (rb.places x.rest x.fact.outcome e x.fact.answered x.fact.kind_is x.fact.fact)

  pub then_reads : Reads r (k + l) (sequence_meaning bytes_model tree f g a b)
  then_reads = record {
    outcomes = λ i o h. then_outcome i o h.first h.answered h.goes_on;
    places = λ i o e h t x. then_places i e x;
    frugal = λ mode i h. elim h [ RunsOutFirst x ↦ ra.frugal (f mode) i x | RunsOutNext x ↦ rb.frugal (g mode) x.rest x.fact ];
  }

module _ {P Q T : Type 0} (tree : P → Q → T) (f g : Modes → Modes) {y : After} {k l : ℕ} {a : Meaning Bytes P (Error Bytes)}
    {b : Meaning Bytes Q (Error Bytes)} where
  pub sequence_reads : {x : After} → Reads (Any x) k a → Reads (Any y) l b → Reads (Any (λ bs. and_then (x bs) y)) (k + l)
      (sequence_meaning bytes_model tree f g a b)
  sequence_reads {x} ra rb = then_reads tree f g (Any (λ bs. and_then (x bs) y)) ra rb (λ t xs n m h h'. decides_then h h') (λ xs n h. decides_not y h)
      (λ s xs h. tt) (λ s xs n h h'. tt)

  pub sequence_leads : {test : ℕ → Bool} {next : After} → Reads (Led test next) k a → Reads (Sure y) l b → Reads (Led test (λ bs. and_then (next bs) y)) (k + l)
      (sequence_meaning bytes_model tree f g a b)
  sequence_leads {test} {next} ra rb = then_reads tree f g (Led test (λ bs. and_then (next bs) y)) ra rb
      (λ t xs n m h h'. led_then test next y (decides_then h h')) (λ xs n h. led_then test next y (decides_not y h)) (λ s xs h. h)
      (λ s xs n h e. led_first test next h ∙ sym e)

-- what an outcome becomes: what is told of it, and the facts of its error
abbrev Turned : {P T : Type 0} → (p q : Part) (k l : ℕ) → List ℕ → Outcome P → Outcome T → Type 0
Turned p q k l xs a o = OutcomeIs p k xs a → OutcomeIs q l xs o × (IsFault o → IsFault a × ((n : ℕ) → Fact p false xs n → Fact q false xs n))

-- a part that runs at the same place, and whose errors stay
module _ {P T : Type 0} {m : Meaning Bytes P (Error Bytes)} {p : Part} {k : ℕ} (r : Reads p k m) (c : Case Bytes Bytes P T (Error Bytes) (Error Bytes))
    (q : Part) (l : ℕ) (at : (i j : Bytes) → c.At i j → i ≡ j) (asked : mode_of c.mode false ≡ false)
    (turned : (i : Bytes) (a : Outcome P) (o : Outcome T) → c.Becomes i a o → Turned p q k l i.now a o)
    (blamed : (i : Bytes) (a : Outcome P) (e : Error Bytes) → c.Blames i a (m.blames (mode_of c.mode false) i) e → m.blames false i e)
    (asks : (mode : Modes) (i : Bytes) (a : Outcome P) → c.Asks mode i a → ⊥) where
  on_part : {Fact : Bytes → Outcome P → Type 0} {i : Bytes} → OnPart c.At (m.answers (mode_of c.mode false)) Fact i →
      (a : Outcome P) × m.answers false i a × Fact i a
  on_part {Fact} {i} x = subst (λ j. (a : Outcome P) × m.answers false j a × Fact j a) (sym (at i x.at x.at_is))
      (x.outcome, subst (λ s. m.answers s x.at x.outcome) asked x.answered, x.fact)

  case_reads : Reads q l (case_meaning c m)
  case_reads = record {
    outcomes = λ i o h. let x = on_part h in (turned i x.0 o x.2 (r.outcomes i x.0 x.1)).0;
    places = λ i o e h t b.
        let x = on_part h in
        let y = on_part b in
        let f = (turned i x.0 o x.2 (r.outcomes i x.0 x.1)).1 t in
        moved f.1 (r.places i x.0 e x.1 f.0 (blamed i y.0 e y.2));
    frugal = λ mode i h. elim h [ RunsOutInPart j e x ↦ r.frugal (c.part mode) j x | RunsOutBeside x ↦ asks mode i x.outcome x.fact ];
  }

-- a part with another tree
module _ {P T : Type 0} {m : Meaning Bytes P (Error Bytes)} {p : Part} {k : ℕ} (r : Reads p k m) (outputs : Bool → Bool)
    (Becomes : Bytes → Outcome P → Outcome T → Type 0)
    (label : (i : Bytes) (a : Outcome P) (o : Outcome T) → Becomes i a o → (f : P → T) × (o ≡ labelled f a)) where
  like_turned : (xs : List ℕ) (f : P → T) (a : Outcome P) → Turned p p k k xs a (labelled f a)
  like_turned xs f (Accept n u) h = (h, λ t. absurd t)
  like_turned xs f Refuse h = (h, λ t. (tt, λ n x. x))
  like_turned xs f (Stop (Fails c)) h = (h, λ t. (tt, λ n x. x))
  like_turned xs f (Stop (Needs n)) h = absurd h

  pub like_reads : Reads p k (case_meaning (plain_case outputs Becomes) m)
  like_reads = case_reads r (plain_case outputs Becomes) p k (λ i j e. e) refl
      (λ i a o b. let l = label i a o b in subst (Turned p p k k i.now a) (sym l.1) (like_turned i.now l.0 a)) (λ i a e b. b) (λ mode i a x. x)

-- refusals that are final
module _ {P : Type 0} {f : After} {k : ℕ} {m : Meaning Bytes P (Error Bytes)} (r : Reads (Any f) k m) where
  cut_turned : (xs : List ℕ) (a : Outcome P) → Turned (Any f) (Sure f) k k xs a (cut_outcome a)
  cut_turned xs (Accept n v) h = (h, λ t. absurd t)
  cut_turned xs Refuse h = (refl, λ t. (tt, λ n x. x))
  cut_turned xs (Stop (Fails c)) h = (refl, λ t. (tt, λ n x. x))
  cut_turned xs (Stop (Needs n)) h = absurd h

  pub cut_reads : Reads (Sure f) k (cut_meaning m)
  cut_reads = case_reads r (verdict_case cut_outcome (λ _. true) NeverCut) (Sure f) k (λ i j e. e) refl
      (λ i a o e. subst (Turned (Any f) (Sure f) k k i.now a) (sym e) (cut_turned i.now a)) (λ i a e b. b) (λ mode i a x. x)

-- a part that may be missing, where the first byte decides whether it is
module _ {P : Type 0} {test : ℕ → Bool} {next : After} {k : ℕ} {m : Meaning Bytes P (Error Bytes)} (r : Reads (Led test next) k m) where
  opt_turned : (xs : List ℕ) (a : Outcome P) → Turned (Led test next) (Sure (choose test next Some)) k 0 xs a (opt_outcome a)
  opt_turned xs (Accept n v) h = ((omega arith, chosen test next Some (led_first test next h.1) h.1), λ t. absurd t)
  opt_turned xs Refuse h = ((omega arith, chosen_other test next Some h (none_taken xs)), λ t. absurd t)
  opt_turned xs (Stop (Fails c)) h = (refl, λ t. (tt, λ n. chosen test next Some h))
  opt_turned xs (Stop (Needs n)) h = absurd h

  pub opt_reads : Reads (Sure (choose test next Some)) 0 (opt_meaning m)
  opt_reads = case_reads r (verdict_case opt_outcome (λ _. false) (λ Part. Part)) (Sure (choose test next Some)) 0 (λ i j e. e) refl
      (λ i a o e. subst (Turned (Led test next) (Sure (choose test next Some)) k 0 i.now a) (sym e) (opt_turned i.now a)) (λ i a e b. b) (λ mode i a x. x)

-- a choice, closed: the error of its refusal stays
pub closed_blamed : {P : Type 0} (m : Meaning Bytes P (Error Bytes)) (i : Bytes) (a : Outcome P) (e : Error Bytes) →
    Closed (λ other e. e ≡ other) a (m.blames false i) e → m.blames false i e
closed_blamed m i (Accept n u) e x = absurd x
closed_blamed m i Refuse e x = subst (m.blames false i) (sym x.2) x.1
closed_blamed m i (Stop (Fails c)) e x = x
closed_blamed m i (Stop (Needs n)) e x = absurd x

module _ {P : Type 0} {m : Meaning Bytes P (Error Bytes)} {p : Part} {k : ℕ} (r : Reads p k m) where
  closed_asks : (Asked : Type 0) (a : Outcome P) → OnRefused (Asked × ⊥) a → ⊥
  closed_asks Asked (Accept n u) x = x
  closed_asks Asked Refuse x = x.1
  closed_asks Asked (Stop why) x = x

  pub closed_reads : Reads p k (closed_meaning (λ _ other e. e ≡ other) ⊥ m)
  closed_reads = case_reads r (closed_case (λ _ other e. e ≡ other) ⊥) p k (λ i j e. e) refl
      (λ i a o e. subst (Turned p p k k i.now a) (sym e) (λ h. (h, λ t. (t, λ n x. x)))) (closed_blamed m) (λ mode i. closed_asks (mode.errors ≡ true))

  -- a part whose outputs are built
  pub built_reads : Reads p k (built_meaning m)
  built_reads = record { outcomes = r.outcomes; places = r.places; frugal = λ mode i h. r.frugal (with_outputs true mode) i h }

pub failure_is : {P : Type 0} (o : Outcome P) → IsFailure o → (c : Cause) × (o ≡ Stop (Fails c))
failure_is (Accept n u) h = absurd h
failure_is Refuse h = absurd h
failure_is (Stop (Fails c)) h = (c, refl)
failure_is (Stop (Needs n)) h = absurd h

-- the first of two parts that isn't refused, where the first byte decides which
module _ {P : Type 0} {test : ℕ → Bool} {next other : After} {k l : ℕ} {a b : Meaning Bytes P (Error Bytes)} (ra : Reads (Led test next) k a)
    (rb : Reads (Any other) l b) (le : l ≤ k) where
  refused_outcome : (xs : List ℕ) (o : Outcome P) → first_is test xs ≡ false → OutcomeIs (Any other) l xs o → OutcomeIs (Any (choose test next other)) l xs o
  refused_outcome xs (Accept n v) e h = (h.0, chosen_other test next other e h.1)
  refused_outcome xs Refuse e h = h
  refused_outcome xs (Stop why) e h = h

  either_outcome : (i : Bytes) (o x : Outcome P) → a.answers false i x → GoesOnRefused (b.answers false i) x o →
      OutcomeIs (Any (choose test next other)) l i.now o
  either_outcome i o (Accept n v) h e =
      let x = ra.outcomes i (Accept n v) h in
      subst (OutcomeIs (Any (choose test next other)) l i.now) (sym e) (omega (arith, le, x.0), chosen test next other (led_first test next x.1) x.1)
  either_outcome i o Refuse h h' = refused_outcome i.now o (ra.outcomes i Refuse h) (rb.outcomes i o h')
  either_outcome i o (Stop (Fails c)) h e = subst (OutcomeIs (Any (choose test next other)) l i.now) (sym e) tt
  either_outcome i o (Stop (Needs n)) h e = absurd (ra.outcomes i (Stop (Needs n)) h)

  other_placed : (i : Bytes) (o : Outcome P) (e : Error Bytes) → a.answers false i Refuse → b.answers false i o → IsFault o → b.blames false i e →
      Placed (Decides (choose test next other) false) i.now e.input.now
  other_placed i o e r h t x = moved (λ n. chosen_other test next other (ra.outcomes i Refuse r)) (rb.places i o e h t x)

  next_places : (i : Bytes) (e : Error Bytes) → a.answers false i Refuse → NextBlames (λ _ other e. e ≡ other) b false i (a.blames false i) e →
      Placed (Decides (choose test next other) false) i.now e.input.now
  next_places i e r (NextFails x) = other_placed i x.outcome e r x.answered (subst IsFault (sym (failure_is x.outcome x.kind_is).1) tt) x.fact
  next_places i e r (NextRefuses h x) = other_placed i Refuse e r h tt (subst (b.blames false i) (sym x.joined) x.second_is)

  either_places : (i : Bytes) (e : Error Bytes) → OrBlames (λ _ other e. e ≡ other) a b false i e →
      Placed (Decides (choose test next other) false) i.now e.input.now
  either_places i e (FirstFails x) =
      let f = failure_is x.outcome x.kind_is in
      let h = subst (a.answers false i) f.1 x.answered in
      moved (λ n. chosen test next other (ra.outcomes i (Stop (Fails f.0)) h)) (ra.places i (Stop (Fails f.0)) e h tt x.fact)
  either_places i e (FirstRefuses r x) = next_places i e r x

  pub either_reads : Reads (Any (choose test next other)) l (or_meaning (λ _ other e. e ≡ other) ⊥ a b)
  either_reads = record {
    outcomes = λ i o h. either_outcome i o h.first h.answered h.goes_on;
    places = λ i o e h t x. either_places i e x;
    frugal = λ mode i h. elim h [ inl x ↦ ra.frugal mode i x | inr x ↦ elim x.1 [ inl y ↦ rb.frugal mode i y | inr y ↦ y.2 ] ];
  }

-- a part without parts
module _ {V : Type 0} (Runs IsSound : Type 0) (leaf : Leaf Bytes V) (Blames : Bytes → Error Bytes → Type 0) (p : Part) {k : ℕ}
    (accepted : (i : Bytes) (n : ℕ) (v : V) → leaf.Accepts false i n v → (k ≤ n) × Fact p true i.now n)
    (refused : (i : Bytes) → leaf.Refuses false i → Ends p false i.now × Fact p false i.now 0) (here : (i : Bytes) (e : Error Bytes) → Blames i e → e.input ≡ i)
  where
    leaf_outcome : (i : Bytes) (o : Outcome V) → LeafAnswers leaf false i o → OutcomeIs p k i.now o
    leaf_outcome i (Accept n v) h = accepted i n v h
    leaf_outcome i Refuse h = (refused i h).0
    leaf_outcome i (Stop (Fails c)) h = absurd h
    leaf_outcome i (Stop (Needs n)) h = cc (h.0)

    leaf_places : (i : Bytes) (o : Outcome V) (e : Error Bytes) → LeafAnswers leaf false i o → IsFault o → Blames i e → Placed (Fact p false) i.now e.input.now
    leaf_places i (Accept n v) e h t x = absurd t
    leaf_places i Refuse e h t x = record { place = 0; there = ap (λ j. j.now) (here i e x); holds = (refused i h).1 }
    leaf_places i (Stop (Fails c)) e h t x = absurd h
    leaf_places i (Stop (Needs n)) e h t x = absurd t

    pub leaf_reads : Reads p k (premised Runs IsSound (leaf_meaning Blames ⊥ leaf))
    leaf_reads = record { outcomes = leaf_outcome; places = leaf_places; frugal = λ mode i h. h.2 }
