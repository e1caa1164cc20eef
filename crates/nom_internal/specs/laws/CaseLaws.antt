-- The laws of cases over one part's outcome.
use Rattle.std.specs.Prelude.{◌≡◌, ℕ, Bool, true, false, not, [], refl}
use Rattle.std.proofs.Common.{sym, ◌∙◌, ap, subst}
use Rattle.nom_internal.specs.Prelude.{Modes, Model, IsBoundary, IsSame, Related, same_self, Outcome, Cause, Accept, Refuse, Stop, Fails, Needs, IsDecided}
use Rattle.nom_internal.specs.Prelude.{Meaning, IsLawful, IsSteady, Keeps, Agree, Carries, Within, SameBlame, PartMode, mode_of, SettlesIn, Case, OnPart}
use Rattle.nom_internal.specs.Prelude.{case_meaning, plain_case, labelled, labelled_meaning, fixed_case, fixed_meaning, Closed, OnRefused, closed_case}
use Rattle.nom_internal.specs.Prelude.{closed_meaning, AsAsked, Always, RunsOutInPart, RunsOutBeside}
use Rattle.nom_internal.specs.laws.PartLaws.{keeps_mapped, failure_mapped, Transfers, transfers, transferred}

-- the part runs in the streaming mode where the whole does
abbrev pub Streams : PartMode → Type 0
Streams mode = mode_of mode true ≡ true

-- What cases must keep, where their premise holds. Do longer inputs keep it too (true), or, if that isn't asked, only those that
-- are equal as models?
pub record CaseLaws {I A J B P T E F : Type 0} (stays : Bool) (w : Model I A) (v : Model J B) (c : Case I J P T E F) : Type 1 where
  -- related inputs have related inputs of the part
  pub at_known : (i : I) (j : J) → w.IsKnown i → c.At i j → v.IsKnown j
  pub at_related : (longer : Bool) → (longer ≡ true → stays ≡ true) → (x y : I) (j k : J) → Related w longer x y → c.At x j → c.At y k → Related v longer j k
  pub at_consistent : (x y : I) (j : J) → IsSame w x y → c.At x j → (k : J) × c.At y k
  -- where the whole is decided, so is a part that streams as the whole does
  pub keeps : Streams c.mode → (i : I) (a : Outcome P) (o : Outcome T) → c.Becomes i a o → IsDecided o → IsDecided a
  -- an outcome of the part becomes one outcome, on related inputs too
  pub same : (longer : Bool) → (longer ≡ true → stays ≡ true) → (x y : I) (a : Outcome P) (o p : Outcome T) → w.IsKnown x → w.IsKnown y →
      Related w longer x y → c.Becomes x a o → Keeps longer o → c.Becomes y a p → o ≡ p
  pub consistent : (x y : I) (a : Outcome P) (o : Outcome T) → w.IsKnown x → w.IsKnown y → IsSame w x y → c.Becomes x a o → c.Becomes y a o
  -- what is accepted is a front, where what the part accepts is one
  pub place : (i : I) (j : J) (a : Outcome P) (n : ℕ) (t : T) → w.IsKnown i → c.At i j → ((m : ℕ) (u : P) → a ≡ Accept m u → IsBoundary v j m) →
      c.Becomes i a (Accept n t) → IsBoundary w i n
  pub never_fails : (Part : Cause → Type 0) (cause : Cause) (i : I) (a : Outcome P) → c.NeverFails Part cause → c.Becomes i a (Stop (Fails cause)) →
      Part cause × (a ≡ Stop (Fails cause))
  -- the part's errors stand for themselves
  pub blames : (i : I) (a : Outcome P) (X Y : E → Type 0) (e : F) → ((f : E) → X f → Y f) → c.Blames i a X e → c.Blames i a Y e
  pub part_frugal : (Part : Modes → Type 0) (mode : Modes) → c.IsFrugal Part mode → Part (c.part mode)
  pub asks_none : (Part : Modes → Type 0) (mode : Modes) (i : I) (a : Outcome P) → c.IsFrugal Part mode → c.Asks mode i a → ⊥

module _ {I A J B P T E F : Type 0} {stays : Bool} (w : Model I A) (v : Model J B) (c : Case I J P T E F) (l : CaseLaws stays w v c) where
  keeps_part : (longer : Bool) → (longer ≡ true → Streams c.mode) → (i : I) (a : Outcome P) (o : Outcome T) → c.Becomes i a o → Keeps longer o → Keeps longer a
  keeps_part true only i a o b k = l.keeps (only refl) i a o b k
  keeps_part false only i a o b k = tt

  pub case_agree : (longer : Bool) → (longer ≡ true → Streams c.mode) → (longer ≡ true → stays ≡ true) → (R S : J → Outcome P → Type 0) →
      Agree v longer R S → Agree w longer (λ i o. OnPart c.At R (λ _ a. c.Becomes i a o) i) (λ i o. OnPart c.At S (λ _ a. c.Becomes i a o) i)
  case_agree longer only keeps R S f x y o p kx ky r s k t =
      let e = f s.at t.at s.outcome t.outcome (l.at_known x s.at kx s.at_is) (l.at_known y t.at ky t.at_is)
      (l.at_related longer keeps x y s.at t.at r s.at_is t.at_is) s.answered (keeps_part longer only x s.outcome o s.fact k) t.answered in
      l.same longer keeps x y s.outcome o p kx ky r s.fact k (subst (λ z. c.Becomes y z p) (sym e) t.fact)

  pub case_carries : (decided : Bool) → (decided ≡ true → Streams c.mode) → (R S : J → Outcome P → Type 0) → Carries v decided R S →
      Carries w decided (λ i o. OnPart c.At R (λ _ a. c.Becomes i a o) i) (λ i o. OnPart c.At S (λ _ a. c.Becomes i a o) i)
  case_carries decided only R S f x y o kx ky r s k =
      let there = l.at_consistent x y s.at r s.at_is in
      record {
        at = there.0;
        at_is = there.1;
        outcome = s.outcome;
        answered = f s.at there.0 s.outcome (l.at_known x s.at kx s.at_is) (l.at_known y there.0 ky there.1)
            (l.at_related false (λ e. cc) x y s.at there.0 r s.at_is there.1) s.answered (keeps_part decided only x s.outcome o s.fact k);
        fact = l.consistent x y s.outcome o kx ky r s.fact;
      }

  case_within : (R : J → Outcome P → Type 0) → Within v R → Within w (λ i o. OnPart c.At R (λ _ a. c.Becomes i a o) i)
  case_within R f i n t h s = l.place i s.at s.outcome n t h s.at_is
      (λ m u e. f s.at m u (l.at_known i s.at h s.at_is) (subst (λ z. R s.at z) e s.answered)) s.fact

  same_at : (i : I) (j k : J) → c.At i j → c.At i k → IsSame v j k
  same_at i j k p q = l.at_related false (λ e. cc) i i j k (same_self w i) p q

  case_blames : Streams c.mode → (R S : J → Outcome P → Type 0) (X Y : J → E → Type 0) → Transfers v R S X Y →
      SameBlame w (λ i o. OnPart c.At R (λ _ a. c.Becomes i a o) i) (λ i o. OnPart c.At S (λ _ a. c.Becomes i a o) i)
      (λ i e. OnPart c.At R (λ j a. c.Blames i a (X j) e) i) (λ i e. OnPart c.At S (λ j a. c.Blames i a (Y j) e) i)
  case_blames only R S X Y f i o e h s t d b =
      let kb = l.at_known i b.at h b.at_is in
      let moved = transferred v R S X Y f b.at s.at t.at b.outcome s.outcome t.outcome kb (l.at_known i s.at h s.at_is) (l.at_known i t.at h t.at_is)
      (same_at i b.at s.at b.at_is s.at_is) (same_at i t.at b.at t.at_is b.at_is) b.answered s.answered t.answered
      (l.keeps only i s.outcome o s.fact d) (l.keeps only i t.outcome o t.fact d) in
      record {
        at = b.at;
        at_is = b.at_is;
        outcome = b.outcome;
        answered = moved.0;
        fact = l.blames i b.outcome (X b.at) (Y b.at) e (λ z x. f.blames b.at b.outcome z kb b.answered moved.0 moved.1 x) b.fact;
      }

  module _ (m : Meaning J P E) (p : IsLawful v m) where
    case_frugal : (mode : Modes) (i : I) → w.IsKnown i → c.IsFrugal m.IsFrugal mode → (case_meaning c m).may_run_out mode i → ⊥
    case_frugal mode i h g (RunsOutInPart j q r) = p.frugal (c.part mode) j (l.at_known i j h q) (l.part_frugal m.IsFrugal mode g) r
    case_frugal mode i h g (RunsOutBeside r) = l.asks_none m.IsFrugal mode i r.outcome g r.fact

    case_never : (cause : Cause) → c.NeverFails m.NeverFails cause → (s : Bool) (i : I) → w.IsKnown i → (case_meaning c m).answers s i (Stop (Fails cause)) → ⊥
    case_never cause g s i h a =
        let n = l.never_fails m.NeverFails cause i a.outcome g a.fact in
        p.never_fails cause n.0 (mode_of c.mode s) a.at (l.at_known i a.at h a.at_is) (subst (λ z. m.answers (mode_of c.mode s) a.at z) n.1 a.answered)

-- how a whole settles, by the mode of its part
module _ {I A J B P T E F : Type 0} {stays : Bool} {w : Model I A} {v : Model J B} {c : Case I J P T E F} (l : CaseLaws stays w v c) {m : Meaning J P E}
    (p : IsLawful v m) where
  abbrev Answers : Bool → I → Outcome T → Type 0
  Answers s i o = OnPart c.At (m.answers s) (λ _ a. c.Becomes i a o) i

  abbrev Errors : Bool → I → F → Type 0
  Errors s i e = OnPart c.At (m.answers s) (λ j a. c.Blames i a (m.blames s j) e) i

  decided_consistent : (s : Bool) → Carries w true (Answers s) (Answers s)
  decided_consistent s x y o kx ky r a d = case_carries w v c l false (λ e. cc) (m.answers s) (m.answers s) (p.consistent s) x y o kx ky r a tt

  case_settles : (mode : PartMode) → c.mode ≡ mode → SettlesIn mode m.Settles → Carries w true (Answers (mode_of mode true)) (Answers (mode_of mode false))
  case_settles AsAsked e t = case_carries w v c l true (λ _. ap (λ z. mode_of z true) e) (m.answers true) (m.answers false) (p.settles t)
  case_settles (Always b) e t = decided_consistent b

  case_blames_consistent : (mode : PartMode) → c.mode ≡ mode → SettlesIn mode m.Settles → (s : Bool) →
      SameBlame w (Answers (mode_of mode s)) (Answers (mode_of mode (not s))) (Errors (mode_of mode s)) (Errors (mode_of mode (not s)))
  case_blames_consistent AsAsked e t s =
      case_blames w v c l (ap (λ z. mode_of z true) e) (m.answers s) (m.answers (not s)) (m.blames s) (m.blames (not s)) (transfers v m p t s)
  case_blames_consistent (Always b) e t s = λ i o f h a z d x. x

  pub case_lawful : IsLawful w (case_meaning c m)
  case_lawful = record {
    within = λ s. case_within w v c l (m.answers (mode_of c.mode s)) (p.within (mode_of c.mode s));
    one_outcome = λ s. case_agree w v c l false (λ e. cc) (λ e. cc) (m.answers (mode_of c.mode s)) (m.answers (mode_of c.mode s))
        (p.one_outcome (mode_of c.mode s));
    consistent = λ s. case_carries w v c l false (λ e. cc) (m.answers (mode_of c.mode s)) (m.answers (mode_of c.mode s)) (p.consistent (mode_of c.mode s));
    frugal = case_frugal w v c l m p;
    settles = case_settles c.mode refl;
    blames_consistent = case_blames_consistent c.mode refl;
    never_fails = case_never w v c l m p;
  }

module _ {I A J B P T E F : Type 0} {w : Model I A} {v : Model J B} {c : Case I J P T E F} (l : CaseLaws true w v c) {m : Meaning J P E} where
  pub case_steady : Streams c.mode → IsSteady v m → IsSteady w (case_meaning c m)
  case_steady only p = record {
    stays = case_agree w v c l true (λ _. only) (λ _. refl) (m.answers (mode_of c.mode true)) (m.answers (mode_of c.mode true))
        (subst (λ s. Agree v true (m.answers s) (m.answers s)) (sym only) p.stays);
  }

-- nothing is a front
pub no_place : {I A : Type 0} (w : Model I A) (i : I) → IsBoundary w i 0
no_place w i = record { front = []; rest = w.elements i; whole = refl; length_is = refl }

-- the laws that cases at the same input have
module _ {I A : Type 0} (w : Model I A) where
  pub here_known : (i j : I) → w.IsKnown i → i ≡ j → w.IsKnown j
  here_known i j h e = subst w.IsKnown e h

  pub here_related : (longer : Bool) (x y j k : I) → Related w longer x y → x ≡ j → y ≡ k → Related w longer j k
  here_related longer x y j k r e f = subst (λ z. Related w longer j z) f (subst (λ z. Related w longer z y) e r)

  pub here_consistent : (x y j : I) → IsSame w x y → x ≡ j → (k : I) × (y ≡ k)
  here_consistent x y j r e = (y, refl)

  pub here_place : (i j : I) (n : ℕ) → i ≡ j → IsBoundary w j n → IsBoundary w i n
  here_place i j n e = subst (λ z. IsBoundary w z n) (sym e)

-- cases that make one outcome of each outcome, of its kind: `f` keeps what is decided, what is accepted and how it fails
pub record IsOutcomeMap {P T : Type 0} (f : Outcome P → Outcome T) : Type 0 where
  pub keeps : (a : Outcome P) → IsDecided (f a) → IsDecided a
  pub accepts : (a : Outcome P) (n : ℕ) (t : T) → Accept n t ≡ f a → (u : P) × (a ≡ Accept n u)
  pub fails : (cause : Cause) (a : Outcome P) → Stop (Fails cause) ≡ f a → a ≡ Stop (Fails cause)

pub labels : {P T : Type 0} (label : P → T) → IsOutcomeMap (labelled label)
labels {P} {T} label = record { keeps = λ a. keeps_mapped true (λ n. n) label a; accepts = accepts; fails = λ cause a. failure_mapped cause (λ n. n) label a }
  where
    accepts : (a : Outcome P) (n : ℕ) (t : T) → Accept n t ≡ labelled label a → (u : P) × (a ≡ Accept n u)
    accepts (Accept m u) n t e = let same : n ≡ m = cc in (u, ap (λ z. Accept z u) (sym same))
    accepts Refuse n t e = cc
    accepts (Stop why) n t e = cc

pub passes_all : {P : Type 0} → IsOutcomeMap {P = P} (λ a. a)
passes_all = record {
  keeps = λ a d. d;
  accepts = λ a n t e. (t, sym e);
  fails = λ cause a e. sym e;
}

module _ {I A P T : Type 0} (w : Model I A) (f : Outcome P → Outcome T) (is : IsOutcomeMap f) where
  pub map_keeps : (a : Outcome P) (o : Outcome T) → o ≡ f a → IsDecided o → IsDecided a
  map_keeps a o e d = is.keeps a (subst (λ z. IsDecided z) e d)

  pub map_place : (i j : I) (a : Outcome P) (n : ℕ) (t : T) → i ≡ j → ((m : ℕ) (u : P) → a ≡ Accept m u → IsBoundary w j m) → Accept n t ≡ f a →
      IsBoundary w i n
  map_place i j a n t e place b = let k = is.accepts a n t b in here_place w i j n e (place n k.0 k.1)

module _ {I A P : Type 0} (w : Model I A) where
  pub labelled_laws : {T E : Type 0} (label : P → T) → CaseLaws {E = E} true w w (plain_case (λ b. b) (λ i a o. o ≡ labelled label a))
  labelled_laws label = record {
    at_known = here_known w;
    at_related = λ longer stays. here_related w longer;
    at_consistent = here_consistent w;
    keeps = λ only i a o. map_keeps w (labelled label) (labels label) a o;
    same = λ longer stays x y a o p kx ky r s k t. s ∙ sym t;
    consistent = λ x y a o kx ky r b. b;
    place = λ i j a n t h e place b. map_place w (labelled label) (labels label) i j a n t e place b;
    never_fails = λ Part cause i a g e. (g, (labels label).fails cause a e);
    blames = λ i a X Y e f. f e;
    part_frugal = λ Part mode h. h;
    asks_none = λ Part mode i a h g. g;
  }

  pub fixed_laws : {E : Type 0} (mode : Bool) → CaseLaws {E = E} true w w (fixed_case {P = P} mode)
  fixed_laws mode = record {
    at_known = here_known w;
    at_related = λ longer stays. here_related w longer;
    at_consistent = here_consistent w;
    keeps = λ only i a o. map_keeps w (λ a. a) passes_all a o;
    same = λ longer stays x y a o p kx ky r s k t. s ∙ sym t;
    consistent = λ x y a o kx ky r b. b;
    place = λ i j a n t h e place b. map_place w (λ a. a) passes_all i j a n t e place b;
    never_fails = λ Part cause i a g e. (g, sym e);
    blames = λ i a X Y e f. f e;
    part_frugal = λ Part mode h. h;
    asks_none = λ Part mode i a h g. g;
  }

  closed_more : {E : Type 0} (Closes : E → E → Type 0) (a : Outcome P) (X Y : E → Type 0) (e : E) → ((f : E) → X f → Y f) → Closed Closes a X e →
      Closed Closes a Y e
  closed_more Closes (Accept n v) X Y e f h = h
  closed_more Closes Refuse X Y e f h = (h.0, f h.0 h.1, h.2)
  closed_more Closes (Stop (Fails cause)) X Y e f h = f e h
  closed_more Closes (Stop (Needs k)) X Y e f h = h

  refused_only : (Fact : Type 0) (a : Outcome P) → (Fact → ⊥) → OnRefused Fact a → ⊥
  refused_only Fact (Accept n v) f h = h
  refused_only Fact Refuse f h = f h
  refused_only Fact (Stop why) f h = h

  pub closed_laws : {E : Type 0} (Closes : I → E → E → Type 0) (Grows : Type 0) → CaseLaws true w w (closed_case {P = P} Closes Grows)
  closed_laws Closes Grows = record {
    at_known = here_known w;
    at_related = λ longer stays. here_related w longer;
    at_consistent = here_consistent w;
    keeps = λ only i a o. map_keeps w (λ a. a) passes_all a o;
    same = λ longer stays x y a o p kx ky r s k t. s ∙ sym t;
    consistent = λ x y a o kx ky r b. b;
    place = λ i j a n t h e place b. map_place w (λ a. a) passes_all i j a n t e place b;
    never_fails = λ Part cause i a g e. (g, sym e);
    blames = λ i a X Y e f. closed_more (Closes i) a X Y e f;
    part_frugal = λ Part mode h. h.0;
    asks_none = λ Part mode i a h g. refused_only ((mode.errors ≡ true) × Grows) a (λ z. h.1 z.0 z.1) g;
  }

module _ {I A P E : Type 0} {w : Model I A} {m : Meaning I P E} where
  pub labelled_lawful : {T : Type 0} {label : P → T} → IsLawful w m → IsLawful w (labelled_meaning label m)
  labelled_lawful {label = label} l = case_lawful (labelled_laws w label) l

  pub labelled_steady : {T : Type 0} {label : P → T} → IsSteady w m → IsSteady w (labelled_meaning label m)
  labelled_steady {label = label} l = case_steady (labelled_laws w label) refl l

  pub fixed_lawful : {mode : Bool} → IsLawful w m → IsLawful w (fixed_meaning mode m)
  fixed_lawful {mode} l = case_lawful (fixed_laws w mode) l

  pub fixed_steady : IsSteady w m → IsSteady w (fixed_meaning true m)
  fixed_steady l = case_steady (fixed_laws w true) refl l

  pub closed_lawful : {Closes : I → E → E → Type 0} {Grows : Type 0} → IsLawful w m → IsLawful w (closed_meaning Closes Grows m)
  closed_lawful {Closes} {Grows} l = case_lawful (closed_laws w Closes Grows) l

  pub closed_steady : {Closes : I → E → E → Type 0} {Grows : Type 0} → IsSteady w m → IsSteady w (closed_meaning Closes Grows m)
  closed_steady {Closes} {Grows} l = case_steady (closed_laws w Closes Grows) refl l
