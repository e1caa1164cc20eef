-- The laws of choices.
use Rattle.std.specs.Prelude.{◌≡◌, Bool, true, false, not, ◌⊎◌}
use Rattle.std.proofs.Common.{sym, ◌∙◌, subst, inl, inr}
use Rattle.nom_internal.specs.Prelude.{Modes, with_errors, Model, IsBoundary, same_self, Outcome, Cause, Accept, Refuse, Stop, Fails, IsDecided, IsFailure}
use Rattle.nom_internal.specs.Prelude.{IsFault, OnOutcome, Meaning, IsLawful, IsSteady, Keeps, Agree, Carries, Within, GoesOnRefused, OnRefusal, NextBlames}
use Rattle.nom_internal.specs.Prelude.{or_meaning, either_meaning, otherwise_meaning, NextRunsOut, OrBlames, OtherwiseBlames, NextFails, NextRefuses}
use Rattle.nom_internal.specs.Prelude.{FirstFails, FirstRefuses}
use Rattle.nom_internal.specs.laws.PartLaws.{one_at, transfers, transferred, blame_transferred}
use Rattle.nom_internal.specs.laws.CaseLaws.{labelled_lawful, labelled_steady}
use Rattle.nom_internal.specs.Choice.OtherwiseBlames.{FirstFaults, NextFaults}

module _ {V : Type 0} (N : Outcome V → Type 0) where
  -- where the whole is kept, so is the first
  pub keeps_refused : (longer : Bool) (a o : Outcome V) → Keeps longer o → GoesOnRefused N a o → Keeps longer a
  keeps_refused true (Accept n v) o k s = tt
  keeps_refused true Refuse o k s = tt
  keeps_refused true (Stop why) o k s = subst (λ z. IsDecided z) s k
  keeps_refused false a o k s = tt

  goes_agree : (M : Outcome V → Type 0) (a o p : Outcome V) → (N o → M p → o ≡ p) → GoesOnRefused N a o → GoesOnRefused M a p → o ≡ p
  goes_agree M (Accept n v) o p f s t = s ∙ sym t
  goes_agree M Refuse o p f s t = f s t
  goes_agree M (Stop why) o p f s t = s ∙ sym t

  goes_map : (M : Outcome V → Type 0) (a o : Outcome V) → (N o → M o) → GoesOnRefused N a o → GoesOnRefused M a o
  goes_map M (Accept n v) o f s = s
  goes_map M Refuse o f s = f s
  goes_map M (Stop why) o f s = s

  -- an outcome other than a refusal is the first's or the next one's
  goes_by : (a o : Outcome V) → GoesOnRefused N a o → (a ≡ o) ⊎ N o
  goes_by (Accept m u) o s = inl (sym s)
  goes_by Refuse o s = inr s
  goes_by (Stop why) o s = inl (sym s)

module _ {I A V : Type 0} (w : Model I A) (F G N M : I → Outcome V → Type 0) where
  pub or_agree : (longer : Bool) → Agree w longer F G → Agree w longer N M → Agree w longer (OnRefusal F N) (OnRefusal G M)
  or_agree longer f g x y o p kx ky r s k t =
      let e = f x y s.first t.first kx ky r s.answered (keeps_refused (N x) longer s.first o k s.goes_on) t.answered in
      goes_agree (N x) (M y) s.first o p (λ n m. g x y o p kx ky r n k m) s.goes_on (subst (λ z. GoesOnRefused (M y) z p) (sym e) t.goes_on)

  pub or_carries : (decided : Bool) → Carries w decided F G → Carries w decided N M → Carries w decided (OnRefusal F N) (OnRefusal G M)
  or_carries decided f g x y o kx ky r t k = record {
    first = t.first;
    answered = f x y t.first kx ky r t.answered (keeps_refused (N x) decided t.first o k t.goes_on);
    goes_on = goes_map (N x) (M y) t.first o (λ n. g x y o kx ky r n k) t.goes_on;
  }

module _ {I A V : Type 0} (w : Model I A) (F N : I → Outcome V → Type 0) where
  pub or_within : Within w F → Within w N → Within w (OnRefusal F N)
  or_within f g i n v h t = elim (goes_by (N i) t.first (Accept n v) t.goes_on) as (λ _. IsBoundary w i n) [
    | inl e ↦ f i n v h (subst (λ o. F i o) e t.answered)
    | inr m ↦ g i n v h m
  ]

  or_never : (cause : Cause) → ((i : I) → w.IsKnown i → F i (Stop (Fails cause)) → ⊥) → ((i : I) → w.IsKnown i → N i (Stop (Fails cause)) → ⊥) → (i : I) →
      w.IsKnown i → OnRefusal F N i (Stop (Fails cause)) → ⊥
  or_never cause f g i h t = elim (goes_by (N i) t.first (Stop (Fails cause)) t.goes_on) as (λ _. ⊥) [
    | inl e ↦ f i h (subst (λ o. F i o) e t.answered)
    | inr m ↦ g i h m
  ]

module _ {I A V E : Type 0} {w : Model I A} {a b : Meaning I V E} (p : IsLawful w a) (q : IsLawful w b) where
  -- what a choice answers, where its first part refuses
  goes_on_refused : (s : Bool) (i : I) (o : Outcome V) → w.IsKnown i → OnRefusal (a.answers s) (b.answers s) i o → a.answers s i Refuse → b.answers s i o
  goes_on_refused s i o h c r = subst (λ z. GoesOnRefused (b.answers s i) z o) (one_at w a p s i c.first Refuse h c.answered r) c.goes_on

  module _ (t : a.Settles × b.Settles) (s : Bool) (i : I) (o : Outcome V) (h : w.IsKnown i) (c : OnRefusal (a.answers s) (b.answers s) i o)
      (c' : OnRefusal (a.answers (not s)) (b.answers (not s)) i o) (d : IsDecided o) where
    -- a refusal of the first part in one mode is one in the other
    refused_too : a.answers s i Refuse → a.answers (not s) i Refuse
    refused_too r = (transferred w (a.answers s) (a.answers (not s)) (a.blames s) (a.blames (not s))
        (transfers w a p t.0 s) i i i Refuse c.first c'.first h h h (same_self w i)
        (same_self w i) r c.answered c'.answered (keeps_refused (b.answers s i) true c.first o d c.goes_on)
        (keeps_refused (b.answers (not s) i) true c'.first o d c'.goes_on)).0

    first_too : (e : E) → OnOutcome IsFailure (a.answers s) (a.blames s i e) i → OnOutcome IsFailure (a.answers (not s)) (a.blames (not s) i e) i
    first_too e f = blame_transferred w (a.answers s) (a.answers (not s)) (a.blames s) (a.blames (not s))
        (transfers w a p t.0 s) i i i c.first c'.first e h h h (same_self w i)
        (same_self w i) c.answered c'.answered (keeps_refused (b.answers s i) true c.first o d c.goes_on)
        (keeps_refused (b.answers (not s) i) true c'.first o d c'.goes_on) IsFailure f

    next_too : (IsKind : Outcome V → Type 0) (e : E) → a.answers s i Refuse → OnOutcome IsKind (b.answers s) (b.blames s i e) i →
        OnOutcome IsKind (b.answers (not s)) (b.blames (not s) i e) i
    next_too IsKind e r f = blame_transferred w (b.answers s) (b.answers (not s)) (b.blames s) (b.blames (not s))
        (transfers w b q t.1 s) i i i o o e h h h (same_self w i) (same_self w i) (goes_on_refused s i o h c r)
        (goes_on_refused (not s) i o h c' (refused_too r)) d d IsKind f

    next_refused_too : a.answers s i Refuse → b.answers s i Refuse → b.answers (not s) i Refuse
    next_refused_too r f = (transferred w (b.answers s) (b.answers (not s)) (b.blames s) (b.blames (not s))
        (transfers w b q t.1 s) i i i Refuse o o h h h (same_self w i) (same_self w i) f (goes_on_refused s i o h c r)
        (goes_on_refused (not s) i o h c' (refused_too r)) d d).0

    next_blames_too : (Joins : E → E → E → Type 0) (e : E) → a.answers s i Refuse → NextBlames Joins b s i (a.blames s i) e →
        NextBlames Joins b (not s) i (a.blames (not s) i) e
    next_blames_too Joins e r (NextFails f) = NextFails (next_too IsFailure e r f)
    next_blames_too Joins e r (NextRefuses f j) = NextRefuses (next_refused_too r f) (record {
      first = j.first;
      second = j.second;
      first_is = p.blames_consistent t.0 s i Refuse j.first h r (refused_too r) tt j.first_is;
      second_is = q.blames_consistent t.1 s i Refuse j.second h f (next_refused_too r f) tt j.second_is;
      joined = j.joined;
    })

    or_blames_too : (Joins : E → E → E → Type 0) (e : E) → OrBlames Joins a b s i e → OrBlames Joins a b (not s) i e
    or_blames_too Joins e (FirstFails f) = FirstFails (first_too e f)
    or_blames_too Joins e (FirstRefuses r n) = FirstRefuses (refused_too r) (next_blames_too Joins e r n)

    otherwise_blames_too : (e : E) → OtherwiseBlames a b s i e → OtherwiseBlames a b (not s) i e
    otherwise_blames_too e (FirstFaults f) = FirstFaults (first_too e f)
    otherwise_blames_too e (NextFaults r f) = NextFaults (refused_too r) (next_too IsFault e r f)

  next_frugal : (Grows : Type 0) (mode : Modes) (i : I) → w.IsKnown i → b.IsFrugal mode → (mode.errors ≡ true → Grows → ⊥) → NextRunsOut Grows b mode i → ⊥
  next_frugal Grows mode i h f g (inl r) = q.frugal mode i h f r
  next_frugal Grows mode i h f g (inr r) = g r.1 r.2

  or_frugal : (Joins : E → E → E → Type 0) (Grows : Type 0) (mode : Modes) (i : I) → w.IsKnown i → a.IsFrugal mode × b.IsFrugal mode ×
      (mode.errors ≡ true → Grows → ⊥) → (or_meaning Joins Grows a b).may_run_out mode i → ⊥
  or_frugal Joins Grows mode i h f (inl r) = p.frugal mode i h f.0 r
  or_frugal Joins Grows mode i h f (inr r) = next_frugal Grows mode i h f.1 f.2 r.1

  otherwise_frugal : (mode : Modes) (i : I) → w.IsKnown i → a.IsFrugal (with_errors false mode) × b.IsFrugal mode →
      (otherwise_meaning a b).may_run_out mode i → ⊥
  otherwise_frugal mode i h f (inl r) = p.frugal (with_errors false mode) i h f.0 r
  otherwise_frugal mode i h f (inr r) = q.frugal mode i h f.1 r.1

  pub or_lawful : {Joins : E → E → E → Type 0} {Grows : Type 0} → IsLawful w (or_meaning Joins Grows a b)
  or_lawful {Joins} {Grows} = record {
    within = λ s. or_within w (a.answers s) (b.answers s) (p.within s) (q.within s);
    one_outcome = λ s. or_agree w (a.answers s) (a.answers s) (b.answers s) (b.answers s) false (p.one_outcome s) (q.one_outcome s);
    consistent = λ s. or_carries w (a.answers s) (a.answers s) (b.answers s) (b.answers s) false (p.consistent s) (q.consistent s);
    frugal = or_frugal Joins Grows;
    settles = λ t. or_carries w (a.answers true) (a.answers false) (b.answers true) (b.answers false) true (p.settles t.0) (q.settles t.1);
    blames_consistent = λ t s i o e h c c' d. or_blames_too t s i o h c c' d Joins e;
    never_fails = λ cause g s. or_never w (a.answers s) (b.answers s) cause (p.never_fails cause g.0 s) (q.never_fails cause g.1 s);
  }

  pub otherwise_lawful : IsLawful w (otherwise_meaning a b)
  otherwise_lawful = record {
    within = λ s. or_within w (a.answers s) (b.answers s) (p.within s) (q.within s);
    one_outcome = λ s. or_agree w (a.answers s) (a.answers s) (b.answers s) (b.answers s) false (p.one_outcome s) (q.one_outcome s);
    consistent = λ s. or_carries w (a.answers s) (a.answers s) (b.answers s) (b.answers s) false (p.consistent s) (q.consistent s);
    frugal = otherwise_frugal;
    settles = λ t. or_carries w (a.answers true) (a.answers false) (b.answers true) (b.answers false) true (p.settles t.0) (q.settles t.1);
    blames_consistent = λ t s i o e h c c' d. otherwise_blames_too t s i o h c c' d e;
    never_fails = λ cause g s. or_never w (a.answers s) (b.answers s) cause (p.never_fails cause g.0 s) (q.never_fails cause g.1 s);
  }

module _ {I A V E : Type 0} {w : Model I A} {a b : Meaning I V E} where
  pub or_steady : {Joins : E → E → E → Type 0} {Grows : Type 0} → IsSteady w a → IsSteady w b → IsSteady w (or_meaning Joins Grows a b)
  or_steady p q = record { stays = or_agree w (a.answers true) (a.answers true) (b.answers true) (b.answers true) true p.stays q.stays }

  pub otherwise_steady : IsSteady w a → IsSteady w b → IsSteady w (otherwise_meaning a b)
  otherwise_steady p q = record { stays = or_agree w (a.answers true) (a.answers true) (b.answers true) (b.answers true) true p.stays q.stays }

module _ {I A P Q E : Type 0} {w : Model I A} {Joins : E → E → E → Type 0} {Grows : Type 0} {a : Meaning I P E} {b : Meaning I Q E} where
  pub either_lawful : IsLawful w a → IsLawful w b → IsLawful w (either_meaning Joins Grows a b)
  either_lawful p q = or_lawful (labelled_lawful p) (labelled_lawful q)

  pub either_steady : IsSteady w a → IsSteady w b → IsSteady w (either_meaning Joins Grows a b)
  either_steady p q = or_steady (labelled_steady p) (labelled_steady q)
