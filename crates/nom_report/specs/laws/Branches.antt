-- Laws of the reports of a choice on its branches, one branch after another.
use Rattle.std.proofs.Common.{◌≡◌, ℕ, Bool, List, [], ◌∷◌, ◌++◌, refl, sym, subst, inl, inr, ◌⊎◌}
use Rattle.nom_internal.specs.Prelude.{Model, Meaning, IsLawful, Outcome, Accept, Refuse, Stop, Fails, Needs, IsFailure, labelled, labelled_meaning, or_meaning}
use Rattle.nom_internal.specs.Prelude.{FirstFails, FirstRefuses, NextFails, NextRefuses, GoesOnRefused, Closed, same_self}
use Rattle.nom_internal.specs.laws.CaseLaws.{labelled_lawful}
use Rattle.nom_branch.specs.Alternatives.{next_meaning, choice_meaning}
use Rattle.nom_branch.specs.laws.AlternativeLaws.{next_lawful}
use Rattle.nom_report.specs.Reports.{report_errors}
use Rattle.nom_report.specs.Furthest.{EachRefuses, TellsOfBranches, refuses_with}
use Rattle.nom_report.specs.declared.value.Report.{Report}
use Rattle.nom_report.specs.laws.Joined.{tells_one, tells_more}

each_refuses_more : {I E : Type 0} (bs : List (I → E → Type 0)) (b : I → E → Type 0) (i : I) (es : List E) (e : E) → EachRefuses bs i es → b i e →
    EachRefuses (bs ++ (b ∷ [])) i (es ++ (e ∷ []))
each_refuses_more [] b i [] e h k = (k, tt)
each_refuses_more [] b i (x ∷ es) e h k = absurd h
each_refuses_more (x ∷ bs) b i [] e h k = absurd h
each_refuses_more (x ∷ bs) b i (y ∷ es) e h k = (h.0, each_refuses_more bs b i es e h.1 k)

-- an outcome that is labelled is refused, or fails, as the one that was
refuse_is : {P T : Type 0} (f : P → T) (o : Outcome P) → Refuse ≡ labelled f o → o ≡ Refuse
refuse_is f (Accept n v) e = absurd (cc)
refuse_is f Refuse e = refl
refuse_is f (Stop why) e = absurd (cc)

failure_is : {P T : Type 0} (f : P → T) (o : Outcome P) → IsFailure (labelled f o) → IsFailure o
failure_is f (Accept n v) h = h
failure_is f Refuse h = h
failure_is f (Stop (Fails cause)) h = tt
failure_is f (Stop (Needs k)) h = h

module _ {I A E : Type 0} (w : Model I A) where
  -- a sound parser that refuses doesn't fail
  no_failure : {V : Type 0} (m : Meaning I V E) → IsLawful w m → (s : Bool) (i : I) (o : Outcome V) → w.IsKnown i → m.answers s i Refuse →
      m.answers s i o →
      IsFailure o → ⊥
  no_failure m l s i o k r a h = subst IsFailure (sym (l.one_outcome s i i Refuse o k k (same_self w i) r tt a)) h

-- where two together refuse, the first does, and then the second
both_refuse : {I V : Type 0} (First Next : I → Outcome V → Type 0) (i : I) (first : Outcome V) → First i first → GoesOnRefused (Next i) first Refuse →
    First i Refuse × Next i Refuse
both_refuse First Next i (Accept n v) h g = absurd (cc)
both_refuse First Next i Refuse h g = (h, g)
both_refuse First Next i (Stop why) h g = absurd (cc)

-- what holds of a part that is labelled holds of it
module _ {I P T E : Type 0} (f : P → T) (m : Meaning I P E) (s : Bool) (i : I) where
  unlabelled_refuses : (labelled_meaning f m).answers s i Refuse → m.answers s i Refuse
  unlabelled_refuses p =
      subst (λ z. m.answers s z Refuse) (sym p.at_is) (subst (λ o. m.answers s p.at o) (refuse_is f p.outcome p.fact) p.answered)

  unlabelled_fails : (o : Outcome T) → (labelled_meaning f m).answers s i o → IsFailure o → (x : Outcome P) × m.answers s i x × IsFailure x
  unlabelled_fails o p h =
      (p.outcome, subst (λ z. m.answers s z p.outcome) (sym p.at_is) p.answered, failure_is f p.outcome (subst IsFailure p.fact h))

  unlabelled_blames : (e : E) → (labelled_meaning f m).blames s i e → m.blames s i e
  unlabelled_blames e p = subst (λ z. m.blames s z e) (sym p.at_is) p.fact

-- the error of a refusal that is closed by a word that adds nothing
closed_is : {V E : Type 0} (o : Outcome V) (Blames : E → Type 0) (e : E) → (IsFailure o → ⊥) →
    Closed (λ other x. x ≡ other) o Blames e → Blames e
closed_is (Accept n v) Blames e n' h = absurd h
closed_is Refuse Blames e n (x, h, q) = subst Blames (sym q) h
closed_is (Stop (Fails cause)) Blames e n h = absurd (n tt)
closed_is (Stop (Needs k)) Blames e n h = absurd h

module _ {I A : Type 0} (w : Model I A) (place : I → ℕ) where
  pub first_tells : {V : Type 0} (m : Meaning I V (Report I)) (s : Bool) → TellsOfBranches place w (refuses_with s m ∷ []) m s
  first_tells m s i e k r b = (e ∷ [], ((r, b), tt), tells_one place e)

  pub labelled_tells : {P V : Type 0} (f : P → V) (m : Meaning I P (Report I)) (s : Bool) (bs : List (I → Report I → Type 0)) →
      TellsOfBranches place w bs m s → TellsOfBranches place w bs (labelled_meaning f m) s
  labelled_tells f m s bs t i e k r b = t i e k (unlabelled_refuses f m s i r) (unlabelled_blames f m s i e b)

  -- some branches, and one more, which is labelled
  pub or_tells : {P V : Type 0} (a : Meaning I V (Report I)) (f : P → V) (b : Meaning I P (Report I)) → IsLawful w a → IsLawful w b → (s : Bool)
      (bs : List (I → Report I → Type 0)) → TellsOfBranches place w bs a s →
      TellsOfBranches place w (bs ++ (refuses_with s b ∷ []))
      (or_meaning (report_errors place).joined (report_errors place).grows a (labelled_meaning f b)) s
  or_tells {P} {V} a f b l m s bs t i e k r (FirstFails h) =
      let both = both_refuse (a.answers s) ((labelled_meaning f b).answers s) i r.first r.answered r.goes_on in
      absurd (no_failure w a l s i h.outcome k both.0 h.answered h.kind_is)
  or_tells {P} {V} a f b l m s bs t i e k r (FirstRefuses q (NextFails h)) =
      let both = both_refuse (a.answers s) ((labelled_meaning f b).answers s) i r.first r.answered r.goes_on in
      let c = unlabelled_fails {T = V} f b s i h.outcome h.answered h.kind_is in
      absurd (no_failure w b m s i c.0 k (unlabelled_refuses {T = V} f b s i both.1) c.1 c.2)
  or_tells {P} {V} a f b l m s bs t i e k r (FirstRefuses q (NextRefuses u h)) =
      let first = t i h.first k q h.first_is in
      let second : refuses_with s b i h.second =
      (unlabelled_refuses {T = V} f b s i u, unlabelled_blames {T = V} f b s i h.second h.second_is) in (
        first.0 ++ (h.second ∷ []),
        each_refuses_more bs (refuses_with s b) i first.0 h.second first.1 second,
        tells_more place first.0 h.first h.second e first.2 h.joined,
      )

  pub next_tells : {P Q : Type 0} (a : Meaning I P (Report I)) (b : Meaning I Q (Report I)) → IsLawful w a → IsLawful w b → (s : Bool)
      (bs : List (I → Report I → Type 0)) → TellsOfBranches place w bs a s →
      TellsOfBranches place w (bs ++ (refuses_with s b ∷ [])) (next_meaning (report_errors place) a b) s
  next_tells {P} {Q} a b l m s bs t =
      or_tells {V = P ⊎ Q} (labelled_meaning inl a) inr b (labelled_lawful l) m s bs (labelled_tells {V = P ⊎ Q} inl a s bs t)

  pub choice_tells : {V : Type 0} (m : Meaning I V (Report I)) → IsLawful w m → (s : Bool) (bs : List (I → Report I → Type 0)) →
      TellsOfBranches place w bs m s → TellsOfBranches place w bs (choice_meaning (report_errors place) m) s
  choice_tells m l s bs t i e k r h =
      let refused : m.answers s i Refuse = subst (λ z. m.answers s z Refuse) (sym r.at_is) (subst (λ o. m.answers s r.at o) (sym r.fact) r.answered) in
      let here : m.answers s i h.outcome = subst (λ z. m.answers s z h.outcome) (sym h.at_is) h.answered in
      let blamed : m.blames s h.at e = closed_is h.outcome (m.blames s h.at) e (no_failure w m l s i h.outcome k refused here) h.fact in
      t i e k refused (subst (λ z. m.blames s z e) (sym h.at_is) blamed)

-- some branches of a choice, by what they mean together
pub record Chosen {I A : Type 0} (w : Model I A) (place : I → ℕ) (s : Bool) : Type 1 where
  pub V : Type 0
  pub meaning : Meaning I V (Report I)
  pub lawful : IsLawful w meaning
  pub branches : List (I → Report I → Type 0)
  pub tells : TellsOfBranches place w branches meaning s

module _ {I A : Type 0} {w : Model I A} {place : I → ℕ} {s : Bool} where
  abbrev pub first : {V : Type 0} {m : Meaning I V (Report I)} → IsLawful w m → Chosen w place s
  first {V} {m} l = record { V = V; meaning = m; lawful = l; branches = refuses_with s m ∷ []; tells = first_tells w place m s }

  abbrev pub next : {V : Type 0} {m : Meaning I V (Report I)} → IsLawful w m → Chosen w place s → Chosen w place s
  next {V} {m} l c = record {
    V = c.V ⊎ V;
    meaning = next_meaning (report_errors place) c.meaning m;
    lawful = next_lawful (report_errors place) c.lawful l;
    branches = c.branches ++ (refuses_with s m ∷ []);
    tells = next_tells w place c.meaning m c.lawful l s c.branches c.tells;
  }

  pub closed : (c : Chosen w place s) → TellsOfBranches place w c.branches (choice_meaning (report_errors place) c.meaning) s
  closed c = choice_tells w place c.meaning c.lawful s c.branches c.tells
