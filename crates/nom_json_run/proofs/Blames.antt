-- What the errors of parsers over bytes say of the bytes where they are, in the complete mode: one lemma for each combinator, by its meaning.
use Rattle.std.specs.Prelude.{◌≡◌, ℕ, Bool, true, false, drop}
use Rattle.std.proofs.Common.{refl, sym, subst}
use Rattle.nom_error.specs.declared.value.Error.{Error}
use Rattle.nom_internal.specs.Prelude.{Accept, Case, Fails, FirstFails, FirstRefuses, IsFault, Meaning, Modes, Needs, NextBlames}
use Rattle.nom_internal.specs.Prelude.{NextFails, NextRefuses, OnPart, OrBlames, Outcome, Refuse, Stop, ThenBlames, bytes_model, case_meaning, closed_case}
use Rattle.nom_internal.specs.Prelude.{closed_meaning, labelled, mode_of, or_meaning, plain_case, sequence_meaning}
use Rattle.nom_internal.specs.Sequence.ThenBlames.{BlamesFirst, BlamesNext}
use Rattle.nom_internal.specs.Tuples.{built_meaning}
use Rattle.nom_combinator.specs.Verdicts.{NeverCut, cut_meaning, cut_outcome, opt_meaning, opt_outcome, verdict_case}
use Rattle.nom_json_run.specs.Grammars.{Bytes}
use Rattle.nom_json_run.specs.Json.{first_is}
use Rattle.nom_json_run.specs.Parts.{IsPart, missing_of}
use Rattle.nom_json_run.proofs.Reading.{After, Led, Reads, closed_blamed, failure_is, rest_from}

-- what an error tells to be missing isn't where the error is
abbrev pub IsBlamed : Error Bytes → Type 0
IsBlamed e = IsPart (missing_of e.code) e.input.now

-- where the first byte passes a test, or where it doesn't
abbrev pub Where : (ℕ → Bool) → Bool → Bytes → Error Bytes → Type 0
Where test t i e = first_is test i.now ≡ t → IsBlamed e

-- what holds of each error at an input
pub record Blaming {V : Type 0} (Told : Bytes → Error Bytes → Type 0) (m : Meaning Bytes V (Error Bytes)) : Type 0 where
  pub told : (i : Bytes) (o : Outcome V) (e : Error Bytes) → m.answers false i o → IsFault o → m.blames false i e → Told i e

pub blaming_as : {V : Type 0} {Told Other : Bytes → Error Bytes → Type 0} {m : Meaning Bytes V (Error Bytes)} →
    ((i : Bytes) (e : Error Bytes) → Told i e → Other i e) → Blaming Told m → Blaming Other m
blaming_as same b = record { told = λ i o e h t x. same i e (b.told i o e h t x) }

-- one part after another
module _ {P Q T : Type 0} (tree : P → Q → T) (f g : Modes → Modes) {a : Meaning Bytes P (Error Bytes)} {b : Meaning Bytes Q (Error Bytes)}
    {First Next Told : Bytes → Error Bytes → Type 0} (ba : Blaming First a) (bb : Blaming Next b)
    (first : (i : Bytes) (e : Error Bytes) → First i e → Told i e)
    (next : (i j : Bytes) (n : ℕ) (u : P) (e : Error Bytes) → a.answers false i (Accept n u) → j.now ≡ drop n i.now → Next j e → Told i e) where
  then_told : (i : Bytes) (e : Error Bytes) → ThenBlames bytes_model (a.answers false) (a.blames false) (λ _. b.answers false) (λ _. b.blames false) i e →
      Told i e
  then_told i e (BlamesFirst x) = first i e (ba.told i x.outcome e x.answered x.kind_is x.fact)
  then_told i e (BlamesNext x) = next i x.rest x.length x.tree e x.accepted (rest_from i x.length x.rest x.rest_is)
      (bb.told x.rest x.fact.outcome e x.fact.answered x.fact.kind_is x.fact.fact)

  pub then_blames : Blaming Told (sequence_meaning bytes_model tree f g a b)
  then_blames = record { told = λ i o e h t x. then_told i e x }

-- a part that runs at the same place, and whose errors stay
module _ {P T : Type 0} {m : Meaning Bytes P (Error Bytes)} {Told Other : Bytes → Error Bytes → Type 0} (b : Blaming Told m)
    (c : Case Bytes Bytes P T (Error Bytes) (Error Bytes)) (at : (i j : Bytes) → c.At i j → i ≡ j) (asked : mode_of c.mode false ≡ false)
    (turned : (i : Bytes) (a : Outcome P) (o : Outcome T) (e : Error Bytes) → c.Becomes i a o → m.answers false i a → IsFault o →
    IsFault a × (Told i e → Other i e))
    (blamed : (i : Bytes) (a : Outcome P) (e : Error Bytes) → c.Blames i a (m.blames (mode_of c.mode false) i) e → m.blames false i e) where
  on_part : {Fact : Bytes → Outcome P → Type 0} {i : Bytes} → OnPart c.At (m.answers (mode_of c.mode false)) Fact i →
      (a : Outcome P) × m.answers false i a × Fact i a
  on_part {Fact} {i} x = subst (λ j. (a : Outcome P) × m.answers false j a × Fact j a) (sym (at i x.at x.at_is))
      (x.outcome, subst (λ s. m.answers s x.at x.outcome) asked x.answered, x.fact)

  case_blames : Blaming Other (case_meaning c m)
  case_blames = record {
    told = λ i o e h t x.
        let y = on_part h in
        let z = on_part x in
        let f = turned i y.0 o e y.2 y.1 t in
        f.1 (b.told i y.0 e y.1 f.0 (blamed i z.0 e z.2));
  }

labelled_fault : {P T : Type 0} (f : P → T) (a : Outcome P) → IsFault (labelled f a) → IsFault a
labelled_fault f (Accept n u) t = absurd t
labelled_fault f Refuse t = tt
labelled_fault f (Stop (Fails c)) t = tt
labelled_fault f (Stop (Needs n)) t = absurd t

cut_fault : {P : Type 0} (a : Outcome P) → IsFault (cut_outcome a) → IsFault a
cut_fault (Accept n u) t = absurd t
cut_fault Refuse t = tt
cut_fault (Stop (Fails c)) t = tt
cut_fault (Stop (Needs n)) t = absurd t

module _ {P : Type 0} {m : Meaning Bytes P (Error Bytes)} {Told : Bytes → Error Bytes → Type 0} (b : Blaming Told m) where
  -- a part with another tree
  pub like_blames : {T : Type 0} (outputs : Bool → Bool) (Becomes : Bytes → Outcome P → Outcome T → Type 0) →
      ((i : Bytes) (a : Outcome P) (o : Outcome T) → Becomes i a o → (f : P → T) × (o ≡ labelled f a)) →
      Blaming Told (case_meaning (plain_case outputs Becomes) m)
  like_blames outputs Becomes label = case_blames b (plain_case outputs Becomes) (λ i j e. e) refl
      (λ i a o e x h t. let l = label i a o x in (labelled_fault l.0 a (subst IsFault l.1 t), λ k. k)) (λ i a e x. x)

  -- refusals that are final
  pub cut_blames : Blaming Told (cut_meaning m)
  cut_blames = case_blames b (verdict_case cut_outcome (λ _. true) NeverCut) (λ i j e. e) refl
      (λ i a o e x h t. (cut_fault a (subst IsFault x t), λ k. k)) (λ i a e x. x)

  -- a choice, closed
  pub closed_blames : Blaming Told (closed_meaning (λ _ other e. e ≡ other) ⊥ m)
  closed_blames = case_blames b (closed_case (λ _ other e. e ≡ other) ⊥) (λ i j e. e) refl (λ i a o e x h t. (subst IsFault x t, λ k. k)) (closed_blamed m)

  -- a part whose outputs are built
  pub built_blames : Blaming Told (built_meaning m)
  built_blames = record { told = b.told }

-- a part that may be missing, where the first byte decides whether it is
module _ {P : Type 0} {test : ℕ → Bool} {next : After} {k : ℕ} {m : Meaning Bytes P (Error Bytes)} (r : Reads (Led test next) k m) where
  opt_fault : (i : Bytes) (a : Outcome P) (e : Error Bytes) → m.answers false i a → IsFault (opt_outcome a) → IsFault a × (Where test true i e → IsBlamed e)
  opt_fault i (Accept n u) e h t = absurd t
  opt_fault i Refuse e h t = absurd t
  opt_fault i (Stop (Fails c)) e h t = (tt, λ k. k (r.outcomes i (Stop (Fails c)) h))
  opt_fault i (Stop (Needs n)) e h t = absurd t

  pub opt_blames : Blaming (Where test true) m → Blaming (λ i e. IsBlamed e) (opt_meaning m)
  opt_blames b = case_blames b (verdict_case opt_outcome (λ _. false) (λ Part. Part)) (λ i j e. e) refl
      (λ i a o e x h t. opt_fault i a e h (subst IsFault x t)) (λ i a e x. x)

-- the first of two parts that isn't refused, where the first byte decides which
module _ {P : Type 0} {test : ℕ → Bool} {next : After} {k : ℕ} {a b : Meaning Bytes P (Error Bytes)} (ra : Reads (Led test next) k a)
    (ba : Blaming (Where test true) a) (bb : Blaming (Where test false) b) where
  next_told : (i : Bytes) (e : Error Bytes) → a.answers false i Refuse → NextBlames (λ _ other e. e ≡ other) b false i (a.blames false i) e → IsBlamed e
  next_told i e r (NextFails x) =
      bb.told i x.outcome e x.answered (subst IsFault (sym (failure_is x.outcome x.kind_is).1) tt) x.fact (ra.outcomes i Refuse r)
  next_told i e r (NextRefuses h x) = bb.told i Refuse e h tt (subst (b.blames false i) (sym x.joined) x.second_is) (ra.outcomes i Refuse r)

  either_told : (i : Bytes) (e : Error Bytes) → OrBlames (λ _ other e. e ≡ other) a b false i e → IsBlamed e
  either_told i e (FirstFails x) =
      let f = failure_is x.outcome x.kind_is in
      let h = subst (a.answers false i) f.1 x.answered in
      ba.told i (Stop (Fails f.0)) e h tt x.fact (ra.outcomes i (Stop (Fails f.0)) h)
  either_told i e (FirstRefuses r x) = next_told i e r x

  pub either_blames : Blaming (λ i e. IsBlamed e) (or_meaning (λ _ other e. e ≡ other) ⊥ a b)
  either_blames = record { told = λ i o e h t x. either_told i e x }
