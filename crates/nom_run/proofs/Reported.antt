-- The report, from the answer on an input that grows.
use Rattle.std.proofs.Common.{◌≡◌, ℕ, true, ◌-◌, ◌<◌, ◌≤◌, List, ◌++◌, length, slice_index, Result, Ok, Err, Bor, IfOk, refl, sym, ◌∙◌}
use Rattle.std.proofs.Common.{ap, subst, arith, length-append}
use Rattle.nom_error.specs.declared.value.Error.{Error}
use Rattle.nom_internal.specs.Prelude.{Needed, IsSuffixOf, items_len-ones, bytes_model, Outcome, Cause, Accept, Refuse, Stop, Fails, Needs}
use Rattle.nom_internal.specs.Prelude.{ParsesOutcome, Meaning}
use Rattle.nom_error.specs.declared.answer.Err as Answer
use Rattle.nom_calls.specs.Growing.{IsBeginning, AnswersOn, IsGrown}
use Rattle.nom_calls.specs.Growing.IsBeginning.{AtCut, AtEnd}
use Rattle.nom_calls.specs.Growing.AnswersOn.{RanOutOn, ShownOn}
use Rattle.nom_run.specs.Texts.{decided_text, rest_text, error_text, need_text}
use Rattle.nom_run.specs.Report.{Says, IsAnswerReport, IsReportBy}

abbrev Bytes : Type 0
Bytes = Bor (List ℕ)

abbrev AnswerErr : Type 0
AnswerErr = Answer.Err (Error Bytes) (Error Bytes) Needed

pub on_ok : {T E : Type 0} (P Q : T → Type 0) (r : Result T E) → ((x : T) → P x → Q x) → IfOk r P → IfOk r Q
on_ok P Q (Ok x) f h = f x h
on_ok P Q (Err e) f h = tt

-- the length of a beginning
start_is : (whole : Bytes) (cuts : List ℕ) (index start : ℕ) (x : Bytes) → (index < length cuts → start ≡ slice_index cuts index) →
    (length cuts ≤ index → start ≡ length whole.now) → IsBeginning bytes_model whole cuts index x → start ≡ length x.now
start_is whole cuts index start x f g (AtCut h p) = f h ∙ sym p.length_is ∙ items_len-ones x.now
start_is whole cuts index start x f g (AtEnd h p) =
    let past : length cuts ≤ index = omega (arith, h) in
    g past ∙ ap (λ y. length y.now) (sym p)

rest_len : (whole j : Bytes) (n : ℕ) → IsSuffixOf bytes_model whole n j → length j.now ≡ length whole.now - n
rest_len whole j n p = omega (arith, ap length p.whole, length-append p.front j.now, items_len-ones p.front, p.length_is)

module _ {V O : Type 0} (lines : V → List ℕ) (IsOutput : V → O → Type 0) (given : O → List ℕ)
    (same : (v : V) (o : O) → IsOutput v o → given o ≡ lines v) (Blames : Error Bytes → Type 0) (index start : ℕ) (whole x : Bytes)
    (begins : start ≡ length x.now) where
  says : (o : Outcome V) → ((cause : Cause) → o ≡ Stop (Fails cause) → ⊥) → (answer : Result (Bytes × O) AnswerErr) (text : List ℕ) (status : ℕ) →
      ParsesOutcome bytes_model IsOutput whole Blames o answer → IsAnswerReport given index start answer text status →
      Says lines Blames index whole.now x.now o text status
  says (Accept n v) never answer text status p t =
      let told = subst (λ a. IsAnswerReport given index start a text status) p.4 t in
      let parts : decided_text index ++ given p.1 ++ rest_text (length (p.0).now) ≡ decided_text index ++ lines v ++ rest_text (length whole.now - n) =
      ap (λ rs. decided_text index ++ rs ++ rest_text (length (p.0).now)) (same v p.1 p.3) ∙
      ap (λ k. decided_text index ++ lines v ++ rest_text k) (rest_len whole p.0 n p.2) in
      (told.0 ∙ parts, told.1)
  says Refuse never answer text status p t =
      let told = subst (λ a. IsAnswerReport given index start a text status) p.2 t in
      (p.0, p.1, told.0 ∙ ap (λ k. error_text (p.0).code (k - length (p.0).input.now)) begins, told.1)
  says (Stop (Fails cause)) never answer text status p t = never cause refl
  says (Stop (Needs k)) never answer text status p t =
      let told = subst (λ a. IsAnswerReport given index start a text status) p.2 t in
      (told.0 ∙ ap need_text p.1, told.1)

module _ {V O : Type 0} (m : Meaning Bytes V (Error Bytes)) (lines : V → List ℕ) (IsOutput : V → O → Type 0) (given : O → List ℕ)
    (same : (v : V) (o : O) → IsOutput v o → given o ≡ lines v) (whole : Bytes) (cuts : List ℕ) (index start : ℕ)
    (at_cut : index < length cuts → start ≡ slice_index cuts index) (at_end : length cuts ≤ index → start ≡ length whole.now)
    (known : bytes_model.IsKnown whole) (never : (cause : Cause) (i : Bytes) → bytes_model.IsKnown i → m.answers true i (Stop (Fails cause)) → ⊥) where
  begins_known : (x : Bytes) → IsBeginning bytes_model whole cuts index x → bytes_model.IsKnown x
  begins_known x (AtCut h p) = p.known
  begins_known x (AtEnd h e) = subst bytes_model.IsKnown (sym e) known

  answered : (answer : Result (Bytes × O) AnswerErr) (text : List ℕ) (status : ℕ) (g : IsGrown bytes_model IsOutput m whole cuts index answer) →
      AnswersOn bytes_model IsOutput m whole cuts index g.beginning answer → IsAnswerReport given index start answer text status →
      IsReportBy m lines whole.now cuts text status
  answered answer text status g (RanOutOn e h) t = absurd (subst (λ a. IsAnswerReport given index start a text status) e t)
  answered answer text status g (ShownOn b) t = record {
    whole = whole;
    whole_is = refl;
    index = index;
    in_range = g.in_range;
    waited = g.waited;
    beginning = g.beginning;
    begins = g.begins;
    outcome = b.outcome;
    answered = b.answered;
    decided = b.decided;
    says = says lines IsOutput given same (m.blames true g.beginning) index start whole g.beginning
        (start_is whole cuts index start g.beginning at_cut at_end g.begins) b.outcome
        (λ cause e. never cause g.beginning (begins_known g.beginning g.begins) (subst (λ o. m.answers true g.beginning o) e b.answered)) answer text
        status b.shown t;
  }

  pub reported : (answer : Result (Bytes × O) AnswerErr) (text : List ℕ) (status : ℕ) → IsGrown bytes_model IsOutput m whole cuts index answer →
      IsAnswerReport given index start answer text status → IsReportBy m lines whole.now cuts text status
  reported answer text status g t = answered answer text status g g.answer t
