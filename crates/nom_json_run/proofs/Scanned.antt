-- Answers, by the places in the bytes of which a part was read.
use Rattle.std.specs.Prelude.{◌≡◌, ℕ, ◌+◌, ◌<◌, ◌≤◌, Bool, true, false, List, Result, Ok, Err, IfErr, IfOk, length, drop}
use Rattle.std.proofs.Common.{arith, refl, sym, ◌∙◌, ap, subst, length-drop}
use Rattle.std.proofs.lemmas.List.{drop-drop}
use Rattle.nom_error.specs.Answers.{IResult}
use Rattle.nom_error.specs.declared.answer.Err.TheVariants as Answer
use Rattle.nom_error.specs.declared.value.Error.{Error}
use Rattle.nom_internal.specs.Prelude.{Accept, Fails, Needs, Outcome, ParseRanOut, Parsed, ParsesOutcome, Refuse, Stop, bytes_model, modes}
use Rattle.nom_internal.specs.Word.{parses_by}
use Rattle.nom_json_run.specs.Grammars.{Bytes, BytesWord, Parses}
use Rattle.nom_json_run.specs.Parts.{IsPart, missing_of}
use Rattle.nom_json_run.specs.Scans.{BeginsAs, EndsAt, FailsAt, EndsNowhere, IsPlaced, IsStop, Scans}
use Rattle.nom_json_run.specs.declared.bracket.Fault.{Fault}
use Rattle.nom_json_run.proofs.Alike.{later}
use Rattle.nom_json_run.proofs.Blamed.{ToldBy}
use Rattle.nom_json_run.proofs.Blames.{IsBlamed}
use Rattle.nom_json_run.proofs.Decisions.{EndsIf, Finds}
use Rattle.nom_json_run.proofs.Reading.{Fact, Part, Placed, rest_from}
use Rattle.nom_json_run.proofs.Grammars.{ReadsBy}

-- what an answer says of the bytes from a place on
abbrev AnswerIs : Part → ℕ → List ℕ → IResult Bytes Bytes (Error Bytes) → Type 0
AnswerIs p k xs (Ok x) = (n : ℕ) × (k ≤ n) × (x.0.now ≡ drop n xs) × Fact p true xs n
AnswerIs p k xs (Err (Answer.Error e)) = Placed (Fact p false) xs e.input.now
AnswerIs p k xs (Err (Answer.Failure e)) = Placed (Fact p false) xs e.input.now
AnswerIs p k xs (Err (Answer.Incomplete n)) = ⊥
AnswerIs p k xs (Err Answer.OutOfMemory) = ⊥

-- and its place
abbrev pub Stopped : Part → ℕ → (bytes : List ℕ) (start : ℕ) → Result ℕ Fault → Type 0
Stopped p k bytes start (Ok stop) = (n : ℕ) × (k ≤ n) × (stop ≡ start + n) × Fact p true (drop start bytes) n
Stopped p k bytes start (Err fault) = (n : ℕ) × (fault.at ≡ start + n) × Fact p false (drop start bytes) n

module _ {p : Part} {k : ℕ} {h : BytesWord Bytes} (reads : ReadsBy p k h) (bytes : List ℕ) (start : ℕ) where
  outcome_answer : (i : Bytes) (r : IResult Bytes Bytes (Error Bytes)) (o : Outcome h.Tree) → h.grammar.meaning.answers false i o →
      ParsesOutcome bytes_model h.grammar.IsOutput i (h.grammar.meaning.blames false i) o r → AnswerIs p k i.now r
  outcome_answer i r (Accept n v) a s =
      let x = reads.meant.outcomes i (Accept n v) a in
      subst (AnswerIs p k i.now) (sym s.4) (n, x.0, rest_from i n s.0 s.2, x.1)
  outcome_answer i r Refuse a s = subst (AnswerIs p k i.now) (sym s.2) (reads.meant.places i Refuse s.0 a tt s.1)
  outcome_answer i r (Stop (Fails c)) a s = subst (AnswerIs p k i.now) (sym s.2) (reads.meant.places i (Stop (Fails c)) s.0 a tt s.1)
  outcome_answer i r (Stop (Needs n)) a s = absurd (reads.meant.outcomes i (Stop (Needs n)) a)

  answer_is : (i : Bytes) (r : IResult Bytes Bytes (Error Bytes)) → i.now ≡ drop start bytes → Parses h i r → AnswerIs p k (drop start bytes) r
  answer_is i r from a = subst (λ xs. AnswerIs p k xs r) from (elim (parses_by bytes_model {h = h} {g = h.grammar} refl a) [
    | ParseRanOut e x ↦ absurd (reads.meant.frugal (modes true true false) i x)
    | Parsed o x s ↦ outcome_answer i r o x s
  ])

  left_fits : (n : ℕ) (ys : List ℕ) → ys ≡ drop n (drop start bytes) → length ys ≤ length bytes
  left_fits n ys e = omega (arith, ap length e, length-drop n (drop start bytes), length-drop start bytes)

  is_placed : (r : IResult Bytes Bytes (Error Bytes)) → AnswerIs p k (drop start bytes) r → IsPlaced bytes r
  is_placed (Ok x) t = left_fits t.0 x.0.now t.2
  is_placed (Err (Answer.Error e)) t = left_fits t.place e.input.now t.there
  is_placed (Err (Answer.Failure e)) t = left_fits t.place e.input.now t.there
  is_placed (Err (Answer.Incomplete n)) t = t
  is_placed (Err Answer.OutOfMemory) t = t

  pub placed : (i : Bytes) (r : IResult Bytes Bytes (Error Bytes)) → i.now ≡ drop start bytes → Parses h i r → IsPlaced bytes r
  placed i r from a = is_placed r (answer_is i r from a)

  module _ (within : (t : Bool) (xs : List ℕ) (n : ℕ) → Fact p t xs n → n ≤ length xs) (le : start ≤ length bytes) where
    same_place : (t : Bool) (n stop : ℕ) (ys : List ℕ) → ys ≡ drop n (drop start bytes) → Fact p t (drop start bytes) n → stop + length ys ≡ length bytes →
        stop ≡ start + n
    same_place t n stop ys e f size =
        omega (arith, ap length e, length-drop n (drop start bytes), length-drop start bytes, within t (drop start bytes) n f, size, le)

    stopped_at : (r : IResult Bytes Bytes (Error Bytes)) (x : Result ℕ Fault) → AnswerIs p k (drop start bytes) r → IsStop bytes r x → Stopped p k bytes start x
    stopped_at (Ok y) x t s = subst (Stopped p k bytes start) (sym s.1) (t.0, t.1, same_place true t.0 s.0 y.0.now t.2 t.3 s.2, t.3)
    stopped_at (Err (Answer.Error e)) x t s =
        subst (Stopped p k bytes start) (sym s.1) (t.place, same_place false t.place s.0.at e.input.now t.there t.holds s.2, t.holds)
    stopped_at (Err (Answer.Failure e)) x t s =
        subst (Stopped p k bytes start) (sym s.1) (t.place, same_place false t.place s.0.at e.input.now t.there t.holds s.2, t.holds)
    stopped_at (Err (Answer.Incomplete n)) x t s = absurd t
    stopped_at (Err Answer.OutOfMemory) x t s = absurd t

    -- what is missing there, by the errors of the word
    module _ (told : ToldBy (λ i e. IsBlamed e) h) where
      abbrev Told : IResult Bytes Bytes (Error Bytes) → Type 0
      Told (Ok x) = Unit {0}
      Told (Err (Answer.Error e)) = IsBlamed e
      Told (Err (Answer.Failure e)) = IsBlamed e
      Told (Err (Answer.Incomplete n)) = Unit {0}
      Told (Err Answer.OutOfMemory) = Unit {0}

      outcome_told : (i : Bytes) (r : IResult Bytes Bytes (Error Bytes)) (o : Outcome h.Tree) → h.grammar.meaning.answers false i o →
          ParsesOutcome bytes_model h.grammar.IsOutput i (h.grammar.meaning.blames false i) o r → Told r
      outcome_told i r (Accept n v) a s = subst Told (sym s.4) tt
      outcome_told i r Refuse a s = subst Told (sym s.2) (told.meant.told i Refuse s.0 a tt s.1)
      outcome_told i r (Stop (Fails c)) a s = subst Told (sym s.2) (told.meant.told i (Stop (Fails c)) s.0 a tt s.1)
      outcome_told i r (Stop (Needs n)) a s = absurd (reads.meant.outcomes i (Stop (Needs n)) a)

      answer_told : (i : Bytes) (r : IResult Bytes Bytes (Error Bytes)) → Parses h i r → Told r
      answer_told i r a = elim (parses_by bytes_model {h = h} {g = h.grammar} refl a) [
        | ParseRanOut e x ↦ absurd (reads.meant.frugal (modes true true false) i x)
        | Parsed o x s ↦ outcome_told i r o x s
      ]

      part_there : (e : Error Bytes) (fault : Fault) (n : ℕ) → e.input.now ≡ drop n (drop start bytes) → fault.at ≡ start + n →
          fault.missing ≡ missing_of e.code → IsBlamed e → IsPart fault.missing (drop fault.at bytes)
      part_there e fault n there at missing b =
          let same : e.input.now ≡ drop fault.at bytes = there ∙ (drop-drop n start bytes ∙ ap (λ k. drop k bytes) (sym at)) in
          subst (λ m. IsPart m (drop fault.at bytes)) (sym missing) (subst (IsPart (missing_of e.code)) same b)

      part_of : (r : IResult Bytes Bytes (Error Bytes)) (x : Result ℕ Fault) → AnswerIs p k (drop start bytes) r → Told r → IsStop bytes r x →
          IfErr x (λ f. IsPart f.missing (drop f.at bytes))
      part_of (Ok y) x t b s = subst (λ z. IfErr z (λ f. IsPart f.missing (drop f.at bytes))) (sym s.1) tt
      part_of (Err (Answer.Error e)) x t b s = subst (λ z. IfErr z (λ f. IsPart f.missing (drop f.at bytes))) (sym s.1)
          (part_there e s.0 t.place t.there (same_place false t.place s.0.at e.input.now t.there t.holds s.2) s.3 b)
      part_of (Err (Answer.Failure e)) x t b s = subst (λ z. IfErr z (λ f. IsPart f.missing (drop f.at bytes))) (sym s.1)
          (part_there e s.0 t.place t.there (same_place false t.place s.0.at e.input.now t.there t.holds s.2) s.3 b)
      part_of (Err (Answer.Incomplete n)) x t b s = absurd t
      part_of (Err Answer.OutOfMemory) x t b s = absurd t

      pub part_missing : (i : Bytes) (r : IResult Bytes Bytes (Error Bytes)) → i.now ≡ drop start bytes → Parses h i r → (x : Result ℕ Fault) →
          IsStop bytes r x → IfErr x (λ f. IsPart f.missing (drop f.at bytes))
      part_missing i r from a x s = part_of r x (answer_is i r from a) (answer_told i r a) s

    pub stopped : (i : Bytes) (r : IResult Bytes Bytes (Error Bytes)) → i.now ≡ drop start bytes → Parses h i r → (x : Result ℕ Fault) → IsStop bytes r x →
        Stopped p k bytes start x
    stopped i r from a x s = stopped_at r x (answer_is i r from a) s

-- where a part ends that was read from a place on
ends_later : (t : Bool) (Part : List ℕ → List ℕ → Type 0) (bs : List ℕ) (start n : ℕ) → EndsIf t (Part (drop start bs)) (drop n (drop start bs)) →
    EndsIf t (Part (drop start bs)) (drop (start + n) bs)
ends_later t Part bs start n h = subst (EndsIf t (Part (drop start bs))) (drop-drop n start bs) h

module _ (Ends : List ℕ → List ℕ → Type 0) (bytes : List ℕ) (start : ℕ) (le : start ≤ length bytes) where
  pub found : (n stop : ℕ) → stop ≡ start + n → Finds Ends true (drop start bytes) n → EndsAt bytes Ends start stop
  found n stop e f = subst (EndsAt bytes Ends start) (sym e) (record {
    begins = omega arith;
    within = omega (arith, f.within, length-drop start bytes, le);
    ends = λ bs s. ends_later true Ends bs start n (f.ends (drop start bs) (later bytes bs start n s));
  })

  lacking : (n : ℕ) (fault : Fault) → fault.at ≡ start + n → Finds Ends false (drop start bytes) n → IsPart fault.missing (drop fault.at bytes) →
      FailsAt bytes (λ i. EndsNowhere (Ends i)) start fault
  lacking n fault e f part = record {
    begins = omega (arith, e);
    within = omega (arith, e, f.within, length-drop start bytes, le);
    part = part;
    fails = λ bs s. f.ends (drop start bs) (later bytes bs start n (subst (λ m. BeginsAs bytes m bs) e s));
  }

  module _ {p : Part} {k : ℕ} {h : BytesWord Bytes} (reads : ReadsBy p k h) (told : ToldBy (λ i e. IsBlamed e) h)
      (finds : (t : Bool) (xs : List ℕ) (n : ℕ) → Fact p t xs n → Finds Ends t xs n) where
    scanned : (x : Result ℕ Fault) → Stopped p k bytes start x → IfErr x (λ f. IsPart f.missing (drop f.at bytes)) →
        Scans bytes Ends start x × (0 < k → IfOk x (λ n. start < n))
    scanned (Ok stop) s part = (found s.0 stop s.2 (finds true (drop start bytes) s.0 s.3), λ some. omega (arith, s.1, s.2, some))
    scanned (Err fault) s part = (lacking s.0 fault s.1 (finds false (drop start bytes) s.0 s.2) part, λ some. tt)

    pub scans : (i : Bytes) (r : IResult Bytes Bytes (Error Bytes)) → i.now ≡ drop start bytes → Parses h i r → (x : Result ℕ Fault) → IsStop bytes r x →
        Scans bytes Ends start x × (0 < k → IfOk x (λ n. start < n))
    scans i r from a x s =
        let within : (t : Bool) (xs : List ℕ) (n : ℕ) → Fact p t xs n → n ≤ length xs = λ t xs n f. (finds t xs n f).within in
        scanned x (stopped reads bytes start within le i r from a x s) (part_missing reads bytes start within le told i r from a x s)
