-- Widths of parsers that are made of others.
use Rattle.std.proofs.Common.{◌≡◌, ℕ, ◌+◌, ◌<◌, ◌≤◌, ◌++◌, ◌∙◌, ◌⊎◌, Bool, true, length, inl, inr, refl, arith, ap, subst, sym, length-append, append_assoc}
use Rattle.nom_error.specs.Modes.{with_outputs}
use Rattle.nom_internal.specs.Prelude.{Modes, Model, InputLaws, IsBoundary, IsSuffixOf, IsCount, items_len-append, same_cut, after, Outcome, Accept}
use Rattle.nom_internal.specs.Prelude.{Meaning, Case, case_meaning, mode_of, RunsOutInPart}
use Rattle.nom_internal.specs.Prelude.{RunsOutBeside}
use Rattle.nom_internal.specs.Cases.{CaseRunsOut}
use Rattle.nom_internal.specs.Sequence.{Then, ThenRunsOut, GoesOn, pair_meaning}
use Rattle.nom_internal.specs.Sequence.ThenRunsOut.{RunsOutFirst, RunsOutNext}
use Rattle.nom_internal.specs.Tuples.{built_meaning}
use Rattle.nom_internal.specs.Width.{HasWidth, IsBothWidths}

-- a part at the same input that makes an acceptance of each acceptance, and beside which no memory is needed
module _ {I A P T E F : Type 0} {w : Model I A} (c : Case I I P T E F) (m : Meaning I P E) (same : (i j : I) → c.At i j → i ≡ j)
    (accepted : (i : I) (n : ℕ) (p : P) (o : Outcome T) → c.Becomes i (Accept n p) o → (t : T) × (o ≡ Accept n t))
    (asks : (mode : Modes) (i : I) (a : Outcome P) → c.Asks mode i a → ⊥) {n : ℕ} (h : HasWidth w m n) where
  has_memory : (mode : Modes) (i : I) → w.IsKnown i → 0 < n → n ≤ length (w.elements i) →
      CaseRunsOut c.At (m.answers (mode_of c.mode mode.streaming)) (m.may_run_out (c.part mode)) (c.Asks mode) i → ⊥
  has_memory mode i known p f (RunsOutInPart j at r) = h.has_memory (c.part mode) i known p f (subst (λ z. m.may_run_out (c.part mode) z) (sym (same i j at)) r)
  has_memory mode i known p f (RunsOutBeside b) = asks mode i b.outcome b.fact

  pub case_width : HasWidth w (case_meaning c m) n
  case_width = record {
    accepts = λ s i o known p f a.
        let part = h.accepts (mode_of c.mode s) i a.outcome known p f
        (subst (λ z. m.answers (mode_of c.mode s) z a.outcome) (sym (same i a.at a.at_is)) a.answered) in
        let whole = accepted i part.0 part.1 o (subst (λ z. c.Becomes i z o) part.3 a.fact) in
        (part.0, whole.0, part.2, whole.1);
    has_memory = has_memory;
  }

-- of 0 nothing is said
no_width : {I A V E : Type 0} {w : Model I A} {m : Meaning I V E} → HasWidth w m 0
no_width = record {
  accepts = λ s i o known h. absurd (omega (arith, h));
  has_memory = λ mode i known h. absurd (omega (arith, h));
}

-- a part whose outputs are built in every mode
pub built_width : {I A V E : Type 0} {w : Model I A} {m : Meaning I V E} {n : ℕ} → HasWidth w m n → HasWidth w (built_meaning m) n
built_width h = record { accepts = h.accepts; has_memory = λ mode. h.has_memory (with_outputs true mode) }

-- two parts in sequence
module _ {I A P Q E : Type 0} {w : Model I A} (l : InputLaws w) {a : Meaning I P E} {b : Meaning I Q E} {n m : ℕ} (h : HasWidth w a n) (k : HasWidth w b m)
    (p : 0 < n) (q : 0 < m) where
  -- the first part's acceptance leaves all but n items
  left : (s : Bool) (i : I) (x : ℕ) (v : P) (j : I) → w.IsKnown i → n + m ≤ length (w.elements i) → a.answers s i (Accept x v) → (r : IsSuffixOf w i x j) →
      (length r.front ≡ n) × (m ≤ length (w.elements j))
  left s i x v j known f t r =
      let c = h.accepts s i (Accept x v) known p (omega (arith, f)) t in
      let same : x ≡ c.0 = cc (c.3) in
      let cut = same_cut w.item_len l.positive r.front (w.elements j) c.2.place.front c.2.place.rest (sym r.whole ∙ c.2.place.whole)
      (r.length_is ∙ (same ∙ sym c.2.place.length_is)) in
      let front : length r.front ≡ n = ap length cut.0 ∙ c.2.count_is in
      (front, omega (arith, f, front, ap length r.whole, length-append r.front (w.elements j)))

  both_accept : (s : Bool) (i : I) (o : Outcome (P × Q)) → w.IsKnown i → n + m ≤ length (w.elements i) → (pair_meaning w a b).answers s i o →
      (x : ℕ) × (v : P × Q) × IsCount w i (n + m) x × (o ≡ Accept x v)
  both_accept s i o known f t =
      let c = h.accepts s i t.first known p (omega (arith, f)) t.answered in
      let on = subst (λ z. GoesOn w (λ u v. (u, v)) (λ u. b.answers s) i z o) c.3 t.goes_on in
      let r = left s i c.0 c.1 on.0 known f (subst (λ z. a.answers s i z) c.3 t.answered) on.2 in
      let d = k.accepts s on.0 on.1 on.2.known q r.1 on.3 in
      let place : IsBoundary w i (c.0 + d.0) = record {
        front = on.2.front ++ d.2.place.front;
        rest = d.2.place.rest;
        whole = on.2.whole ∙ (ap (λ xs. on.2.front ++ xs) d.2.place.whole ∙ sym (append_assoc on.2.front d.2.place.front d.2.place.rest));
        length_is = omega (arith, items_len-append w.item_len on.2.front d.2.place.front, on.2.length_is, d.2.place.length_is);
      } in (
        c.0 + d.0,
        (c.1, d.1),
        record { place = place; count_is = omega (arith, length-append on.2.front d.2.place.front, r.0, d.2.count_is) },
        on.4 ∙ ap (λ z. after c.0 (λ v. (c.1, v)) z) d.3,
      )

  both_have_memory : (mode : Modes) (i : I) → w.IsKnown i → n + m ≤ length (w.elements i) → (pair_meaning w a b).may_run_out mode i → ⊥
  both_have_memory mode i known f (RunsOutFirst r) = h.has_memory mode i known p (omega (arith, f)) r
  both_have_memory mode i known f (RunsOutNext r) =
      k.has_memory mode r.rest r.rest_is.known q (left mode.streaming i r.length r.tree r.rest known f r.accepted r.rest_is).1 r.fact

  sum_width : HasWidth w (pair_meaning w a b) (n + m)
  sum_width = record {
    accepts = λ s i o known z f. both_accept s i o known f;
    has_memory = λ mode i known z f. both_have_memory mode i known f;
  }

pub pair_width : {I A P Q E : Type 0} {w : Model I A} → InputLaws w → {a : Meaning I P E} {b : Meaning I Q E} {n m both : ℕ} → HasWidth w a n →
    HasWidth w b m → IsBothWidths n m both → HasWidth w (pair_meaning w a b) both
pair_width {w = w} l {a = a} {b = b} h k (inl e) = subst (λ z. HasWidth w (pair_meaning w a b) z) (sym e) no_width
pair_width {w = w} l {a = a} {b = b} h k (inr e) = subst (λ z. HasWidth w (pair_meaning w a b) z) (sym e.0) (sum_width l h k e.1 e.2)
