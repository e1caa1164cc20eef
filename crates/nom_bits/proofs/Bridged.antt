-- Lemmas on parsers of bits among parsers of bytes, and on parsers of bytes among parsers of bits.
use Rattle.std.proofs.Common.{◌≡◌, ℕ, ◌+◌, ◌*◌, Bool, true, false, inl, inr, length, Result, Ok, Err, Option, refl, ◌∙◌, ap, subst, lit<, arith}
use Rattle.std.proofs.Math.Nat.{mod-lt}
use Rattle.nom_internal.specs.Prelude.{Needed, Incomplete, PResult, size_of, Errors, Built, Modes, with_streaming, Model, InputLaws, IsSuffixOf, rest_rest}
use Rattle.nom_internal.specs.Prelude.{IsCount, AreBytes, bits_model, bits_lawful, Outcome, Accept, Refuse, Stop, Fails, Needs, TooLarge, ShowsOutcome}
use Rattle.nom_internal.specs.Prelude.{RanOut, Shown}
use Rattle.nom_internal.specs.Prelude.{Meaning, ShowsMeaning, OnPart, RunsOutInPart, RunsOutBeside, ConvertsSome}
use Rattle.nom_error.specs.declared.answer.Err as Answer
use Rattle.nom_internal.proofs.Shown.{accepts}
use Rattle.nom_bits.specs.BitRests.{bits_ahead, bytes_passed, bits_passed}
use Rattle.nom_bits.specs.Bridges.{bytes_needed, rounded_up, bits_meaning, bytes_meaning, IsTooLarge, BitsNeeded, InBytes, InBits}

-- an error that is built is converted
converts_built : {E F : Type 0} (built : Bool) (Converts : E → F → Type 0) (P : E → Type 0) (Q : F → Type 0) (x : Option E) (y : Option F) →
    ((e : E) (f : F) → P e → Converts e f → Q f) → ConvertsSome Converts x y → Built built P x → Built built Q y
converts_built true Converts P Q x y f c h = let d = subst (λ z. ConvertsSome Converts z y) h.1 c in (d.0, d.2, f h.0 d.0 h.2 d.1)
converts_built false Converts P Q x y f c h = subst (λ z. ConvertsSome Converts z y) h c

-- an error's answer is one error's
same_err : {T E : Type 0} {e f : E} → ◌≡◌ {A = Result T E} (Err e) (Err f) → e ≡ f
same_err h = cc (h)

module _ {I T O E F : Type 0} (w : Model I ℕ) (IsOutput : T → O → Type 0) (Converts : E → F → Type 0) (m : Meaning (I × ℕ) T E) (mode : Modes) (i : I)
    (bytes : AreBytes (w.elements i)) where
  abbrev InBits' : PResult (I × ℕ) O E → Type 0
  InBits' = ShowsMeaning (bits_model w) IsOutput m (with_streaming true mode) (i, 0)

  abbrev OfBits : PResult I O F → Type 0
  OfBits = ShowsMeaning w IsOutput (bits_meaning w Converts m) mode i

  at_bits : {Fact : I × ℕ → Outcome T → Type 0} (a : Outcome T) → m.answers true (i, 0) a → Fact (i, 0) a →
      OnPart (λ i j. (j ≡ (i, 0)) × AreBytes (w.elements i)) (m.answers true) Fact i
  at_bits a p f = record { at = (i, 0); at_is = (refl, bytes); outcome = a; answered = p; fact = f }

  -- the bytes that are begun are consumed
  pub bits_ok : InputLaws w → ((j : I) → w.IsKnown j → AreBytes (w.elements j)) → w.IsKnown i → (place : I × ℕ) (j : I) (x : Option O) →
      InBits' (Ok (place, x)) → IsSuffixOf (bits_model w) place (bits_ahead w place) (j, 0) → OfBits (Ok (j, x))
  bits_ok l values known place j x h r =
      let a = accepts h in
      let n = a.length in
      let ahead = bits_ahead w place in
      let whole = bits_passed w l values i (n + ahead) j known (rest_rest (bits_model w) (bits_lawful w) (i, 0) n place ahead (j, 0) a.rest_is r) in
      let count : whole.1 ≡ rounded_up n = omega (arith, whole.4, mod-lt (length ((bits_model w).elements place)) {m = 8} (lit< tt)) in
      Shown (Accept whole.0 a.tree) (at_bits (Accept n a.tree) a.answered (whole.0, subst (λ c. IsCount w i c whole.0) count whole.2, refl))
      (j, x, whole.3, a.built_is, refl)

  bits_of : (o : Outcome T) (e : Answer.Err E (Option E) Needed) (r : Answer.Err F (Option F) Needed) → m.answers true (i, 0) o →
      ShowsOutcome (bits_model w) IsOutput (with_streaming true mode) (i, 0) (m.blames true (i, 0)) o (Err e) → InBytes Converts e r → OfBits (Err r)
  bits_of (Accept n v) e r a h c = absurd (cc (h.4))
  bits_of Refuse e r a h c =
      let d = subst (λ z. InBytes Converts z r) (same_err h.2) c in
      Shown Refuse (at_bits Refuse a refl)
      (d.0, converts_built mode.errors Converts _ _ h.0 d.0 (λ x y p q. at_bits Refuse a (x, tt, p, q)) d.1 h.1, ap Err d.2)
  bits_of (Stop (Fails cause)) e r a h c =
      let d = subst (λ z. InBytes Converts z r) (same_err h.2) c in
      Shown (Stop (Fails cause)) (at_bits (Stop (Fails cause)) a refl) (d.0, at_bits (Stop (Fails cause)) a (h.0, tt, h.1, d.1), ap Err d.2)
  bits_of (Stop (Needs k)) e r a h c =
      let d = subst (λ z. InBytes Converts z r) (same_err h.2) c in
      Shown (Stop (Needs (bytes_needed k))) (at_bits (Stop (Needs k)) a refl) (d.0, d.1 ∙ ap (λ z. bytes_needed z) h.1, ap Err d.2)

  pub bits_err : (e : Answer.Err E (Option E) Needed) (r : Answer.Err F (Option F) Needed) → InBits' (Err e) → InBytes Converts e r → OfBits (Err r)
  bits_err e r (RanOut q h) c = RanOut (ap Err (subst (λ z. InBytes Converts z r) (same_err q) c)) (RunsOutInPart (i, 0) (refl, bytes) h)
  bits_err e r (Shown o a h) c = bits_of o e r a h c

module _ {I T O E F : Type 0} (w : Model I ℕ) (IsOutput : T → O → Type 0) (errs : Errors (I × ℕ) F) (Converts : E → F → Type 0) (m : Meaning I T E)
    (mode : Modes) (i : I × ℕ) (j : I) (start : IsSuffixOf (bits_model w) i (bits_ahead w i) (j, 0)) where
  abbrev InBytes' : PResult I O E → Type 0
  InBytes' = ShowsMeaning w IsOutput m (with_streaming true mode) j

  abbrev OfBytes : PResult (I × ℕ) O F → Type 0
  OfBytes = ShowsMeaning (bits_model w) IsOutput (bytes_meaning w errs Converts m) mode i

  at_bytes : {Fact : I → Outcome T → Type 0} (a : Outcome T) → m.answers true j a → Fact j a →
      OnPart (λ i j. IsSuffixOf (bits_model w) i (bits_ahead w i) (j, 0)) (m.answers true) Fact i
  at_bytes a p f = record { at = j; at_is = start; outcome = a; answered = p; fact = f }

  pub bytes_ok : InputLaws w → ((j : I) → w.IsKnown j → AreBytes (w.elements j)) → (k : I) (x : Option O) → InBytes' (Ok (k, x)) → OfBytes (Ok ((k, 0), x))
  bytes_ok l values k x h =
      let a = accepts h in
      let count = length a.rest_is.front in
      let rest = rest_rest (bits_model w) (bits_lawful w) i (bits_ahead w i) (j, 0) (8 * count)
      (k, 0) start (bytes_passed w l values j a.length k start.known a.rest_is) in
      Shown (Accept (bits_ahead w i + 8 * count) a.tree)
      (at_bytes (Accept a.length a.tree) a.answered
      (record {
        at = j;
        at_is = start;
        count = count;
        counted =
            record {
              place = record { front = a.rest_is.front; rest = w.elements k; whole = a.rest_is.whole; length_is = a.rest_is.length_is };
              count_is =
                  refl;
            };
        outcome_is = refl;
      })) ((k, 0), x, rest, a.built_is, refl)

  needs_of : (k : Option ℕ) (n : Needed) (r : Answer.Err F (Option F) Needed) → m.answers true j (Stop (Needs k)) → size_of n ≡ k →
      InBits Converts errs i (Incomplete n) r → OfBytes (Err r)
  needs_of k n r a e (inl (c, inl d)) =
      let large = subst IsTooLarge e c in
      Shown (Stop (Fails TooLarge)) (at_bytes (Stop (Needs k)) a (inl (large, refl))) (d.0, at_bytes (Stop (Needs k)) a (inr (large, d.1)), ap Err d.2)
  needs_of k n r a e (inl (c, inr d)) = RanOut (ap Err d.1) (RunsOutBeside (at_bytes (Stop (Needs k)) a (subst IsTooLarge e c, d.0)))
  needs_of k n r a e (inr c) = Shown (Stop (Needs (size_of c.0)))
      (at_bytes (Stop (Needs k)) a (inr (size_of c.0, subst (λ z. BitsNeeded z (size_of c.0)) e c.1, refl))) (c.0, refl, ap Err c.2)

  bytes_of : (o : Outcome T) (e : Answer.Err E (Option E) Needed) (r : Answer.Err F (Option F) Needed) → m.answers true j o →
      ShowsOutcome w IsOutput (with_streaming true mode) j (m.blames true j) o (Err e) → InBits Converts errs i e r → OfBytes (Err r)
  bytes_of (Accept n v) e r a h c = absurd (cc (h.4))
  bytes_of Refuse e r a h c =
      let d = subst (λ z. InBits Converts errs i z r) (same_err h.2) c in
      Shown Refuse (at_bytes Refuse a refl)
      (d.0, converts_built mode.errors Converts _ _ h.0 d.0 (λ x y p q. at_bytes Refuse a (inl (x, tt, p, q))) d.1 h.1, ap Err d.2)
  bytes_of (Stop (Fails cause)) e r a h c =
      let d = subst (λ z. InBits Converts errs i z r) (same_err h.2) c in
      Shown (Stop (Fails cause)) (at_bytes (Stop (Fails cause)) a refl) (d.0, at_bytes (Stop (Fails cause)) a (inl (h.0, tt, h.1, d.1)), ap Err d.2)
  bytes_of (Stop (Needs k)) e r a h c = needs_of k h.0 r a h.1 (subst (λ z. InBits Converts errs i z r) (same_err h.2) c)

  pub bytes_err : (e : Answer.Err E (Option E) Needed) (r : Answer.Err F (Option F) Needed) → InBytes' (Err e) → InBits Converts errs i e r → OfBytes (Err r)
  bytes_err e r (RanOut q h) c = RanOut (ap Err (subst (λ z. InBits Converts errs i z r) (same_err q) c)) (RunsOutInPart j start h)
  bytes_err e r (Shown o a h) c = bytes_of o e r a h c
