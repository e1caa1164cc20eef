-- The bytes of an item are those of the whole.
use Rattle.std.proofs.Common.{arith, ◌≡◌, ℕ, zero, suc, ◌≤◌, Bool, true, false, List, ◌++◌, length, take, Option, Some, Ok, Err}
use Rattle.std.proofs.Common.{refl, sym, ◌∙◌, ap, subst, length-append}
use Rattle.std.proofs.lemmas.List.{take-append-le}
use Rattle.nom_internal.specs.Prelude.{Needed, Grammar}
use Rattle.nom_error.specs.declared.answer.Err.TheVariants as Stops
use Rattle.nom_error.specs.declared.value.Error.{Error}
use Rattle.nom_stream.specs.declared.held.Held.{Held}
use Rattle.nom_stream.specs.declared.stream.Stream.{Stream}
use Rattle.nom_stream.specs.Held.{held_of, last_of}
use Rattle.nom_stream.specs.Items.{Bytes, HoldsLast, Taken, Takes}
use Rattle.nom_stream.specs.Streams.{Answers, Ends, IsItemResult}
use Rattle.nom_stream.specs.Streams.Answers.{Decided, AtEnd, Full, Faulted, Lacking}
use Rattle.nom_stream.specs.Streams.Ends.{Clean, Within, Completed}
use Rattle.nom_stream.specs.Wholes.{BytesOfWhole}
use Rattle.nom_stream.proofs.Outcomes.{meant}
use Rattle.nom_stream.proofs.Wholes.{left_read}

module _ {A V O : Type 0} (grammar : Grammar Bytes V O (Error Bytes)) (h : Held A) (n : ℕ) (o : O) (after : List ℕ) where
  abbrev AreFirst : List ℕ → Type 0
  AreFirst old = last_of n h ≡ take n (old ++ after)

  -- an item has no more bytes than were held
  fits : (more : Bool) (old : List ℕ) (k : ℕ) (p : O) → Takes grammar more old (held_of h) (Ok (k, p)) → k ≤ length old
  fits more old k p t =
      let means = meant grammar more old (held_of h) (Ok (k, p)) t in
      let front = (means.3).0 in
      omega (arith, (means.3).1, ap length t.is_held, ap length (means.3).2, length-append front (held_of h))

  of_taken : (more : Bool) (old : List ℕ) (taken : Taken O) → Takes grammar more old (held_of h) taken → HoldsLast old h taken →
      IsItemResult taken (Ok (Some (n, o))) → AreFirst old
  of_taken more old (Ok (zero, p)) t l e = let f = e.0 refl in absurd (cc (f))
  of_taken more old (Ok (suc k, p)) t l e =
      let f = e.1 (omega arith) in
      let both : ◌≡◌ {A = ℕ × O} (n, o) (suc k, p) = cc (f) in
      let same : n ≡ suc k = ap (λ (z : ℕ × O). z.0) both in
      subst (λ z. last_of z h ≡ take z (old ++ after)) (sym same) (l.1 ∙ sym (take-append-le (suc k) old after (fits more old (suc k) p t)))
  of_taken more old (Err (Stops.Incomplete k)) t l e = absurd (cc (e))
  of_taken more old (Err (Stops.Error k)) t l e = absurd (cc (e))
  of_taken more old (Err (Stops.Failure k)) t l e = absurd (cc (e))
  of_taken more old (Err Stops.OutOfMemory) t l e = absurd (cc (e))

module _ {R A V O : Type 0} (grammar : Grammar Bytes V O (Error Bytes)) (u t : Stream R A) (n : ℕ) (o : O) (after : List ℕ) where
  abbrev Lends : Type 0
  Lends = last_of n t.held ≡ take n (held_of u.held ++ after)

  of_ends : (k : Needed) → Ends grammar u t k (Ok (Some (n, o))) → Lends
  of_ends k (Clean a b e) = absurd (cc (e))
  of_ends k (Within s a b e) = absurd (cc (e))
  of_ends k (Completed s a taken g l e) = of_taken grammar t.held n o after false (held_of u.held) taken g l e

  lends : Answers grammar u t (Ok (Some (n, o))) → Lends
  lends (Decided taken d g l e) = of_taken grammar t.held n o after true (held_of u.held) taken g l e
  lends (AtEnd e k g h) = of_ends k h
  lends (Full g a b w e) = absurd (cc (e))
  lends (Faulted why b w e) = absurd (cc (e))
  lends (Lacking l b w e) = absurd (cc (e))

module _ {R A V O : Type 0} (left : R → Option (List ℕ)) (grammar : Grammar Bytes V O (Error Bytes)) where
  pub bytes_whole : BytesOfWhole A left grammar
  bytes_whole s t n o d whole has =
      let u = d.filled in
      let then = left_read left s u d.reads.given whole d.reads.gives d.at_end has in
      lends grammar u t n o then.0 d.answers ∙ ap (take n) (sym then.2)
