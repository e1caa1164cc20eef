-- One answer is that of the whole.
use Rattle.std.proofs.Common.{arith, ◌≡◌, ℕ, zero, suc, ◌≤◌, Bool, true, false, List, [], ◌++◌, length, Option, Some, None, Ok, Err}
use Rattle.std.proofs.Common.{refl, sym, ◌∙◌, ap, subst}
use Rattle.std.proofs.Common.{append_assoc, append-nil, inl, inr}
use Rattle.std.specs.Io.KnownBytes.{Consumes, IsAtEnd}
use Rattle.nom_internal.specs.Prelude.{size_of, Needed, bytes_model, Outcome, Accept, Refuse, Stop, Fails, Needs, Outright, TooLarge, IsDecided, Meaning}
use Rattle.nom_internal.specs.Prelude.{Grammar}
use Rattle.nom_internal.specs.Prelude.{IsLawful, IsSteady, Cause}
use Rattle.nom_error.specs.declared.answer.Err.TheVariants as Stops
use Rattle.nom_error.specs.declared.value.Error.{Error}
use Rattle.nom_stream.specs.declared.stream.Stream.{Stream}
use Rattle.nom_stream.specs.Held.{held_of}
use Rattle.nom_stream.specs.Items.{Bytes, IsUndecided, Taken, Takes, undecided}
use Rattle.nom_stream.specs.Streams.{Answers, Decides, Ends, EndsAsReader, Gives, IsItemResult, ItemResult}
use Rattle.nom_stream.specs.Streams.Answers.{Decided, AtEnd, Full, Faulted, Lacking}
use Rattle.nom_stream.specs.Streams.Ends.{Clean, Within, Completed}
use Rattle.nom_stream.specs.Wholes.{AtWhole, TellsFailure, HasLeft, IsLacking, TellsWhole, AnswersWhole, used_of}
use Rattle.nom_stream.proofs.Outcomes.{Means, meant}

consumes_known : (a b : Option (List ℕ)) (xs given : List ℕ) → a ≡ Some xs → Consumes a b given → (ys : List ℕ) × (b ≡ Some ys) × (xs ≡ given ++ ys)
consumes_known None b xs given e h = absurd (cc (e))
consumes_known (Some a) None xs given e h = absurd h
consumes_known (Some a) (Some b) xs given e h = let same : a ≡ xs = cc (e) in (b, refl, sym same ∙ h)

end_known : (a : Option (List ℕ)) (xs : List ℕ) → a ≡ Some xs → IsAtEnd a → xs ≡ []
end_known None xs e h = absurd (cc (e))
end_known (Some a) xs e h = let same : a ≡ xs = cc (e) in sym same ∙ h

module _ {R A : Type 0} (left : R → Option (List ℕ)) where
  -- a stream that has ended has a reader that is at its end
  ends_so : (s : Stream R A) (xs : List ℕ) → HasLeft left s xs → EndsAsReader left s
  ends_so s xs h e = subst IsAtEnd (sym h.1) (h.3 e)

  -- what was read is among the bytes that no item had, before and after
  pub left_read : (s u : Stream R A) (given xs : List ℕ) → Gives left s u given → (EndsAsReader left s → EndsAsReader left u) → HasLeft left s xs →
      HasLeft left u xs
  left_read s u given xs g ends h =
      let c = consumes_known (left s.source.inner) (left u.source.inner) h.0 given h.1 g.consumed in (
        c.0,
        c.1,
        h.2 ∙ ap (λ z. held_of s.held ++ z) c.2 ∙ sym (append_assoc (held_of s.held) given c.0) ∙ ap (λ z. z ++ c.0) (sym g.added),
        λ e. end_known (left u.source.inner) c.0 c.1 (ends (ends_so s xs h) e),
      )

module _ {V : Type 0} (m : Meaning Bytes V (Error Bytes)) (lawful : IsLawful bytes_model m) (x i : Bytes) (kx : bytes_model.IsKnown x)
    (ki : bytes_model.IsKnown i) where
  abbrev Steady : Type 0
  Steady = IsSteady bytes_model m

  -- what is decided on a beginning is the outcome at the whole
  decided : (steady : Steady) (more : List ℕ) → i.now ≡ x.now ++ more → (complete : Bool) (o p : Outcome V) → m.answers true x o → IsDecided o →
      AtWhole m complete i p → o ≡ p
  decided steady more e false o p a d b = steady.stays x i o p kx ki (record { more = more; added = tt; whole = e; mark_is = refl }) a d b
  decided steady more e true o p a d (inl b) = steady.stays x i o p kx ki (record { more = more; added = tt; whole = e; mark_is = refl }) a d b.0
  decided steady more e true o p a d (inr b) =
      let same : o ≡ Stop (Needs b.0) = steady.stays x i o (Stop (Needs b.0)) kx ki (record { more = more; added = tt; whole = e; mark_is = refl }) a d b.1 in
      absurd (subst IsDecided same d)

  -- where all of the whole leaves more needed, that is its outcome, unless it is asked for as a complete input
  lacking : i.now ≡ x.now → (complete : Bool) → complete ≡ false → (k : Option ℕ) (p : Outcome V) → m.answers true x (Stop (Needs k)) →
      AtWhole m complete i p → Stop (Needs k) ≡ p
  lacking e false f k p a b = lawful.one_outcome true x i (Stop (Needs k)) p kx ki (record { elements_are = sym e; mark_is = refl }) a tt b
  lacking e true f k p a b = absurd (cc (f))

  -- and then it is the complete one
  completed : i.now ≡ x.now → (complete : Bool) → complete ≡ true → (y : Bytes) → bytes_model.IsKnown y → i.now ≡ y.now →
      (k : Option ℕ) (o p : Outcome V) → m.answers true x (Stop (Needs k)) → m.answers false y o → AtWhole m complete i p → o ≡ p
  completed e false f y ky d k o p a c b = absurd (cc (f))
  completed e true f y ky d k o p a c (inl b) =
      let same : Stop (Needs k) ≡ p = lawful.one_outcome true x i (Stop (Needs k)) p kx ki (record { elements_are = sym e; mark_is = refl }) a tt b.0 in
      absurd (b.1 (subst IsLacking same tt))
  completed e true f y ky d k o p a c (inr b) = lawful.one_outcome false y i o p ky ki (record { elements_are = sym d; mark_is = refl }) c tt b.2

  -- what is needed at an input is needed at each that is equal as models
  lacking_consistent : i.now ≡ x.now → (k : Option ℕ) → m.answers true x (Stop (Needs k)) → m.answers true i (Stop (Needs k))
  lacking_consistent e k a = lawful.consistent true x i (Stop (Needs k)) kx ki (record { elements_are = sym e; mark_is = refl }) a tt

module _ {R A V O : Type 0} (grammar : Grammar Bytes V O (Error Bytes)) (t : Stream R A) (i : Bytes) (p : Outcome V) where
  abbrev Tellings : ItemResult O → Type 0
  Tellings r = TellsWhole grammar t r i p

  -- of a parse that decides: its outcome is that of the whole
  module _ (more : Bool) (x : Bytes) (same : (o : Outcome V) → grammar.meaning.answers more x o → (more ≡ true → IsDecided o) → o ≡ p)
      (large : grammar.meaning.answers more x (Stop (Fails TooLarge)) → TellsFailure grammar.meaning i p) where
    tells_failure : (cause : Cause) → grammar.meaning.answers more x (Stop (Fails cause)) → TellsFailure grammar.meaning i p
    tells_failure Outright a = inl (sym (same (Stop (Fails Outright)) a (λ _. tt)))
    tells_failure TooLarge a = large a

    tells : (held : (more ≡ true → ⊥) → held_of t.held ≡ x.now → held_of t.held ≡ i.now) (taken : Taken O) →
        (more ≡ true → IsUndecided taken → ⊥) → Means grammar more x (held_of t.held) taken → (r : ItemResult O) → IsItemResult taken r → Tellings r
    tells held (Ok (zero, o)) d h r e = subst Tellings (sym (e.0 refl)) (h.0, same (Accept 0 h.0) h.2 (λ _. tt))
    tells held (Ok (suc n, o)) d h r e = subst Tellings (sym (e.1 (omega arith))) (h.0, h.1, same (Accept (suc n) h.0) h.2 (λ _. tt))
    tells held (Err (Stops.Incomplete k)) d h r e =
        subst Tellings (sym e) (held (λ f. d f tt) h.1, same (Stop (Needs (size_of k))) h.0 (λ f. absurd (d f tt)))
    tells held (Err (Stops.Error k)) d h r e = subst Tellings (sym e) (sym (same Refuse h.0 (λ _. tt)))
    tells held (Err (Stops.Failure k)) d h r e = subst Tellings (sym e) (tells_failure (h.0).0 (h.0).1)
    tells held (Err Stops.OutOfMemory) d h r e = subst Tellings (sym e) tt

-- how many bytes an item had: they are no longer among those that no item had
module _ {R A V O : Type 0} (grammar : Grammar Bytes V O (Error Bytes)) (t : Stream R A) where
  abbrev Moves : List ℕ → ItemResult O → Type 0
  Moves old r = (front : List ℕ) × (length front ≡ used_of r) × (old ≡ front ++ held_of t.held)

  stays : (old : List ℕ) (r : ItemResult O) → used_of r ≡ 0 → held_of t.held ≡ old → Moves old r
  stays old r e h = ([], sym e, sym h)

  pub moves : (more : Bool) (x : Bytes) (taken : Taken O) → Means grammar more x (held_of t.held) taken → (r : ItemResult O) → IsItemResult taken r →
      Moves x.now r
  moves more x (Ok (zero, o)) h r e = let f = h.3 in (f.0, f.1 ∙ sym (ap used_of (e.0 refl)), f.2)
  moves more x (Ok (suc n, o)) h r e = subst (Moves x.now) (sym (e.1 (omega arith))) (h.3)
  moves more x (Err (Stops.Incomplete k)) h r e = stays x.now r (ap used_of e) h.1
  moves more x (Err (Stops.Error k)) h r e = stays x.now r (ap used_of e) h.1
  moves more x (Err (Stops.Failure k)) h r e = stays x.now r (ap used_of e) h.1
  moves more x (Err Stops.OutOfMemory) h r e = stays x.now r (ap used_of e) h

  moves_taken : (more : Bool) (old : List ℕ) (taken : Taken O) (r : ItemResult O) → Takes grammar more old (held_of t.held) taken → IsItemResult taken r →
      Moves old r
  moves_taken more old taken r k e = subst (λ z. Moves z r) k.is_held (moves more k.input taken (meant grammar more old (held_of t.held) taken k) r e)

  moves_ends : (u : Stream R A) (k : Needed) (r : ItemResult O) → Ends grammar u t k r → Moves (held_of u.held) r
  moves_ends u k r (Clean a b e) = stays (held_of u.held) r (ap used_of e) (b ∙ sym a)
  moves_ends u k r (Within s a b e) = stays (held_of u.held) r (ap used_of e) b
  moves_ends u k r (Completed s a taken g l e) = moves_taken false (held_of u.held) taken r g e

  pub moves_answer : (u : Stream R A) (r : ItemResult O) → Answers grammar u t r → Moves (held_of u.held) r
  moves_answer u r (Decided taken d g l e) = moves_taken true (held_of u.held) taken r g e
  moves_answer u r (AtEnd e k g h) = moves_ends u k r h
  moves_answer u r (Full g a b w e) = stays (held_of u.held) r (ap used_of e) b
  moves_answer u r (Faulted why b w e) = stays (held_of u.held) r (ap used_of e) b
  moves_answer u r (Lacking l b w e) = stays (held_of u.held) r (ap used_of e) b

module _ {R A V O : Type 0} (left : R → Option (List ℕ)) (grammar : Grammar Bytes V O (Error Bytes)) (u t : Stream R A)
    (same_settings : t.settings ≡ u.settings) (i : Bytes) (ki : bytes_model.IsKnown i)
    (has : HasLeft left u i.now) (p : Outcome V) (b : AtWhole grammar.meaning u.settings.complete i p) (sound : grammar.meaning.IsSound) where
  at_end : u.ended ≡ true → i.now ≡ held_of u.held
  at_end e = has.2 ∙ ap (λ z. held_of u.held ++ z) (has.3 e) ∙ append-nil (held_of u.held)

  of_decided : (taken : Taken O) (r : ItemResult O) → (IsUndecided taken → ⊥) → Takes grammar true (held_of u.held) (held_of t.held) taken →
      IsItemResult taken r → TellsWhole grammar t r i p
  of_decided taken r d g e =
      let x = g.input in
      let longer : i.now ≡ x.now ++ has.0 = has.2 ∙ ap (λ z. z ++ has.0) (sym g.is_held) in
      tells grammar t i p true x (λ o a f. decided grammar.meaning (g.parses.lawful sound) x i g.known ki (g.parses.steady sound)
      has.0 longer u.settings.complete o p a
      (f refl) b) (λ a. inr (inr (x, has.0, longer, a)))
      (λ f. absurd (f refl)) taken (λ _. d) (meant grammar true (held_of u.held) (held_of t.held) taken g) r e

  of_ends : u.ended ≡ true → (k : Needed) (r : ItemResult O) → Takes grammar true (held_of u.held) (held_of u.held) (undecided k) →
      Ends grammar u t k r → TellsWhole grammar t r i p
  of_ends ended k r g (Clean a c e) =
      let x = g.input in
      let h = meant grammar true (held_of u.held) (held_of u.held) (undecided k) g in
      let all : i.now ≡ x.now = at_end ended ∙ sym g.is_held in
      subst (λ z. TellsWhole grammar t z i p) (sym e) (
        at_end ended ∙ a,
        size_of k,
        lacking_consistent grammar.meaning (g.parses.lawful sound) x i g.known ki all
            (size_of k) h.0,
      )
  of_ends ended k r g (Within s a c e) =
      let x = g.input in
      let h = meant grammar true (held_of u.held) (held_of u.held) (undecided k) g in
      let all : i.now ≡ x.now = at_end ended ∙ sym g.is_held in
      subst (λ z. TellsWhole grammar t z i p) (sym e)
      (c ∙ sym (at_end ended), lacking grammar.meaning (g.parses.lawful sound) x i g.known ki all u.settings.complete a (size_of k) p h.0 b)
  of_ends ended k r g (Completed s a taken q l e) =
      let x = g.input in
      let y = q.input in
      let h = meant grammar true (held_of u.held) (held_of u.held) (undecided k) g in
      let all : i.now ≡ x.now = at_end ended ∙ sym g.is_held in
      let all_too : i.now ≡ y.now = at_end ended ∙ sym q.is_held in
      let one : (o : Outcome V) → grammar.meaning.answers false y o → o ≡ p =
      λ o c. completed grammar.meaning (g.parses.lawful sound) x i g.known ki all u.settings.complete a y q.known all_too (size_of k) o p h.0 c b in
      tells grammar t i p false y (λ o c f. one o c) (λ c. inr (inl (sym (one (Stop (Fails TooLarge)) c))))
      (λ f c. c ∙ sym all_too) taken (λ f. absurd (cc (f))) (meant grammar false (held_of u.held) (held_of t.held) taken q) r e

  pub of_answer : (r : ItemResult O) → Answers grammar u t r → TellsWhole grammar t r i p
  of_answer r (Decided taken d g l e) = of_decided taken r d g e
  of_answer r (AtEnd e k g h) = of_ends e k r g h
  of_answer r (Full g a c w e) = subst (λ z. TellsWhole grammar t z i p) (sym e)
      (subst (λ z. z ≤ length (held_of t.held)) (ap (λ z. z.most) (sym same_settings)) (subst (λ z. u.settings.most ≤ length z) (sym c) a))
  of_answer r (Faulted why c w e) = subst (λ z. TellsWhole grammar t z i p) (sym e) tt
  of_answer r (Lacking l c w e) = subst (λ z. TellsWhole grammar t z i p) (sym e) tt

module _ {R A V O : Type 0} (left : R → Option (List ℕ)) (grammar : Grammar Bytes V O (Error Bytes)) where
  pub answers_whole : grammar.meaning.IsSound → AnswersWhole A left grammar
  answers_whole sound s t r d whole known has p b =
      let u = d.filled in
      let then = left_read left s u d.reads.given whole.now d.reads.gives d.at_end has in
      of_answer left grammar u t (d.settings.1 ∙ sym d.settings.0) whole known then p
      (subst (λ z. AtWhole grammar.meaning z.complete whole p) (sym d.settings.0) b) sound r d.answers

  -- and the bytes that no item had are a rest of the whole
  pub left_after : (s t : Stream R A) (r : ItemResult O) (xs : List ℕ) → Decides left grammar s t r → HasLeft left s xs → (front : List ℕ) ×
      (length front ≡ used_of r) × ((rest : List ℕ) × HasLeft left t rest × (xs ≡ front ++ rest))
  left_after s t r xs d has =
      let u = d.filled in
      let then = left_read left s u d.reads.given xs d.reads.gives d.at_end has in
      let f = moves_answer grammar t u r d.answers in (
        f.0,
        f.1,
        (
          held_of t.held ++ then.0,
          (then.0, ap (λ z. left z.inner) d.source ∙ then.1, refl, λ e. then.3 (sym d.ended ∙ e)),
          then.2 ∙ ap (λ z. z ++ then.0) f.2 ∙
              append_assoc f.0 (held_of t.held) then.0,
        ),
      )
