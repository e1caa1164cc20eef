-- Lemmas on the answers of a stream where the bytes that no item had begin with a form of an item, and where there are none.
use Rattle.std.proofs.Common.{arith, ◌≡◌, ℕ, ◌<◌, ◌⊎◌, true, List, [], ◌∷◌, ◌++◌, length, Option, Some, None, Ok, Err, refl}
use Rattle.std.proofs.Common.{sym, ◌∙◌, ap, subst, append_assoc, append-nil, inl, inr, length-append}
use Rattle.std.specs.Io.KnownBytes.{Appends, Consumes, IsAtEnd}
use Rattle.nom_error.specs.declared.value.Error.{Error}
use Rattle.nom_internal.specs.Prelude.{bytes_model, items_len, items_len-ones, Cause, Outright, TooLarge, Grammar, IsDecided, IsLawful, IsPinned, IsSteady}
use Rattle.nom_internal.specs.Prelude.{NeverTooLarge, Outcome, Accept, Refuse, Stop, Fails, Needs, View, Needed}
use Rattle.nom_stream.specs.declared.stream.Stop.TheVariants as Stopped
use Rattle.nom_stream.specs.declared.stream.Stream.{Stream}
use Rattle.nom_stream.specs.Held.{held_of}
use Rattle.nom_stream.specs.Items.{Bytes, IsUndecided, Taken}
use Rattle.nom_stream.specs.Streams.{Answers, Ends, EndsAsReader, Gives, IsItemResult, ItemResult}
use Rattle.nom_stream.specs.Streams.Answers.{Decided, AtEnd, Full, Faulted, Lacking}
use Rattle.nom_stream.specs.Streams.Ends.{Clean, Within, Completed}
use Rattle.nom_stream.specs.Wholes.{Calls, HasLeft}
use Rattle.nom_write_stream.proofs.Outcomes.{lacks, TellsOutcome, told}
use Rattle.nom_sink.specs.Lists.{EachForm}
use Rattle.nom_write.specs.Reads.{IsTaken, Reads}
use Rattle.nom_write_stream.specs.Outgoing.{IsItem}
use Rattle.nom_write_stream.specs.Pipes.{HasOutcomes, ItemsOfForms, ItemsOfPipe, TellsItems}

-- one of two lists that are fronts of one is a front of the other
fronts : (xs ys us vs : List ℕ) → xs ++ us ≡ ys ++ vs → ((more : List ℕ) × (ys ≡ xs ++ more)) ⊎ ((more : List ℕ) × (xs ≡ ys ++ more))
fronts [] ys us vs e = inl (ys, refl)
fronts (x ∷ xs) [] us vs e = inr (x ∷ xs, refl)
fronts (x ∷ xs) (y ∷ ys) us vs e = longer (fronts xs ys us vs (cc (e)))
  where
    same : x ≡ y
    same = cc (e)

    longer : ((more : List ℕ) × (ys ≡ xs ++ more)) ⊎ ((more : List ℕ) × (xs ≡ ys ++ more)) →
        ((more : List ℕ) × (y ∷ ys ≡ (x ∷ xs) ++ more)) ⊎ ((more : List ℕ) × (x ∷ xs ≡ (y ∷ ys) ++ more))
    longer (inl h) = inl (h.0, cc (same, h.1))
    longer (inr h) = inr (h.0, cc (same, h.1))

-- fronts of one list that are as long are one, and so are the rests
rests : (xs ys us vs : List ℕ) → length xs ≡ length ys → xs ++ us ≡ ys ++ vs → us ≡ vs
rests [] [] us vs n e = e
rests [] (y ∷ ys) us vs n e = absurd (omega (arith, n))
rests (x ∷ xs) [] us vs n e = absurd (omega (arith, n))
rests (x ∷ xs) (y ∷ ys) us vs n e = rests xs ys us vs (omega (arith, n)) (cc (e))

nil : (xs : List ℕ) → length xs ≡ 0 → xs ≡ []
nil [] e = refl
nil (x ∷ xs) e = absurd (omega (arith, e))

end_known : (a : Option (List ℕ)) (xs : List ℕ) → a ≡ Some xs → IsAtEnd a → xs ≡ []
end_known None xs e h = absurd (cc (e))
end_known (Some a) xs e h = let same : a ≡ xs = cc (e) in sym same ∙ h

no_front : (xs front rest : List ℕ) → 0 < length xs → [] ≡ front ++ rest → items_len (λ _. 1) front ≡ items_len (λ _. 1) xs → ⊥
no_front xs front rest some e n = omega (arith, some, items_len-ones xs, items_len-ones front, n, ap length e, length-append front rest)

consumes_known : (a b : Option (List ℕ)) (xs given : List ℕ) → a ≡ Some xs → Consumes a b given → (ys : List ℕ) × (b ≡ Some ys) ×
    (xs ≡ given ++ ys)
consumes_known None b xs given e h = absurd (cc (e))
consumes_known (Some a) None xs given e h = absurd h
consumes_known (Some a) (Some b) xs given e h = let same : a ≡ xs = cc (e) in (b, refl, sym same ∙ h)

-- what was read is among the bytes that no item had, before and after
left_read : {R A : Type 0} (left : R → Option (List ℕ)) (s u : Stream R A) (given xs : List ℕ) → Gives left s u given →
    (EndsAsReader left s → EndsAsReader left u) → HasLeft left s xs → HasLeft left u xs
left_read left s u given xs g ends h =
    let c = consumes_known (left s.source.inner) (left u.source.inner) h.0 given h.1 g.consumed in (
      c.0,
      c.1,
      h.2 ∙ (ap (λ z. held_of s.held ++ z) c.2 ∙ (sym (append_assoc (held_of s.held) given c.0) ∙ ap (λ z. z ++ c.0) (sym g.added))),
      λ e. end_known (left u.source.inner) c.0 c.1 (ends (λ f. subst IsAtEnd (sym h.1) (h.3 f)) e),
    )

abbrev input_of : List ℕ → Bytes
input_of xs = record { ref_ptr = (0, 0); now = xs }

module _ {V O : Type 0} (view : View O) (Pins : Type 0) (g : Grammar Bytes V O (Error Bytes)) (lawful : IsLawful bytes_model g.meaning)
    (steady : IsSteady bytes_model g.meaning) (pinned : Pins → IsPinned view g.IsOutput) (never : NeverTooLarge g.meaning) (outcomes : HasOutcomes g)
    (Form : O → List ℕ → Type 0) (Follow : List ℕ → Type 0) (all : (rest : List ℕ) → Follow rest) (reads : Reads bytes_model g Form Follow)
    (most : ℕ) where
  abbrev IsIt : O → List ℕ → Type 0
  IsIt v = IsItem (Form v) most

  abbrev Taking : O → List ℕ → Outcome V → Type 0
  Taking v xs = IsTaken bytes_model (λ t. g.IsOutput t v) (items_len bytes_model.item_len xs)

  module _ (v : O) (xs : List ℕ) (item : IsIt v xs) (x : Bytes) (known : bytes_model.IsKnown x) where
    -- at an input that begins with it, it is accepted
    at_begun : (more : List ℕ) → x.now ≡ xs ++ more → (o : Outcome V) → g.meaning.answers true x o → Taking v xs o
    at_begun more e o a = (reads.reads v xs item.form true).read x more o known e (all more) a

    -- so no more is needed there
    not_needed : (more : List ℕ) → x.now ≡ xs ++ more → (k : Option ℕ) → g.meaning.answers true x (Stop (Needs k)) → ⊥
    not_needed more e k a = let w = at_begun more e (Stop (Needs k)) a in absurd (cc (w.1))

    module _ (after rest : List ℕ) (e : x.now ++ after ≡ xs ++ rest) where
      -- what is decided there, or before
      decided : (o : Outcome V) → g.meaning.answers true x o → IsDecided o → Taking v xs o
      decided o a d = by (fronts x.now xs after rest e)
        where
          by : ((more : List ℕ) × (xs ≡ x.now ++ more)) ⊎ ((more : List ℕ) × (x.now ≡ xs ++ more)) → Taking v xs o
          by (inl h) =
              let y = input_of xs in
              let p = outcomes.outcome y item.known in
              let same : o ≡ p.0 = steady.stays x y o p.0 known item.known (record { more = h.0; added = tt; whole = h.1; mark_is = refl }) a d p.1 in
              subst (Taking v xs) (sym same) ((reads.reads v xs item.form true).read y [] p.0 item.known (sym (append-nil xs)) (all []) p.1)
          by (inr h) = at_begun h.0 h.1 o a

      -- where more is needed there are fewer bytes than it has
      fewer : (k : Option ℕ) → g.meaning.answers true x (Stop (Needs k)) → length x.now < length xs
      fewer k a = by (fronts x.now xs after rest e)
        where
          by : ((more : List ℕ) × (xs ≡ x.now ++ more)) ⊎ ((more : List ℕ) × (x.now ≡ xs ++ more)) → length x.now < length xs
          by (inl ([], h)) = absurd (not_needed [] (sym (append-nil x.now) ∙ sym h ∙ sym (append-nil xs)) k a)
          by (inl (m ∷ more, h)) = omega (arith, ap length h, length-append x.now (m ∷ more))
          by (inr h) = absurd (not_needed h.0 h.1 k a)

  -- where there are no bytes, nothing is decided
  module _ (v : O) (xs : List ℕ) (item : IsIt v xs) (x : Bytes) (known : bytes_model.IsKnown x) (none : x.now ≡ []) where
    undecided : (o : Outcome V) → g.meaning.answers true x o → IsDecided o → ⊥
    undecided o a d =
        let before : x.now ++ xs ≡ xs ++ [] = ap (λ z. z ++ xs) none ∙ sym (append-nil xs) in
        let w = decided v xs item x known xs [] before o a d in
        let b = lawful.within true x (items_len bytes_model.item_len xs) w.0 known (subst (g.meaning.answers true x) w.1 a) in
        let front = b.front in
        let rest = b.rest in
        absurd (no_front xs front rest item.some (sym none ∙ b.whole) b.length_is)

  module _ {R A : Type 0} (u t : Stream R A) where
    -- what is told where an item is left
    module _ (v : O) (xs : List ℕ) (item : IsIt v xs) (after rest : List ℕ) (e : held_of u.held ++ after ≡ xs ++ rest)
        (ends : u.ended ≡ true → after ≡ []) where
      abbrev TellsIt : ItemResult O → Type 0
      TellsIt (Ok (Some (n, o))) = (n ≡ length xs) × (Pins → view.value o ≡ view.value v) × ((front : List ℕ) × (length front ≡ n) ×
          (held_of u.held ≡ front ++ held_of t.held))
      TellsIt (Ok None) = ⊥
      TellsIt (Err (Stopped.Refused k at)) = ⊥
      TellsIt (Err (Stopped.Failed k at)) = ⊥
      TellsIt (Err Stopped.Nothing) = ⊥
      TellsIt (Err (Stopped.Incomplete k)) = ⊥
      TellsIt (Err Stopped.TooLong) = (u.settings.most < most) × (held_of t.held ≡ held_of u.held)
      TellsIt (Err (Stopped.Fault why)) = held_of t.held ≡ held_of u.held
      TellsIt (Err Stopped.OutOfMemory) = held_of t.held ≡ held_of u.held

      module _ (x : Bytes) (known : bytes_model.IsKnown x) (is : x.now ≡ held_of u.held) where
        whole : x.now ++ after ≡ xs ++ rest
        whole = ap (λ z. z ++ after) is ∙ e

        not_failed : (cause : Cause) → g.meaning.answers true x (Stop (Fails cause)) → ⊥
        not_failed Outright a = let w = decided v xs item x known after rest whole (Stop (Fails Outright)) a tt in absurd (cc (w.1))
        not_failed TooLarge a = lawful.never_fails TooLarge never true x known a

        told_it : (taken : Taken O) → (IsUndecided taken → ⊥) → TellsOutcome g x (held_of t.held) taken → (r : ItemResult O) → IsItemResult taken r → TellsIt r
        told_it taken d (inl (Accept n tree, a, h)) r s =
            let w = decided v xs item x known after rest whole (Accept n tree) a tt in
            let both : ◌≡◌ {A = Outcome V} (Accept n tree) (Accept (items_len bytes_model.item_len xs) w.0) = w.1 in
            let size : n ≡ items_len bytes_model.item_len xs = cc (both) in
            let same : tree ≡ w.0 = cc (both) in
            let long : n ≡ length xs = size ∙ items_len-ones xs in
            let given = (subst (λ z. IsItemResult z r) h.2 s).1 (omega (arith, long, item.some)) in
            let front = h.3 in
            subst TellsIt (sym given) (
              long,
              (λ p. (pinned p).one_view tree h.0 v h.1 (subst (λ z. g.IsOutput z v) (sym same) w.2)),
              (front.0, front.1, sym is ∙ front.2),
            )
        told_it taken d (inl (Refuse, a, h)) r s = let w = decided v xs item x known after rest whole Refuse a tt in absurd (cc (w.1))
        told_it taken d (inl (Stop (Fails cause), a, h)) r s = absurd (not_failed cause a)
        told_it taken d (inl (Stop (Needs j), a, h)) r s = absurd (d (subst (λ z. IsUndecided z) (sym h.1) tt))
        told_it taken d (inr h) r s =
            let given = subst (λ z. IsItemResult z r) h.1 s in
            subst TellsIt (sym given) (h.0 ∙ is)

        all_there : u.ended ≡ true → x.now ≡ xs ++ rest
        all_there f = sym (append-nil x.now) ∙ (ap (λ z. x.now ++ z) (sym (ends f)) ∙ whole)

      answer_tells : (r : ItemResult O) → Answers g u t r → TellsIt r
      answer_tells r (Decided taken d k l s) = told_it k.input k.known k.is_held taken d (told g (held_of u.held) (held_of t.held) taken k) r s
      answer_tells r (AtEnd f n k h) =
          let a = lacks g (held_of u.held) (held_of u.held) n k in
          absurd (not_needed v xs item k.input k.known rest (all_there k.input k.known k.is_held f) a.0 a.1)
      answer_tells r (Full f m b w s) =
          let k = w.1 in
          let a = lacks g (held_of u.held) (held_of u.held) w.0 k in
          let few = fewer v xs item k.input k.known after rest (whole k.input k.known k.is_held) a.0 a.1 in
          subst TellsIt (sym s) (omega (arith, m, ap length k.is_held, few, item.fits), b)
      answer_tells r (Faulted why b w s) = subst TellsIt (sym s) b
      answer_tells r (Lacking l b w s) = subst TellsIt (sym s) b

    -- and where none is
    module _ (v : O) (xs : List ℕ) (item : IsIt v xs) (none : held_of u.held ≡ []) where
      abbrev TellsEnd : ItemResult O → Type 0
      TellsEnd (Ok (Some p)) = ⊥
      TellsEnd (Ok None) = held_of t.held ≡ []
      TellsEnd (Err (Stopped.Refused k at)) = ⊥
      TellsEnd (Err (Stopped.Failed k at)) = ⊥
      TellsEnd (Err Stopped.Nothing) = ⊥
      TellsEnd (Err (Stopped.Incomplete k)) = ⊥
      TellsEnd (Err Stopped.TooLong) = (u.settings.most < most) × (held_of t.held ≡ [])
      TellsEnd (Err (Stopped.Fault why)) = held_of t.held ≡ []
      TellsEnd (Err Stopped.OutOfMemory) = held_of t.held ≡ []

      module _ (x : Bytes) (known : bytes_model.IsKnown x) (is : x.now ≡ held_of u.held) where
        never_decided : (o : Outcome V) → g.meaning.answers true x o → IsDecided o → ⊥
        never_decided = undecided v xs item x known (is ∙ none)

        never_failed : (cause : Cause) → g.meaning.answers true x (Stop (Fails cause)) → ⊥
        never_failed Outright a = never_decided (Stop (Fails Outright)) a tt
        never_failed TooLarge a = lawful.never_fails TooLarge never true x known a

        told_end : (taken : Taken O) → (IsUndecided taken → ⊥) → TellsOutcome g x (held_of t.held) taken → (r : ItemResult O) → IsItemResult taken r →
            TellsEnd r
        told_end taken d (inl (Accept n tree, a, h)) r s = absurd (never_decided (Accept n tree) a tt)
        told_end taken d (inl (Refuse, a, h)) r s = absurd (never_decided Refuse a tt)
        told_end taken d (inl (Stop (Fails cause), a, h)) r s = absurd (never_failed cause a)
        told_end taken d (inl (Stop (Needs j), a, h)) r s = absurd (d (subst (λ z. IsUndecided z) (sym h.1) tt))
        told_end taken d (inr h) r s =
            let given = subst (λ z. IsItemResult z r) h.1 s in
            subst TellsEnd (sym given) (h.0 ∙ (is ∙ none))

      end_tells : (k : Needed) (r : ItemResult O) → Ends g u t k r → TellsEnd r
      end_tells k r (Clean a b s) = subst TellsEnd (sym s) b
      end_tells k r (Within some a b s) = absurd (omega (arith, some, ap length none))
      end_tells k r (Completed some a taken q l s) = absurd (omega (arith, some, ap length none))

      ending_tells : (r : ItemResult O) → Answers g u t r → TellsEnd r
      ending_tells r (Decided taken d k l s) = told_end k.input k.known k.is_held taken d (told g (held_of u.held) (held_of t.held) taken k) r s
      ending_tells r (AtEnd f n k h) = end_tells n r h
      ending_tells r (Full f m b w s) = subst TellsEnd (sym s) (omega (arith, m, ap length none, item.some, item.fits), b ∙ none)
      ending_tells r (Faulted why b w s) = subst TellsEnd (sym s) (b ∙ none)
      ending_tells r (Lacking l b w s) = subst TellsEnd (sym s) (b ∙ none)

  abbrev TellingWithin : ℕ → List O → List (ItemResult O) → Type 0
  TellingWithin limit = TellsItems view Pins (limit < most)

  module _ {R A : Type 0} (left : R → Option (List ℕ)) (first : O) (form : List ℕ) (item : IsIt first form) (limit : ℕ) where
    -- after an answer the rest is told of what is left
    one_item : (u t : Stream R A) (v : O) (xs after rest : List ℕ) (i : IsIt v xs) (e : held_of u.held ++ after ≡ xs ++ rest)
        (ends : u.ended ≡ true → after ≡ []) (vs : List O) (r : ItemResult O) (rs : List (ItemResult O)) → u.settings.most ≡ limit →
        TellsIt u t v xs i after rest e ends r → (held_of t.held ++ after ≡ rest → TellingWithin limit vs rs) →
        (held_of t.held ++ after ≡ xs ++ rest → TellingWithin limit (v ∷ vs) rs) → TellingWithin limit (v ∷ vs) (r ∷ rs)
    one_item u t v xs after rest i e ends vs (Ok (Some (n, o))) rs m h f k =
        let front = h.2 in
        let cut : front.0 ++ (held_of t.held ++ after) ≡ xs ++ rest =
        sym (append_assoc front.0 (held_of t.held) after) ∙ (ap (λ z. z ++ after) (sym front.2) ∙ e) in
        (h.1, f (rests front.0 xs (held_of t.held ++ after) rest (front.1 ∙ h.0) cut))
    one_item u t v xs after rest i e ends vs (Ok None) rs m h f k = absurd h
    one_item u t v xs after rest i e ends vs (Err (Stopped.Refused why at)) rs m h f k = absurd h
    one_item u t v xs after rest i e ends vs (Err (Stopped.Failed why at)) rs m h f k = absurd h
    one_item u t v xs after rest i e ends vs (Err Stopped.Nothing) rs m h f k = absurd h
    one_item u t v xs after rest i e ends vs (Err (Stopped.Incomplete n)) rs m h f k = absurd h
    one_item u t v xs after rest i e ends vs (Err Stopped.TooLong) rs m h f k = (subst (λ z. z < most) m h.0, k (ap (λ z. z ++ after) h.1 ∙ e))
    one_item u t v xs after rest i e ends vs (Err (Stopped.Fault why)) rs m h f k = k (ap (λ z. z ++ after) h ∙ e)
    one_item u t v xs after rest i e ends vs (Err Stopped.OutOfMemory) rs m h f k = k (ap (λ z. z ++ after) h ∙ e)

    no_item : (u t : Stream R A) (none : held_of u.held ≡ []) (r : ItemResult O) (rs : List (ItemResult O)) → u.settings.most ≡ limit →
        TellsEnd u t first form item none r → (held_of t.held ≡ [] → TellingWithin limit [] rs) → TellingWithin limit [] (r ∷ rs)
    no_item u t none (Ok (Some p)) rs m h k = absurd h
    no_item u t none (Ok None) rs m h k = k h
    no_item u t none (Err (Stopped.Refused why at)) rs m h k = absurd h
    no_item u t none (Err (Stopped.Failed why at)) rs m h k = absurd h
    no_item u t none (Err Stopped.Nothing) rs m h k = absurd h
    no_item u t none (Err (Stopped.Incomplete n)) rs m h k = absurd h
    no_item u t none (Err Stopped.TooLong) rs m h k = (subst (λ z. z < most) m h.0, k h.1)
    no_item u t none (Err (Stopped.Fault why)) rs m h k = k h
    no_item u t none (Err Stopped.OutOfMemory) rs m h k = k h

    -- what the reader has left stays so, where nothing is read
    still_left : (u t : Stream R A) (after xs : List ℕ) → t.source ≡ u.source → left u.source.inner ≡ Some after →
        (t.ended ≡ true → after ≡ []) → held_of t.held ++ after ≡ xs → HasLeft left t xs
    still_left u t after xs same there ends e = (after, ap (λ z. left z.inner) same ∙ there, sym e, ends)

    tells : (vs : List O) (xs : List ℕ) (rs : List (ItemResult O)) (s t : Stream R A) → EachForm IsIt vs xs → HasLeft left s xs → Calls left g rs s t →
        s.settings.most ≡ limit → TellingWithin limit vs rs
    tells [] xs [] s t h has c m = tt
    tells (v ∷ vs) xs [] s t h has c m = tt
    tells [] xs (r ∷ rs) s t h has c m =
        let mid = c.0 in
        let d = c.1 in
        let u = d.filled in
        let then = left_read left s u d.reads.given xs d.reads.gives d.at_end has in
        let none : held_of u.held ≡ [] = nil (held_of u.held) (omega (arith, ap length then.2, ap length h, length-append (held_of u.held) then.0)) in
        let over : then.0 ≡ [] = nil then.0 (omega (arith, ap length then.2, ap length h, length-append (held_of u.held) then.0)) in
        no_item u mid none r rs (ap (λ z. z.most) d.settings.0 ∙ m) (ending_tells u mid first form item none r d.answers)
        (λ e. tells [] [] rs mid t refl (still_left u mid then.0 [] d.source then.1 (λ f. then.3 (sym d.ended ∙ f)) (ap (λ z. z ++ then.0) e ∙ over)) c.2
        (ap (λ z. z.most) d.settings.1 ∙ m))
    tells (v ∷ vs) xs (r ∷ rs) s t h has c m =
        let mid = c.0 in
        let d = c.1 in
        let u = d.filled in
        let then = left_read left s u d.reads.given xs d.reads.gives d.at_end has in
        let e : held_of u.held ++ then.0 ≡ h.front ++ h.back = sym then.2 ∙ h.whole in
        let ends : u.ended ≡ true → then.0 ≡ [] = then.3 in
        let ends_there : mid.ended ≡ true → then.0 ≡ [] = λ f. then.3 (sym d.ended ∙ f) in
        let limit_there = ap (λ z. z.most) d.settings.1 ∙ m in
        one_item u mid v h.front then.0 h.back h.first e ends vs r rs (ap (λ z. z.most) d.settings.0 ∙ m)
        (answer_tells u mid v h.front h.first then.0 h.back e ends r d.answers)
        (λ z. tells vs h.back rs mid t h.second (still_left u mid then.0 h.back d.source then.1 ends_there z) c.2 limit_there)
        (λ z. tells (v ∷ vs) xs rs mid t h (still_left u mid then.0 xs d.source then.1 ends_there (z ∙ sym h.whole)) c.2 limit_there)

-- what was appended to known bytes
appended : (a b : Option (List ℕ)) (before taken written : List ℕ) → a ≡ Some before → b ≡ Some (before ++ taken) → Appends a b written →
    taken ≡ written
appended None b before taken written e f h = absurd (cc (e))
appended (Some a) None before taken written e f h = absurd (cc (f))
appended (Some a) (Some b) before taken written e f h =
    let same : a ≡ before = cc (e) in
    let there : b ≡ before ++ taken = cc (f) in
    rests before before taken written refl (sym there ∙ (h ∙ ap (λ z. z ++ written) same))

module _ {V O : Type 0} (view : View O) (Pins : Type 0) (g : Grammar Bytes V O (Error Bytes)) (lawful : IsLawful bytes_model g.meaning)
    (steady : IsSteady bytes_model g.meaning) (pinned : Pins → IsPinned view g.IsOutput) (never : NeverTooLarge g.meaning) (outcomes : HasOutcomes g)
    (Form : O → List ℕ → Type 0) (Follow : List ℕ → Type 0) (all : (rest : List ℕ) → Follow rest) (reads : Reads bytes_model g Form Follow) where
  pub items_of_forms : (A : Type 0) {R : Type 0} (left : R → Option (List ℕ)) → ItemsOfForms A left view Pins g Form
  items_of_forms A left most first form item vs xs h s t rs has c =
      tells view Pins g lawful steady pinned never outcomes Form Follow all reads most left first form item s.settings.most vs xs rs s t h has c refl

  pub items_of_pipe : (A B : Type 0) {R W : Type 0} (left : R → Option (List ℕ)) (contents : W → Option (List ℕ)) →
      ItemsOfPipe A B left contents view Pins g Form
  items_of_pipe A B left contents a b v vs xs before taken h none sends sent old new s t rs has c =
      let took : taken ≡ sends.0 = appended (contents a.target.inner) (contents b.target.inner) before taken sends.0 old new sends.2 in
      let is : xs ≡ sends.0 = ap (λ z. z ++ xs) (sym none) ∙ (sends.1 ∙ (ap (λ z. sends.0 ++ z) sent ∙ append-nil sends.0)) in
      items_of_forms A left a.most v h.front h.first (v ∷ vs) xs h s t rs (subst (HasLeft left s) (took ∙ sym is) has) c
