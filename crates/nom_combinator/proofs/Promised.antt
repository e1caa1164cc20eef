-- Lemmas on answers that give the input which a part consumes.
use Rattle.std.proofs.Common.{◌≡◌, ℕ, ◌++◌, Bool, Ok, refl, sym, ◌∙◌, ap, subst}
use Rattle.nom_internal.specs.Prelude.{Model, InputLaws, IsSuffixOf, same_cut, Slice, IsModelledBy, IsFirst, Outcome, Accept, Refuse, Stop, ParsesOutcome}
use Rattle.nom_internal.specs.Prelude.{ParseRanOut}
use Rattle.nom_internal.specs.Prelude.{Parsed, Meaning, ParsesMeaning, Passes, IsSliced, recognized_meaning, Fails, Needs}
use Rattle.nom_combinator.specs.Verdicts.{WithSlice, consumed_meaning}
use Rattle.nom_combinator.specs.Promises.{AreParts, GivesFront, GivesFrontAndOutput}

module _ {I A : Type 0} (w : Model I A) (l : InputLaws w) (i : I) where
  are_parts : (j o : I) (n : ℕ) (t : Slice w) → IsFirst w i n t → IsSuffixOf w i n j → IsModelledBy w t o → AreParts w i o j
  are_parts j o n t f r s =
      let c = same_cut w.item_len l.positive t.items f.rest r.front (w.elements j) (sym f.whole ∙ r.whole) (f.length_is ∙ sym r.length_is) in
      let e : w.elements o ≡ r.front = s.elements_are ∙ c.0 in
      record {
        items = r.whole ∙ ap (λ xs. xs ++ w.elements j) (sym e);
        front_mark = s.mark_is ∙ f.mark_is;
        rest_mark = r.mark_is ∙ ap (λ xs. w.mark_after (w.mark i) xs) (sym e);
      }

  sliced_first : {V : Type 0} (a : Outcome V) (n : ℕ) (t : Slice w) → Passes (λ k u o. IsSliced w i k o) a (Accept n t) → IsFirst w i n t
  sliced_first (Accept k u) n t f =
      let same : ◌≡◌ {A = ℕ × Slice w} (k, f.0) (n, t) = cc (f.2) in
      subst (λ p. IsFirst w i p.0 p.1) same f.1
  sliced_first Refuse n t f = absurd (cc (f))
  sliced_first (Stop why) n t f = absurd (cc (f))

  consumed_first : {V : Type 0} (a : Outcome V) (n : ℕ) (t : Slice w) (v : V) → Passes (WithSlice w i) a (Accept n (t, v)) → IsFirst w i n t × (a ≡ Accept n v)
  consumed_first (Accept k u) n t v f =
      let same : ◌≡◌ {A = ℕ × (Slice w × _)} (k, (f.0, u)) (n, (t, v)) = cc (f.2) in
      (subst (λ p. IsFirst w i p.0 p.1.0) same f.1, ap (λ p. Accept p.0 p.1.1) same)
  consumed_first Refuse n t v f = absurd (cc (f))
  consumed_first (Stop why) n t v f = absurd (cc (f))

-- an answer that is an acceptance shows one
module _ {I A T O E : Type 0} (w : Model I A) (IsOutput : T → O → Type 0) (i j : I) (IsError : E → Type 0) (o : O) where
  pub record IsAccepted (a : Outcome T) : Type 0 where
    pub length : ℕ
    pub tree : T
    pub accepts : a ≡ Accept length tree
    pub rest : IsSuffixOf w i length j
    pub output : IsOutput tree o

  accepted_by : (a : Outcome T) → ParsesOutcome w IsOutput i IsError a (Ok (j, o)) → IsAccepted a
  accepted_by (Accept n t) s =
      let same : ◌≡◌ {A = I × O} (s.0, s.1) (j, o) = cc (s.4) in
      record { length = n; tree = t; accepts = refl; rest = subst (λ p. IsSuffixOf w i n p.0) same s.2; output = subst (λ p. IsOutput t p.1) same s.3 }
  accepted_by Refuse s = cc (s.2)
  accepted_by (Stop (Fails cause)) s = cc (s.2)
  accepted_by (Stop (Needs k)) s = cc (s.2)

module _ {I A V E : Type 0} (w : Model I A) (l : InputLaws w) (m : Meaning I V E) where
  recognizes : (s : Bool) (i j o : I) → ParsesMeaning w (IsModelledBy w) (recognized_meaning w m) s i (Ok (j, o)) → AreParts w i o j
  recognizes s i j o (ParseRanOut e h) = absurd (cc)
  recognizes s i j o (Parsed a b p) =
      let k = accepted_by w (IsModelledBy w) i j _ o a p in
      let first = sliced_first w l i b.outcome k.length k.tree (subst (λ z. Passes (λ n u q. IsSliced w i n q) b.outcome z) k.accepts b.fact) in
      are_parts w l i j o k.length k.tree first k.rest k.output

  pub recognize_gives : GivesFront w (recognized_meaning w m)
  recognize_gives s i j o h p = recognizes s i j o p

module _ {I A V O E : Type 0} (w : Model I A) (l : InputLaws w) (IsOutput : V → O → Type 0) (m : Meaning I V E) where
  consumes : (s : Bool) (i j o : I) (v : O) →
      ParsesMeaning {O = I × O} w (λ t p. IsModelledBy w t.0 p.0 × IsOutput t.1 p.1) (consumed_meaning w m) s i (Ok (j, (o, v))) → AreParts w i o j ×
      ParsesMeaning w IsOutput m s i (Ok (j, v))
  consumes s i j o v (ParseRanOut e h) = absurd (cc)
  consumes s i j o v (Parsed a b p) =
      let k = accepted_by {O = I × O} w (λ t q. IsModelledBy w t.0 q.0 × IsOutput t.1 q.1) i j _ (o, v) a p in
      let first = consumed_first w l i b.outcome k.length k.tree.0 k.tree.1 (subst (λ z. Passes (WithSlice w i) b.outcome z) k.accepts b.fact) in
      let here = subst (λ z. m.answers s z b.outcome) (sym b.at_is) b.answered in
      let part = subst (λ z. m.answers s i z) first.1 here in
      (are_parts w l i j o k.length k.tree.0 first.0 k.rest k.output.0, Parsed (Accept k.length k.tree.1) part (j, v, k.rest, k.output.1, refl))

  pub consumed_gives : GivesFrontAndOutput w IsOutput m (consumed_meaning w m)
  consumed_gives s i j o v h p = consumes s i j o v p
