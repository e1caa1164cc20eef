-- Laws of reading back items up to an end.
use Rattle.std.specs.Prelude.{◌≡◌, ℕ, ◌+◌, ◌<◌, ◌⊎◌, Bool, true, List, [], ◌∷◌, ◌++◌, Option, Some, None, zero, suc, refl}
use Rattle.std.specs.List.{AllZip}
use Rattle.std.proofs.Common.{arith, sym, ◌∙◌, ap, subst, append_assoc, inl, inr}
use Rattle.nom_internal.specs.Prelude.{Errors, Grammar, GoesOnRefused, InputLaws, IsSuffixOf, Model, OnPart, Outcome, Accept, after, items_len}
use Rattle.nom_internal.specs.Prelude.{items_len-append, labelled}
use Rattle.nom_multi.specs.Till.{end_or_item, many_till_of, step_turn, till_turn, with_end}
use Rattle.nom_repeat.specs.Repeat.{Turn, Pieces, Replies, TurnsBy}
use Rattle.nom_repeat.specs.Repeat.Turn.{Takes, Ends}
use Rattle.nom_sink.specs.Lists.{EachForm, ItemForm}
use Rattle.nom_sink.specs.Parts.{Both}
use Rattle.nom_write.specs.Choices.{RefusesForms}
use Rattle.nom_write.specs.FirstSets.{AreDisjoint, HasFirst, CodeWords}
use Rattle.nom_write.specs.Reads.{IsTaken, Reads}
use Rattle.nom_write.specs.laws.ChoiceReads.{become_reads, become_refused}
use Rattle.nom_write.specs.laws.FirstSetLaws.{differ_apart}
use Rattle.nom_write.specs.laws.ListReads.{some_len}
use Rattle.nom_write.specs.laws.SequenceReads.{rest_follows}

-- the end refuses what begins with an item: of the end no form matters
pub end_apart : {I A T V P O E : Type 0} {w : Model I A} {end : Grammar I T P E} {g : Grammar I V O E} {EndForm : P → List A → Type 0}
    {Form : O → List A → Type 0} {code : A → ℕ} {words other : Option CodeWords} →
    HasFirst w code end EndForm words → HasFirst w code g Form other → AreDisjoint w end words Form other →
    RefusesForms w end Form
end_apart {T = T} {O = O} {end = end} p q d = differ_apart {g = record { meaning = end.meaning; IsOutput = λ (t : T) (v : O). ⊥ }} {First = λ v xs. ⊥}
    (record { begins = λ bs e v xs f. absurd f; others = p.others }) q d

-- an item that isn't empty is taken
step_taken : {T V : Type 0} (n : ℕ) (v : V) → 0 < n → ◌≡◌ {A = Turn V T} (step_turn (inr v) n) (Takes n v)
step_taken zero v h = absurd (omega (arith, h))
step_taken (suc n) v h = refl

module _ {I A V O T P E : Type 0} {w : Model I A} (l : InputLaws w) (errs : Errors I E) {g : Grammar I V O E} {end : Grammar I T P E}
    {Form : O → List A → Type 0} {EndForm : P → List A → Type 0} {Follow After : List A → Type 0} (all : (rest : List A) → Follow rest)
    (apart : RefusesForms w end Form) (p : Reads w g Form Follow) (q : Reads w end EndForm After) where
  module _ (s : Bool) where
    abbrev Step : I → Outcome (T ⊎ V) → Type 0
    Step = (end_or_item end.meaning g.meaning).answers s

    abbrev Next : I → Outcome (T ⊎ V) → Type 0
    Next i o = OnPart (λ (x y : I). x ≡ y) (g.meaning.answers s) (λ _ a. o ≡ labelled inr a) i

    -- an item isn't taken for the end
    item_step : (v : O) (front rest : List A) (i : I) (o : Outcome (T ⊎ V)) → w.IsKnown i → w.elements i ≡ front ++ rest → Form v front → Step i o →
        (t : V) × (o ≡ Accept (items_len w.item_len front) (inr t)) × g.IsOutput t v
    item_step v front rest i o known e f a =
        let none = become_refused w (labelled inl) (end.meaning.answers s) (front ++ rest) i a.first known e
        (λ i o known e a. apart.refuses front rest (v, f) s i o known e a) a.answered in
        let r = become_reads w (labelled inr) inr (λ n u. refl) (g.meaning.answers s) (λ t. g.IsOutput t v)
        (λ u. (t : V) × (◌≡◌ {A = T ⊎ V} u (inr t)) × g.IsOutput t v) Follow Follow front (λ rest k. k) (λ t k. (t, refl, k)) (p.reads v front f s) in
        let k = r.read i rest o known e (all rest) (subst (λ z. GoesOnRefused (Next i) z o) none a.goes_on) in
        (k.2.0, k.1 ∙ ap (λ u. Accept (items_len w.item_len front) u) k.2.1, k.2.2)

    end_step : (v : P) (xs rest : List A) (i : I) (o : Outcome (T ⊎ V)) → w.IsKnown i → w.elements i ≡ xs ++ rest → EndForm v xs → After rest → Step i o →
        (t : T) × (o ≡ Accept (items_len w.item_len xs) (inl t)) × end.IsOutput t v
    end_step v xs rest i o known e f k a =
        let r = become_reads w (labelled inl) inl (λ n u. refl) (end.meaning.answers s) (λ t. end.IsOutput t v)
        (λ u. (t : T) × (◌≡◌ {A = T ⊎ V} u (inl t)) × end.IsOutput t v) After After xs (λ rest k. k) (λ t k. (t, refl, k)) (q.reads v xs f s) in
        let first = r.read i rest a.first known e k a.answered in
        let g : GoesOnRefused (Next i) (Accept (items_len w.item_len xs) first.0) o = subst (λ z. GoesOnRefused (Next i) z o) first.1 a.goes_on in
        (first.2.0, g ∙ ap (λ u. Accept (items_len w.item_len xs) u) first.2.1, first.2.2)

    abbrev Turns : ℕ → I → Turn V T → Type 0
    Turns = TurnsBy None (λ _ a. till_turn a) (λ k. Step)

    turn_of : (k : ℕ) (i : I) (turn : Turn V T) → Turns k i turn → (o : Outcome (T ⊎ V)) × Step i o × (turn ≡ till_turn (Some o))
    turn_of k i turn r = of_reply r.reply r.replied r.fact
      where
        of_reply : (a : Option (Outcome (T ⊎ V))) → Replies None (λ k. Step) k i a → turn ≡ till_turn a →
            (o : Outcome (T ⊎ V)) × Step i o × (turn ≡ till_turn (Some o))
        of_reply None h f = absurd (h tt)
        of_reply (Some o) h f = (o, h.1, f)

    end_turn : (v : P) (xs rest : List A) (k : ℕ) (i : I) (turn : Turn V T) → w.IsKnown i → w.elements i ≡ xs ++ rest → EndForm v xs → After rest →
        Turns k i turn → (t : T) × (turn ≡ Ends (Accept (items_len w.item_len xs) t)) × end.IsOutput t v
    end_turn v xs rest k i turn known e f next r =
        let a = turn_of k i turn r in
        let h = end_step v xs rest i a.0 known e f next a.1 in
        (h.0, a.2 ∙ ap (λ z. till_turn (Some z)) h.1, h.2)

    item_turn_is : (v : O) (front rest : List A) (k : ℕ) (i : I) (turn : Turn V T) → w.IsKnown i → w.elements i ≡ front ++ rest →
        ItemForm true Form v front → Turns k i turn → (t : V) × (turn ≡ Takes (items_len w.item_len front) t) × g.IsOutput t v
    item_turn_is v front rest k i turn known e f r =
        let a = turn_of k i turn r in
        let h = item_step v front rest i a.0 known e f.0 a.1 in
        (h.0, a.2 ∙ (ap (λ z. till_turn (Some z)) h.1 ∙ step_taken (items_len w.item_len front) h.0 (some_len w l front (f.1 refl))), h.2)

    pieces_read : (vs : List O) (v : P) (ys zs rest : List A) (k : ℕ) (i : I) (ts : List V) (taken : ℕ) (ending : Outcome T) → w.IsKnown i →
        w.elements i ≡ ys ++ (zs ++ rest) → EachForm (ItemForm true Form) vs ys → EndForm v zs → After rest →
        Pieces w Turns (λ k j. Turns k j (Ends ending)) k i ts taken →
        (taken ≡ items_len w.item_len ys) × AllZip g.IsOutput ts vs × IsTaken w (λ t. end.IsOutput t v) (items_len w.item_len zs) ending
    pieces_read [] v ys zs rest k i [] taken ending known e h f next a =
        let r = end_turn v zs rest k i (Ends ending) known (e ∙ ap (λ z. z ++ (zs ++ rest)) h) f next a.1 in
        (a.0 ∙ sym (ap (λ z. items_len w.item_len z) h), tt, (r.0, cc (r.1), r.2))
    pieces_read [] v ys zs rest k i (t ∷ ts) taken ending known e h f next a =
        let r = end_turn v zs rest k i (Takes a.0 t) known (e ∙ ap (λ z. z ++ (zs ++ rest)) h) f next a.3 in
        absurd (cc (r.1))
    pieces_read (u ∷ us) v ys zs rest k i [] taken ending known e h f next a =
        let r = item_turn_is u h.front (h.back ++ (zs ++ rest)) k i (Ends ending) known
        (e ∙ (ap (λ z. z ++ (zs ++ rest)) h.whole ∙ append_assoc h.front h.back (zs ++ rest))) h.first a.1 in
        absurd (cc (r.1))
    pieces_read (u ∷ us) v ys zs rest k i (t ∷ ts) taken ending known e h f next a =
        let first = e ∙ (ap (λ z. z ++ (zs ++ rest)) h.whole ∙ append_assoc h.front h.back (zs ++ rest)) in
        let r = item_turn_is u h.front (h.back ++ (zs ++ rest)) k i (Takes a.0 t) known first h.first a.3 in
        let turn : ◌≡◌ {A = Turn V T} (Takes a.0 t) (Takes (items_len w.item_len h.front) r.0) = r.1 in
        let size : a.0 ≡ items_len w.item_len h.front = cc (turn) in
        let tree : t ≡ r.0 = cc (turn) in
        let j_is : IsSuffixOf w i (items_len w.item_len h.front) a.2 = subst (λ z. IsSuffixOf w i z a.2) size a.4 in
        let m = pieces_read us v h.back zs rest (k + 1) a.2 ts a.1 ending j_is.known (rest_follows w l i a.2 h.front (h.back ++ (zs ++ rest)) first j_is)
        h.second f next a.5 in (
          omega (arith, a.6, size, m.0, ap (λ z. items_len w.item_len z) h.whole, items_len-append w.item_len h.front h.back),
          (subst (λ z. g.IsOutput z u) (sym tree) r.2, m.1),
          m.2,
        )

  pub many_till_reads : {M : Type 0} → Reads w (many_till_of {M = M} w errs g end) (λ v. Both (EachForm (ItemForm true Form) v.0.items) (EndForm v.1)) After
  many_till_reads = record {
    reads = λ v xs f s. record {
      read = λ i rest o known e next a.
          let whole = e ∙ (ap (λ z. z ++ rest) f.whole ∙ append_assoc f.front f.back rest) in
          let r = pieces_read s v.0.items v.1 f.front f.back rest 0 i a.trees a.taken a.ending known whole f.first f.second next a.pieces in
          let n = items_len w.item_len f.back in
          let t = with_end a.trees r.2.0 in
          let made : o ≡ Accept (a.taken + n) t = a.outcome_is ∙ ap (λ z. after a.taken (with_end a.trees) z) r.2.1 in
          let size : a.taken + n ≡ items_len w.item_len xs =
          omega (arith, r.0, ap (λ z. items_len w.item_len z) f.whole, items_len-append w.item_len f.front f.back) in
          (t, made ∙ ap (λ z. Accept z t) size, (r.1, r.2.2));
    };
  }
