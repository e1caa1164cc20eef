-- Laws of reading back lists: of just as many items as there are values, or of items up to what no item begins.
use Rattle.std.specs.Prelude.{◌≡◌, ℕ, ◌+◌, ◌<◌, Bool, true, false, List, [], ◌∷◌, ◌++◌, length, Option, Some, None, zero, suc, refl}
use Rattle.std.specs.List.{AllZip}
use Rattle.std.proofs.Common.{sym, ◌∙◌, ap, subst, append_assoc, arith}
use Rattle.std.proofs.lemmas.Bool.{le-ltb}
use Rattle.nom_error.specs.declared.kind.ErrorKind.{ErrorKind}
use Rattle.nom_internal.specs.Prelude.{Errors, Model, InputLaws, items_len, items_len-append, IsSuffixOf, Outcome, Accept, Grammar, after}
use Rattle.nom_error.specs.declared.kind.ErrorKind.TheVariants as Kind
use Rattle.nom_multi.specs.Bounded.{count_of}
use Rattle.nom_multi.specs.Many.{many0_of}
use Rattle.nom_repeat.specs.Repeat.{Turn, Pieces, Replies, TurnsBy}
use Rattle.nom_repeat.specs.Repeat.Turn.{Takes, Ends}
use Rattle.nom_repeat.specs.declared.items.Limits.{Limits}
use Rattle.nom_repeat.specs.Items.{item_turn, items_meaning, refused_turn}
use Rattle.nom_repeat.specs.Bounds.{any_limits, exact_limits}
use Rattle.nom_sink.specs.Lists.{EachForm, ItemForm}
use Rattle.nom_write.specs.Reads.{Anything, NoItem, NoItemIn, Reads, ReadsAtEnd, ReadsBefore}
use Rattle.nom_write.specs.laws.SequenceReads.{before_others, rest_follows}

-- Items of a grammar within limits. Of as many values as `total` says each form is an item that is taken, and after them the items end,
-- where what follows is of a kind.
module _ {I A V O E : Type 0} (w : Model I A) (l : InputLaws w) (g : Grammar I V O E) (limits : Limits) (Form : O → List A → Type 0) (Follow : List A → Type 0)
    (After : List A → Type 0) (total : ℕ)
    (meets : (vs : List O) (xs rest : List A) → length vs < total → EachForm Form vs xs → After rest → Follow (xs ++ rest))
    (reads : Reads w g Form Follow)
    (s : Bool)
    (runs : (k : ℕ) (i : I) → k < total → Replies limits.most (λ k. g.meaning.answers s) k i None → ⊥)
    (takes : (k : ℕ) (v : O) (xs : List A) (t : V) → Form v xs → item_turn limits k (Some (Accept (items_len w.item_len xs) t)) ≡ Takes
    (items_len w.item_len xs) t)
    (ends : (i : I) (rest : List A) (turn : Turn V (Unit {0})) → w.IsKnown i → w.elements i ≡ rest → After rest →
    TurnsBy limits.most (item_turn limits) (λ k. g.meaning.answers s) total i turn → turn ≡ Ends (Accept 0 tt)) where
  abbrev Turns : ℕ → I → Turn V (Unit {0}) → Type 0
  Turns = TurnsBy limits.most (item_turn limits) (λ k. g.meaning.answers s)

  item_taken : (v : O) (front rest : List A) (k : ℕ) (i : I) (turn : Turn V (Unit {0})) → w.IsKnown i → w.elements i ≡ front ++ rest → Follow rest →
      Form v front → k < total → Turns k i turn → (t : V) × (turn ≡ Takes (items_len w.item_len front) t) × g.IsOutput t v
  item_taken v front rest k i turn known e next p below r = of_reply r.reply r.replied r.fact
    where
      of_reply : (a : Option (Outcome V)) → Replies limits.most (λ k. g.meaning.answers s) k i a → turn ≡ item_turn limits k a →
          (t : V) × (turn ≡ Takes (items_len w.item_len front) t) × g.IsOutput t v
      of_reply None h f = absurd (runs k i below h)
      of_reply (Some o) h f =
          let q = (reads.reads v front p s).read i rest o known e next h.1 in
          (q.0, f ∙ (ap (λ z. item_turn limits k (Some z)) q.1 ∙ takes k v front q.0 p), q.2)

  items_read : (vs : List O) (xs rest : List A) (k : ℕ) (i : I) (ts : List V) (taken : ℕ) (ending : Outcome (Unit {0})) → w.IsKnown i →
      w.elements i ≡ xs ++ rest → EachForm Form vs xs → After rest → k + length vs ≡ total → Pieces w Turns (λ k j. Turns k j (Ends ending)) k i ts taken →
      (taken ≡ items_len w.item_len xs) × AllZip g.IsOutput ts vs × (ending ≡ Accept 0 tt)
  items_read [] xs rest k i [] taken ending known e h after c p =
      let here : k ≡ total = omega (arith, c) in
      let end : ◌≡◌ {A = Turn V (Unit {0})} (Ends ending) (Ends (Accept 0 tt)) =
      ends i rest (Ends ending) known (e ∙ ap (λ zs. zs ++ rest) h) after (subst (λ k. Turns k i (Ends ending)) here p.1) in
      (p.0 ∙ sym (ap (λ zs. items_len w.item_len zs) h), tt, cc (end))
  items_read [] xs rest k i (t ∷ ts) taken ending known e h after c p =
      let here : k ≡ total = omega (arith, c) in
      let end : ◌≡◌ {A = Turn V (Unit {0})} (Takes p.0 t) (Ends (Accept 0 tt)) =
      ends i rest (Takes p.0 t) known (e ∙ ap (λ zs. zs ++ rest) h) after (subst (λ k. Turns k i (Takes p.0 t)) here p.3) in
      absurd (cc (end))
  items_read (v ∷ vs) xs rest k i [] taken ending known e h after c p =
      let first = e ∙ (ap (λ zs. zs ++ rest) h.whole ∙ append_assoc h.front h.back rest) in
      let q = item_taken v h.front (h.back ++ rest) k i (Ends ending) known first
      (meets vs h.back rest (omega (arith, c)) h.second after) h.first (omega (arith, c)) p.1 in
      absurd (cc (q.1))
  items_read (v ∷ vs) xs rest k i (t ∷ ts) taken ending known e h after c p =
      let first = e ∙ (ap (λ zs. zs ++ rest) h.whole ∙ append_assoc h.front h.back rest) in
      let q = item_taken v h.front (h.back ++ rest) k i (Takes p.0 t) known first
      (meets vs h.back rest (omega (arith, c)) h.second after) h.first (omega (arith, c)) p.3 in
      let turn : ◌≡◌ {A = Turn V (Unit {0})} (Takes p.0 t) (Takes (items_len w.item_len h.front) q.0) = q.1 in
      let size : p.0 ≡ items_len w.item_len h.front = cc (turn) in
      let tree : t ≡ q.0 = cc (turn) in
      let j = p.2 in
      let j_is : IsSuffixOf w i (items_len w.item_len h.front) j = subst (λ z. IsSuffixOf w i z j) size p.4 in
      let r = items_read vs h.back rest (k + 1) j ts p.1 ending j_is.known (rest_follows w l i j h.front (h.back ++ rest) first j_is) h.second after
      (omega (arith, c)) p.5 in (
        omega (arith, p.6, size, r.0, ap (λ zs. items_len w.item_len zs) h.whole, items_len-append w.item_len h.front h.back),
        (subst (λ z. g.IsOutput z v) (sym tree) q.2, r.1),
        r.2,
      )

  pub list_read : (errs : Errors I E) (vs : List O) (xs : List A) → length vs ≡ total → EachForm Form vs xs →
      ReadsBefore w ((items_meaning w errs limits (Unit {0}) g.meaning).answers s) (λ ts. AllZip g.IsOutput ts vs) After xs
  list_read errs vs xs count h = record {
    read = λ i rest o known e f a.
        let r = items_read vs xs rest 0 i a.trees a.taken a.ending known e h f (omega (arith, count)) a.pieces in
        let made : o ≡ Accept (a.taken + 0) a.trees = a.outcome_is ∙ ap (λ z. after a.taken (λ _. a.trees) z) r.2 in
        let size : a.taken + 0 ≡ items_len w.item_len xs = omega (arith, r.0) in
        (a.trees, made ∙ ap (λ z. Accept z a.trees) size, r.1);
  }

-- an item that is accepted is taken: an empty one too, where their number is given
exactly_taken : {V : Type 0} (n k a : ℕ) (t : V) → item_turn (exact_limits n) k (Some (Accept a t)) ≡ Takes a t
exactly_taken n k zero t = refl
exactly_taken n k (suc a) t = refl

pub some_taken : {V : Type 0} (kind : ErrorKind) (k a : ℕ) (t : V) → 0 < a → item_turn (any_limits kind) k (Some (Accept a t)) ≡ Takes a t
some_taken kind k zero t h = absurd (omega (arith, h))
some_taken kind k (suc a) t h = refl

-- items that are there have a length
pub some_len : {I A : Type 0} (w : Model I A) → InputLaws w → (xs : List A) → 0 < length xs → 0 < items_len w.item_len xs
some_len w l [] h = absurd (omega (arith, h))
some_len w l (x ∷ xs) h = omega (arith, l.positive x)

-- forms of items that are of a kind
pub item_reads : {I A V O E : Type 0} (w : Model I A) (g : Grammar I V O E) (some : Bool) (Form : O → List A → Type 0) (Follow : List A → Type 0) →
    Reads w g Form Follow →
    Reads w g (ItemForm some Form) Follow
item_reads w g some Form Follow p = record { reads = λ v xs f. p.reads v xs f.0 }

module _ {I A V O E : Type 0} (w : Model I A) (l : InputLaws w) (errs : Errors I E) (g : Grammar I V O E) (Form : O → List A → Type 0)
    (Follow : List A → Type 0) (all : (rest : List A) → Follow rest) (p : Reads w g Form Follow) (s : Bool) where
  -- just as many items as there are values
  pub exact_reads : (vs : List O) (xs : List A) → EachForm (ItemForm false Form) vs xs →
      ReadsBefore w ((items_meaning w errs (exact_limits (length vs)) (Unit {0}) g.meaning).answers s) (λ ts. AllZip g.IsOutput ts vs) Anything xs
  exact_reads vs xs h = list_read w l g (exact_limits (length vs)) (ItemForm false Form) Follow Anything (length vs) (λ us xs rest b h k. all (xs ++ rest))
      (item_reads w g false Form Follow p) s
      (λ k i below none. none below) (λ k v xs t f. exactly_taken (length vs) k (items_len w.item_len xs) t) ends errs vs xs refl h
    where
      ends : (i : I) (rest : List A) (turn : Turn V (Unit {0})) → w.IsKnown i → w.elements i ≡ rest → Anything rest →
          TurnsBy (Some (length vs)) (item_turn (exact_limits (length vs))) (λ k. g.meaning.answers s) (length vs) i turn → turn ≡ Ends (Accept 0 tt)
      ends i rest turn known e f r = of_reply r.reply r.replied r.fact
        where
          of_reply : (a : Option (Outcome V)) → Replies (Some (length vs)) (λ k. g.meaning.answers s) (length vs) i a →
              turn ≡ item_turn (exact_limits (length vs)) (length vs) a → turn ≡ Ends (Accept 0 tt)
          of_reply None h f = f
          of_reply (Some o) h f = absurd (omega (arith, h.0))

  -- any number of items that aren't empty, before what begins with none
  any_items_reads : (kind : ErrorKind) (vs : List O) (xs : List A) → EachForm (ItemForm true Form) vs xs →
      ReadsBefore w ((items_meaning w errs (any_limits kind) (Unit {0}) g.meaning).answers s) (λ ts. AllZip g.IsOutput ts vs) (NoItemIn w g.meaning s) xs
  any_items_reads kind vs xs h = list_read w l g (any_limits kind) (ItemForm true Form) Follow (NoItemIn w g.meaning s) (length vs)
      (λ us xs rest b h k. all (xs ++ rest)) (item_reads w g true Form Follow p) s
      (λ k i below none. none tt) (λ k v xs t f. some_taken kind k (items_len w.item_len xs) t (some_len w l xs (f.1 refl))) ends errs vs xs refl h
    where
      ends : (i : I) (rest : List A) (turn : Turn V (Unit {0})) → w.IsKnown i → w.elements i ≡ rest → NoItemIn w g.meaning s rest →
          TurnsBy None (item_turn (any_limits kind)) (λ k. g.meaning.answers s) (length vs) i turn → turn ≡ Ends (Accept 0 tt)
      ends i rest turn known e none r = of_reply r.reply r.replied r.fact
        where
          of_reply : (a : Option (Outcome V)) → Replies None (λ k. g.meaning.answers s) (length vs) i a → turn ≡ item_turn (any_limits kind) (length vs) a →
              turn ≡ Ends (Accept 0 tt)
          of_reply None h f = absurd (h tt)
          of_reply (Some o) h f = f ∙ (ap (λ z. item_turn (any_limits kind) (length vs) (Some z)) (none i o known e h.1) ∙
              ap (λ b. refused_turn {V = V} b) (le-ltb (length vs) 0 (omega arith)))

module _ {I A V O E : Type 0} {w : Model I A} (l : InputLaws w) (errs : Errors I E) {g : Grammar I V O E} {Form : O → List A → Type 0}
    {Follow : List A → Type 0} (all : (rest : List A) → Follow rest) (p : Reads w g Form Follow) where
  -- just that many items
  pub count_reads : {M : Type 0} (count : ℕ) → Reads w (count_of {M = M} w errs count g)
      (λ v xs. (length v.items ≡ count) × EachForm (ItemForm false Form) v.items xs) Anything
  count_reads count = record {
    reads = λ v xs h s. subst (λ n. ReadsBefore w ((items_meaning w errs (exact_limits n) (Unit {0}) g.meaning).answers s)
        (λ ts. AllZip g.IsOutput ts v.items) Anything xs) h.0 (exact_reads w l errs g Form Follow all p s v.items xs h.1);
  }

  -- any number of items
  pub many0_reads : {M : Type 0} → Reads w (many0_of {M = M} w errs g) (λ v. EachForm (ItemForm true Form) v.items) (NoItem w g.meaning)
  many0_reads = record {
    reads = λ v xs h s. before_others (λ rest k. k s) (any_items_reads w l errs g Form Follow all p s Kind.Many0 v.items xs h);
  }

  -- and at the end of a complete input
  pub many0_ends : {M : Type 0} → NoItemIn w g.meaning false [] → ReadsAtEnd w (many0_of {M = M} w errs g) (λ v. EachForm (ItemForm true Form) v.items)
  many0_ends none = record {
    reads = λ v xs h. before_others (λ rest k. subst (NoItemIn w g.meaning false) (sym k) none)
        (any_items_reads w l errs g Form Follow all p false Kind.Many0 v.items xs h);
  }
