-- Laws of reading back lists whose first item is read by itself.
use Rattle.std.specs.Prelude.{◌≡◌, ℕ, ◌<◌, Bool, true, false, List, [], ◌∷◌, ◌++◌, length, Option, Some, None, zero, suc, refl}
use Rattle.std.specs.List.{AllZip}
use Rattle.std.proofs.Common.{arith, sym, ◌∙◌, ap, subst, append_assoc, append-nil}
use Rattle.std.proofs.lemmas.Bool.{le-ltb}
use Rattle.nom_internal.specs.Prelude.{Accept, Errors, Grammar, InputLaws, Meaning, Model, Outcome, items_len, sequence_meaning, Then}
use Rattle.nom_error.specs.declared.kind.ErrorKind.{ErrorKind}
use Rattle.nom_error.specs.declared.kind.ErrorKind.TheVariants as Kind
use Rattle.nom_multi.specs.Many.{many1_of}
use Rattle.nom_separated.specs.Separated.{follows, optional_meaning, separated_list0_of, separated_list1_of}
use Rattle.nom_repeat.specs.declared.items.Limits.{Limits}
use Rattle.nom_repeat.specs.declared.items.TooFew.{TooFew}
use Rattle.nom_repeat.specs.declared.items.TooFew.TheVariants.{Added, Never, Passed}
use Rattle.nom_repeat.specs.Repeat.{Replies, Turn, TurnsBy}
use Rattle.nom_repeat.specs.Repeat.Turn.{Ends, Takes}
use Rattle.nom_repeat.specs.Items.{item_turn, items_meaning, refused_turn}
use Rattle.nom_repeat.specs.Bounds.{any_limits}
use Rattle.nom_sequence.specs.Sequences.{preceded_of}
use Rattle.nom_sink.specs.Lists.{EachForm, ItemForm}
use Rattle.nom_write.specs.Reads.{NoItem, NoItemIn, Reads, ReadsAtEnd, ReadsBefore, ReadsSome}
use Rattle.nom_write.specs.Separated.{AfterSeparator, AnyForm, SomeForm}
use Rattle.nom_write.specs.laws.LeafReads.{success_reads}
use Rattle.nom_write.specs.laws.ListReads.{item_reads, list_read, some_len, some_taken}
use Rattle.nom_write.specs.laws.SequenceReads.{as_whole, before_others, preceded_reads, then_reads}

-- at most one item, which may be empty
abbrev single_limits : (least : ℕ) → TooFew → Bool → Limits
single_limits least few at_start = record { least = least; most = Some 1; too_few = few; at_start = at_start; empty = None }

single_taken : {V : Type 0} (least : ℕ) (few : TooFew) (at_start : Bool) (k a : ℕ) (t : V) →
    item_turn (single_limits least few at_start) k (Some (Accept a t)) ≡ Takes a t
single_taken least few at_start k zero t = refl
single_taken least few at_start k (suc a) t = refl

-- what ends an item, and begins with no further one
abbrev After : {I A V E : Type 0} → Model I A → Meaning I V E → (streaming : Bool) → (List A → Type 0) → List A → Type 0
After w m s Follow rest = Follow rest × NoItemIn w m s rest

-- two lists of outputs
zip_more : {V O : Type 0} (P : V → O → Type 0) (ts us : List V) (v : O) (vs : List O) → AllZip P ts (v ∷ []) → AllZip P us vs → AllZip P (ts ++ us) (v ∷ vs)
zip_more P [] us v vs a b = absurd a
zip_more P (t ∷ []) us v vs a b = (a.0, b)
zip_more P (t ∷ u ∷ ts) us v vs a b = absurd a.1

module _ {I A V O E : Type 0} (w : Model I A) (l : InputLaws w) (errs : Errors I E) (g : Grammar I V O E) (Form : O → List A → Type 0)
    (Follow : List A → Type 0) (p : Reads w g Form Follow) (s : Bool) where
  module _ (least : ℕ) (few : TooFew) (at_start : Bool) where
    -- a first item
    single_reads : (v : O) (xs : List A) → Form v xs →
        ReadsBefore w ((items_meaning w errs (single_limits least few at_start) (Unit {0}) g.meaning).answers s) (λ ts. AllZip g.IsOutput ts (v ∷ [])) Follow xs
    single_reads v xs f = list_read w l g (single_limits least few at_start) Form Follow Follow 1 meets p s (λ k i below none. none below)
        (λ k u ys t h. single_taken least few at_start k (items_len w.item_len ys) t) ends errs (v ∷ []) xs refl (record {
          front = xs;
          back = [];
          whole = sym (append-nil xs);
          first = f;
          second = refl;
        })
      where
        meets : (vs : List O) (xs rest : List A) → length vs < 1 → EachForm Form vs xs → Follow rest → Follow (xs ++ rest)
        meets [] xs rest b e h = subst (λ z. Follow (z ++ rest)) (sym e) h
        meets (u ∷ us) xs rest b e h = absurd (omega (arith, b))

        ends : (i : I) (rest : List A) (turn : Turn V (Unit {0})) → w.IsKnown i → w.elements i ≡ rest → Follow rest →
            TurnsBy (Some 1) (item_turn (single_limits least few at_start)) (λ k. g.meaning.answers s) 1 i turn → turn ≡ Ends (Accept 0 tt)
        ends i rest turn known e f r = of_reply r.reply r.replied r.fact
          where
            of_reply : (a : Option (Outcome V)) → Replies (Some 1) (λ k. g.meaning.answers s) 1 i a →
                turn ≡ item_turn (single_limits least few at_start) 1 a → turn ≡ Ends (Accept 0 tt)
            of_reply None h f = f
            of_reply (Some o) h f = absurd (omega (arith, h.0))

  -- no first item, before what begins with none
  none_reads : (few : TooFew) (at_start : Bool) →
      ReadsBefore w ((items_meaning w errs (single_limits 0 few at_start) (Unit {0}) g.meaning).answers s) (λ ts. AllZip g.IsOutput ts [])
      (NoItemIn w g.meaning s) []
  none_reads few at_start = list_read w l g (single_limits 0 few at_start) Form Follow (NoItemIn w g.meaning s) 0
      (λ vs xs rest b e h. absurd (omega (arith, b))) p s
      (λ k i below none. absurd (omega (arith, below))) (λ k u ys t h. single_taken 0 few at_start k (items_len w.item_len ys) t) ends errs [] [] refl refl
    where
      ends : (i : I) (rest : List A) (turn : Turn V (Unit {0})) → w.IsKnown i → w.elements i ≡ rest → NoItemIn w g.meaning s rest →
          TurnsBy (Some 1) (item_turn (single_limits 0 few at_start)) (λ k. g.meaning.answers s) 0 i turn → turn ≡ Ends (Accept 0 tt)
      ends i rest turn known e none r = of_reply r.reply r.replied r.fact
        where
          of_reply : (a : Option (Outcome V)) → Replies (Some 1) (λ k. g.meaning.answers s) 0 i a →
              turn ≡ item_turn (single_limits 0 few at_start) 0 a → turn ≡ Ends (Accept 0 tt)
          of_reply None h f = f
          of_reply (Some o) h f = f ∙ ap (λ z. item_turn (single_limits 0 few at_start) 0 (Some z)) (none i o known e h.1)

  -- any number of items that aren't empty, where one may follow another, before what begins with none
  more_reads : (kind : ErrorKind) → ((v : O) (xs rest : List A) → Form v xs → Follow (xs ++ rest)) → (vs : List O) (xs : List A) →
      EachForm (ItemForm true Form) vs xs → ReadsBefore w ((items_meaning w errs (any_limits kind) (Unit {0}) g.meaning).answers s)
      (λ ts. AllZip g.IsOutput ts vs) (After w g.meaning s Follow) xs
  more_reads kind one_after vs xs h = list_read w l g (any_limits kind) (ItemForm true Form) Follow (After w g.meaning s Follow) (length vs) meets
      (item_reads w g true Form Follow p) s
      (λ k i below none. none tt) (λ k v xs t f. some_taken kind k (items_len w.item_len xs) t (some_len w l xs (f.1 refl))) ends errs vs xs refl h
    where
      meets : (us : List O) (xs rest : List A) → length us < length vs → EachForm (ItemForm true Form) us xs → After w g.meaning s Follow rest →
          Follow (xs ++ rest)
      meets [] xs rest b e h = subst (λ z. Follow (z ++ rest)) (sym e) h.0
      meets (u ∷ us) xs rest b e h = subst Follow (sym (ap (λ z. z ++ rest) e.whole ∙ append_assoc e.front e.back rest))
          (one_after u e.front (e.back ++ rest) e.first.0)

      ends : (i : I) (rest : List A) (turn : Turn V (Unit {0})) → w.IsKnown i → w.elements i ≡ rest → After w g.meaning s Follow rest →
          TurnsBy None (item_turn (any_limits kind)) (λ k. g.meaning.answers s) (length vs) i turn → turn ≡ Ends (Accept 0 tt)
      ends i rest turn known e none r = of_reply r.reply r.replied r.fact
        where
          of_reply : (a : Option (Outcome V)) → Replies None (λ k. g.meaning.answers s) (length vs) i a → turn ≡ item_turn (any_limits kind) (length vs) a →
              turn ≡ Ends (Accept 0 tt)
          of_reply None h f = absurd (h tt)
          of_reply (Some o) h f = f ∙ (ap (λ z. item_turn (any_limits kind) (length vs) (Some z)) (none.1 i o known e h.1) ∙
              ap (λ b. refused_turn {V = V} b) (le-ltb (length vs) 0 (omega arith)))

-- A first item of a grammar, and then further ones of another meaning, with the same outputs.
module _ {I A V O E : Type 0} {w : Model I A} (l : InputLaws w) (errs : Errors I E) {g : Grammar I V O E} (m : Meaning I V E)
    {First Further : O → List A → Type 0} {Follow : List A → Type 0} (p : Reads w g First Follow)
    (q : Reads w (record { meaning = m; IsOutput = g.IsOutput }) Further Follow) (one_after : (v : O) (xs rest : List A) → Further v xs → Follow (xs ++ rest))
    (kind : ErrorKind) (s : Bool) where
  next : (vs : List O) (ys rest : List A) → EachForm (ItemForm true Further) vs ys → After w m s Follow rest → Follow (ys ++ rest)
  next [] ys rest e k = subst (λ z. Follow (z ++ rest)) (sym e) k.0
  next (v ∷ vs) ys rest e k = subst Follow (sym (ap (λ z. z ++ rest) e.whole ∙ append_assoc e.front e.back rest))
      (one_after v e.front (e.back ++ rest) e.first.0)

  -- by what follows a first item, whose tree is alone in its list
  first_then : (least : ℕ) (few : TooFew) (at_start : Bool) (N : List V → I → Outcome (List V) → Type 0) →
      ((t : V) (us : List O) (ys : List A) → EachForm (ItemForm true Further) us ys → ReadsBefore w (N (t ∷ [])) (λ ts. AllZip g.IsOutput ts us) (After w m s
      Follow) ys) →
      (v : O) (vs : List O) (xs : List A) → SomeForm First Further (v ∷ vs) xs →
      ReadsBefore w (Then w (λ ts us. ts ++ us) ((items_meaning w errs (single_limits least few at_start) (Unit {0}) g.meaning).answers s) N)
      (λ ts. AllZip g.IsOutput ts (v ∷ vs)) (After w m s Follow) xs
  first_then least few at_start N more v vs xs f = as_whole w f.whole (then_reads w l (λ ts us. ts ++ us)
      ((items_meaning w errs (single_limits least few at_start) (Unit {0}) g.meaning).answers s) N (λ ts. AllZip g.IsOutput ts (v ∷ []))
      (λ us. AllZip g.IsOutput us vs) (λ ts. AllZip g.IsOutput ts (v ∷ vs)) (λ ts us a b. zip_more g.IsOutput ts us v vs a b) Follow (After w m s Follow)
      f.front f.back
      (λ rest k. next vs f.back rest f.second k) (single_reads w l errs g First Follow p s least few at_start v f.front f.first) alone)
    where
      alone : (ts : List V) → AllZip g.IsOutput ts (v ∷ []) → ReadsBefore w (N ts) (λ us. AllZip g.IsOutput us vs) (After w m s Follow) f.back
      alone [] a = absurd a
      alone (t ∷ []) a = more t vs f.back f.second
      alone (t ∷ u ∷ ts) a = absurd a.1

  further : (t : V) (us : List O) (ys : List A) → EachForm (ItemForm true Further) us ys →
      ReadsBefore w ((items_meaning w errs (any_limits kind) (Unit {0}) m).answers s) (λ ts. AllZip g.IsOutput ts us) (After w m s Follow) ys
  further t us ys e = more_reads w l errs (record { meaning = m; IsOutput = g.IsOutput }) Further Follow q s kind one_after us ys e

  -- one item at least
  some_reads : (few : TooFew) (at_start : Bool) (vs : List O) (xs : List A) → SomeForm First Further vs xs →
      ReadsBefore w ((sequence_meaning w (λ ts us. ts ++ us) (λ o. o) (λ o. o) (items_meaning w errs (single_limits 1 few at_start) (Unit {0}) g.meaning)
      (items_meaning w errs (any_limits kind) (Unit {0}) m)).answers s) (λ ts. AllZip g.IsOutput ts vs) (After w m s Follow) xs
  some_reads few at_start [] xs f = absurd f
  some_reads few at_start (v ∷ vs) xs f =
      first_then 1 few at_start (λ ts. (items_meaning w errs (any_limits kind) (Unit {0}) m).answers s) further v vs xs f

module _ {I A P Q V O E : Type 0} {w : Model I A} (l : InputLaws w) (errs : Errors I E) {sep : Grammar I P Q E} {g : Grammar I V O E}
    {Form : O → List A → Type 0} {Follow : List A → Type 0} (items : List A)
    (separates : (rest : List A) → Follow (items ++ rest)) (q : ReadsSome w sep items) (p : Reads w g Form
    Follow) where
  -- what begins with a separator may follow an item
  starts : (v : O) (xs rest : List A) → AfterSeparator items Form v xs → Follow (xs ++ rest)
  starts v xs rest f = subst Follow (sym (ap (λ z. z ++ rest) (f.whole ∙ ap (λ z. z ++ f.back) f.first) ∙ append_assoc items f.back rest))
      (separates (f.back ++ rest))

  -- one item at least, before what ends an item and begins with no further one
  pub separated_list1_reads : {M : Type 0} → Reads w (separated_list1_of {M = M} w errs sep g) (λ v. SomeForm Form (AfterSeparator items Form) v.items)
      (λ rest. Follow rest × NoItem w (preceded_of w sep g).meaning rest)
  separated_list1_reads = record {
    reads = λ v xs f s. before_others (λ rest k. (k.0, k.1 s))
        (some_reads l errs (preceded_of w sep g).meaning p (preceded_reads l q p) starts Kind.SeparatedList s Passed false v.items xs f);
  }

  -- any number of items, before what begins with no first one either
  pub separated_list0_reads : {M : Type 0} → Reads w (separated_list0_of {M = M} w errs sep g) (λ v. AnyForm Form (AfterSeparator items Form) v.items)
      (λ rest. Follow rest × NoItem w (preceded_of w sep g).meaning rest × NoItem w g.meaning rest)
  separated_list0_reads {M} = record { reads = λ v xs f s. reads v.items xs f s }
    where
      Ends : List A → Type 0
      Ends rest = Follow rest × NoItem w (preceded_of w sep g).meaning rest × NoItem w g.meaning rest

      reads : (vs : List O) (xs : List A) → AnyForm Form (AfterSeparator items Form) vs xs → (s : Bool) →
          ReadsBefore w ((separated_list0_of {M = M} w errs sep g).meaning.answers s) (λ ts. AllZip g.IsOutput ts vs) Ends xs
      reads [] xs f s = as_whole w (f ∙ refl) (then_reads w l (λ ts us. ts ++ us) ((optional_meaning w errs (Unit {0}) g.meaning).answers s)
          (λ ts. (follows w errs sep.meaning g.meaning ts).answers s) (λ ts. AllZip g.IsOutput ts []) (λ us. AllZip g.IsOutput us [])
          (λ ts. AllZip g.IsOutput ts []) none_more (NoItemIn w g.meaning s) Ends [] [] (λ rest k. k.2 s) (none_reads w l errs g Form Follow p s Never false)
          none_follow)
        where
          none_more : (ts us : List V) → AllZip g.IsOutput ts [] → AllZip g.IsOutput us [] → AllZip g.IsOutput (ts ++ us) []
          none_more [] us a b = b
          none_more (t ∷ ts) us a b = absurd a

          none_follow : (ts : List V) → AllZip g.IsOutput ts [] → ReadsBefore w ((follows w errs sep.meaning g.meaning ts).answers s)
              (λ us. AllZip g.IsOutput us []) Ends []
          none_follow [] a = success_reads E w [] s (λ us. AllZip g.IsOutput us []) Ends tt
          none_follow (t ∷ ts) a = absurd a
      reads (v ∷ vs) xs f s = record {
        read = λ i rest o known e k a. (first_then l errs (preceded_of w sep g).meaning p (preceded_reads l q p) starts Kind.SeparatedList s 0 Never false
            (λ ts. (follows w errs sep.meaning g.meaning ts).answers s) (further l errs (preceded_of w sep g).meaning p (preceded_reads l q p) starts
            Kind.SeparatedList s) v vs xs f).read i rest o known e (k.0, k.1 s) a;
      }

-- one item at least, where anything may follow an item
pub many1_reads : {I A V O E M : Type 0} {w : Model I A} (l : InputLaws w) (errs : Errors I E) {g : Grammar I V O E} {Form : O → List A → Type 0}
    {Follow : List A → Type 0} → ((rest : List A) → Follow rest) → Reads w g Form Follow →
    Reads w (many1_of {M = M} w errs g) (λ v. SomeForm Form Form v.items) (NoItem w g.meaning)
many1_reads l errs {g} all p = record {
  reads = λ v xs f s. record {
    read = λ i rest o known e k a. (some_reads l errs g.meaning p p (λ v xs rest f. all (xs ++ rest)) Kind.Many0 s (Added Kind.Many1) true v.items xs f).read
        i rest o known e (all rest, k s) a;
  };
}

-- and at the end of a complete input
pub many1_ends : {I A V O E M : Type 0} {w : Model I A} (l : InputLaws w) (errs : Errors I E) {g : Grammar I V O E} {Form : O → List A → Type 0}
    {Follow : List A → Type 0} → ((rest : List A) → Follow rest) → Reads w g Form Follow → NoItemIn w g.meaning false [] →
    ReadsAtEnd w (many1_of {M = M} w errs g) (λ v. SomeForm Form Form v.items)
many1_ends {w = w} l errs {g} all p none = record {
  reads = λ v xs f. before_others (λ rest k. (all rest, subst (NoItemIn w g.meaning false) (sym k) none))
      (some_reads l errs g.meaning p p (λ v xs rest f. all (xs ++ rest)) Kind.Many0 false (Added Kind.Many1) true v.items xs f);
}
