-- Laws of reading back parts in sequence: what is written of the second, with all that may follow it, may follow the first.
use Rattle.std.specs.Prelude.{◌≡◌, ℕ, List, [], ◌++◌, false, refl}
use Rattle.std.proofs.Common.{sym, ◌∙◌, ap, subst, append_assoc, append-nil}
use Rattle.nom_internal.specs.Prelude.{Model, InputLaws, items_len, items_len-append, IsSuffixOf, Grammar, Outcome, Accept, GoesOn, Then, after}
use Rattle.nom_internal.specs.Prelude.{PairOutput, pair_of}
use Rattle.nom_internal.specs.Tuples.{tuple_of}
use Rattle.nom_traits.specs.Rests.{same_cut}
use Rattle.nom_sequence.specs.Sequences.{preceded_of, terminated_of}
use Rattle.nom_sink.specs.Parts.{Both, MeetsForms}
use Rattle.nom_write.specs.Reads.{Anything, IsEnd, IsTaken, Reads, ReadsAtEnd, ReadsBefore, ReadsSome}

-- what follows items of a front, by the front's length
pub rest_follows : {I A : Type 0} (w : Model I A) → InputLaws w → (i j : I) (xs rest : List A) → w.elements i ≡ xs ++ rest →
    IsSuffixOf w i (items_len w.item_len xs) j → w.elements j ≡ rest
rest_follows w l i j xs rest e s = (same_cut w.item_len l.positive s.front (w.elements j) xs rest (sym s.whole ∙ e) s.length_is).1

-- by an equation of the items
pub as_whole : {I A V : Type 0} (w : Model I A) {P : I → Outcome V → Type 0} {Fact : V → Type 0} {Follow : List A → Type 0} {xs ys : List A} → xs ≡ ys →
    ReadsBefore w P Fact Follow ys → ReadsBefore w P Fact Follow xs
as_whole w {P} {Fact} {Follow} e r = subst (ReadsBefore w P Fact Follow) (sym e) r

-- before what is of another kind
pub before_others : {I A V : Type 0} {w : Model I A} {P : I → Outcome V → Type 0} {Fact : V → Type 0} {Follow Other : List A → Type 0} {xs : List A} →
    ((rest : List A) → Other rest → Follow rest) → ReadsBefore w P Fact Follow xs → ReadsBefore w P Fact Other xs
before_others f p = record { read = λ i rest o known e k a. p.read i rest o known e (f rest k) a }

-- where nothing may follow
pub followed_ends : {I A V O E : Type 0} {w : Model I A} {g : Grammar I V O E} {Form : O → List A → Type 0} {Follow : List A → Type 0} → Follow [] →
    Reads w g Form Follow → ReadsAtEnd w g Form
followed_ends {Follow = Follow} may p = record { reads = λ v xs f. before_others (λ rest k. subst Follow (sym k) may) (p.reads v xs f false) }

module _ {I A P Q T : Type 0} (w : Model I A) (l : InputLaws w) (tree : P → Q → T) (F : I → Outcome P → Type 0) (N : P → I → Outcome Q → Type 0)
    (IsFirst : P → Type 0) (IsNext : Q → Type 0) (IsTree : T → Type 0) (joins : (u : P) (v : Q) → IsFirst u → IsNext v → IsTree (tree u v))
    (First Next : List A → Type 0) (xs ys : List A) (meets : (rest : List A) → Next rest → First (ys ++ rest)) where
  -- one part after another
  pub then_reads : ReadsBefore w F IsFirst First xs → ((u : P) → IsFirst u → ReadsBefore w (N u) IsNext Next ys) →
      ReadsBefore w (Then w tree F N) IsTree Next (xs ++ ys)
  then_reads p q = record { read = reads }
    where
      n : ℕ
      n = items_len w.item_len xs

      joined : (u : P) → IsFirst u → (b : Outcome Q) (o : Outcome T) → o ≡ after n (tree u) b → IsTaken w IsNext (items_len w.item_len ys) b →
          IsTaken w IsTree (items_len w.item_len (xs ++ ys)) o
      joined u is b o e k = (
        tree u k.0,
        subst (λ z. o ≡ Accept z (tree u k.0)) (sym (items_len-append w.item_len xs ys))
            (e ∙ ap (λ z. after n (tree u) z) {y = Accept (items_len w.item_len ys) k.0} k.1),
        joins u k.0 is k.2,
      )

      second : (u : P) → IsFirst u → (i : I) (rest : List A) (o : Outcome T) → w.elements i ≡ xs ++ (ys ++ rest) → Next rest →
          GoesOn w tree N i (Accept n u) o → IsTaken w IsTree (items_len w.item_len (xs ++ ys)) o
      second u is i rest o e next g = joined u is g.1 o g.4
          ((q u is).read g.0 rest g.1 g.2.known (rest_follows w l i g.0 xs (ys ++ rest) e g.2) next g.3)

      reads : (i : I) (rest : List A) (o : Outcome T) → w.IsKnown i → w.elements i ≡ (xs ++ ys) ++ rest → Next rest → Then w tree F N i o →
          IsTaken w IsTree (items_len w.item_len (xs ++ ys)) o
      reads i rest o known e next a =
          let e' : w.elements i ≡ xs ++ (ys ++ rest) = e ∙ append_assoc xs ys rest in
          let f = p.read i (ys ++ rest) a.first known e' (meets rest next) a.answered in
          second f.0 f.2 i rest o e' next (subst (λ z. GoesOn w tree N i z o) f.1 a.goes_on)

module _ {I A V W O P E : Type 0} {w : Model I A} (l : InputLaws w) {g : Grammar I V O E} {h : Grammar I W P E} where
  pub pair_reads : {FirstForm : O → List A → Type 0} {NextForm : P → List A → Type 0} {First Next : List A → Type 0} →
      MeetsForms First NextForm Next → Reads w g FirstForm First → Reads w h NextForm Next →
      Reads w (pair_of w g h) (λ v. Both (FirstForm v.0) (NextForm v.1)) Next
  pair_reads {First = First} {Next} meets p q = record {
    reads = λ v xs f s. as_whole w f.whole (then_reads w l (λ u v. (u, v)) (g.meaning.answers s) (λ u. h.meaning.answers s)
        (λ t. g.IsOutput t v.0) (λ t. h.IsOutput t v.1) (λ t. PairOutput g.IsOutput h.IsOutput t v) (λ u v x y. (x, y)) First Next f.front f.back
        (λ rest n. meets f.back rest (v.1, f.second) n) (p.reads v.0 f.front f.first s) (λ u x. q.reads v.1 f.back f.second s));
  }

  pub preceded_reads : {items : List A} {NextForm : P → List A → Type 0} {Next : List A → Type 0} → ReadsSome w g items → Reads w h NextForm Next →
      Reads w (preceded_of w g h) (λ v. Both (λ ys. ys ≡ items) (NextForm v)) Next
  preceded_reads {items} {Next = Next} p q = record {
    reads = λ b xs f s. as_whole w f.whole (then_reads w l (λ u v. v) (g.meaning.answers s) (λ u. h.meaning.answers s)
        (λ u. Unit {0}) (λ t. h.IsOutput t b) (λ t. h.IsOutput t b) (λ u v x y. y) Anything Next f.front f.back (λ rest n. tt)
        (as_whole w f.first (p.reads s)) (λ u x. q.reads b f.back f.second s));
  }

  pub terminated_reads : {items : List A} {FirstForm : O → List A → Type 0} {First : List A → Type 0} → ((rest : List A) → First (items ++ rest)) →
      Reads w g FirstForm First → ReadsSome w h items → Reads w (terminated_of w g h) (λ v. Both (FirstForm v) (λ ys. ys ≡ items)) Anything
  terminated_reads {items} {First = First} meets p q = record {
    reads = λ a xs f s. as_whole w f.whole (then_reads w l (λ u v. u) (g.meaning.answers s) (λ u. h.meaning.answers s)
        (λ t. g.IsOutput t a) (λ v. Unit {0}) (λ t. g.IsOutput t a) (λ u v x y. x) First Anything f.front f.back
        (λ rest n. subst (λ z. First (z ++ rest)) (sym f.second) (meets rest)) (p.reads a f.front f.first s)
        (λ u x. as_whole w f.second (q.reads s)));
  }

-- the same at the end of a complete input
module _ {I A V W O P E : Type 0} {w : Model I A} (l : InputLaws w) {g : Grammar I V O E} {h : Grammar I W P E} where
  pub pair_ends : {FirstForm : O → List A → Type 0} {NextForm : P → List A → Type 0} {First : List A → Type 0} →
      ((v : P) (ys : List A) → NextForm v ys → First ys) → Reads w g FirstForm First → ReadsAtEnd w h NextForm →
      ReadsAtEnd w (pair_of w g h) (λ v. Both (FirstForm v.0) (NextForm v.1))
  pair_ends {First = First} meets p q = record {
    reads = λ v xs f. as_whole w f.whole (then_reads w l (λ u v. (u, v)) (g.meaning.answers false) (λ u. h.meaning.answers false)
        (λ t. g.IsOutput t v.0) (λ t. h.IsOutput t v.1) (λ t. PairOutput g.IsOutput h.IsOutput t v) (λ u v x y. (x, y)) First IsEnd f.front f.back
        (λ rest k. subst First (sym (ap (λ z. f.back ++ z) k ∙ append-nil f.back)) (meets v.1 f.back f.second))
        (p.reads v.0 f.front f.first false) (λ u x. q.reads v.1 f.back f.second));
  }

  pub preceded_ends : {items : List A} {NextForm : P → List A → Type 0} → ReadsSome w g items → ReadsAtEnd w h NextForm →
      ReadsAtEnd w (preceded_of w g h) (λ v. Both (λ ys. ys ≡ items) (NextForm v))
  preceded_ends {items} p q = record {
    reads = λ b xs f. as_whole w f.whole (then_reads w l (λ u v. v) (g.meaning.answers false) (λ u. h.meaning.answers false)
        (λ u. Unit {0}) (λ t. h.IsOutput t b) (λ t. h.IsOutput t b) (λ u v x y. y) Anything IsEnd f.front f.back (λ rest n. tt)
        (as_whole w f.first (p.reads false)) (λ u x. q.reads b f.back f.second));
  }

-- what may follow a first part, where a second and a third do
module _ {T O P : Type 0} (First : List T → Type 0) {Mid : List T → Type 0} {Form : O → List T → Type 0} {Next : P → List T → Type 0}
    (meets : MeetsForms First Form Mid) where
  pub meets_more : {Last : List T → Type 0} → MeetsForms Mid Next Last → MeetsForms {O = O × P} First (λ b. Both (Form b.0) (Next b.1)) Last
  meets_more n ys rest b k =
      let f = b.1 in
      let whole : ys ++ rest ≡ f.front ++ (f.back ++ rest) = ap (λ z. z ++ rest) f.whole ∙ append_assoc f.front f.back rest in
      subst First (sym whole) (meets f.front (f.back ++ rest) (b.0.0, f.first) (n f.back rest (b.0.1, f.second) k))

  pub ends_more : ((v : P) (ys : List T) → Next v ys → Mid ys) → (v : O × P) (ys : List T) → Both (Form v.0) (Next v.1) ys → First ys
  ends_more n v ys f = subst First (sym f.whole) (meets f.front f.back (v.0, f.first) (n v.1 f.back f.second))

-- The members of a tuple from one on: they are read before what may follow the last, and what is written of them, with that, may follow
-- the member before.
module _ {I A V O E : Type 0} (w : Model I A) (g : Grammar I V O E) (Form : O → List A → Type 0) (Before Last : List A → Type 0) where
  pub record Remaining : Type 0 where
    pub lawful : InputLaws w
    pub reads : Reads w g Form Last
    pub meets : MeetsForms Before Form Last

pub last_member : {I A V O E : Type 0} {w : Model I A} {g : Grammar I V O E} {Form : O → List A → Type 0} {Before Last : List A → Type 0} →
    InputLaws w → MeetsForms Before Form Last → Reads w g Form Last → Remaining w g Form Before Last
last_member l meets p = record { lawful = l; reads = p; meets = meets }

-- the same, where the last member ends a complete input
module _ {I A V O E : Type 0} (w : Model I A) (g : Grammar I V O E) (Form : O → List A → Type 0) (Before : List A → Type 0) where
  pub record RemainingEnds : Type 0 where
    pub lawful : InputLaws w
    pub ends : ReadsAtEnd w g Form
    pub meets : (v : O) (ys : List A) → Form v ys → Before ys

pub last_end : {I A V O E : Type 0} {w : Model I A} {g : Grammar I V O E} {Form : O → List A → Type 0} {Before : List A → Type 0} →
    InputLaws w → ((v : O) (ys : List A) → Form v ys → Before ys) → ReadsAtEnd w g Form → RemainingEnds w g Form Before
last_end l meets p = record { lawful = l; ends = p; meets = meets }

module _ {I A V W O P E : Type 0} {w : Model I A} {g : Grammar I V O E} {h : Grammar I W P E} {Form : O → List A → Type 0} {Next : P → List A → Type 0}
    {Follow : List A → Type 0} where
  pub first_member : {Last : List A → Type 0} → Reads w g Form Follow → Remaining w h Next Follow Last →
      Reads w (pair_of w g h) (λ v. Both (Form v.0) (Next v.1)) Last
  first_member p rest = pair_reads rest.lawful rest.meets p rest.reads

  pub next_member : {Before Last : List A → Type 0} → MeetsForms Before Form Follow → Reads w g Form Follow → Remaining w h Next Follow Last →
      Remaining w (pair_of w g h) (λ v. Both (Form v.0) (Next v.1)) Before Last
  next_member {Before} meets p rest = record { lawful = rest.lawful; reads = first_member p rest; meets = meets_more Before meets rest.meets }

  pub first_end : Reads w g Form Follow → RemainingEnds w h Next Follow → ReadsAtEnd w (pair_of w g h) (λ v. Both (Form v.0) (Next v.1))
  first_end p rest = pair_ends rest.lawful rest.meets p rest.ends

  pub next_end : {Before : List A → Type 0} → MeetsForms Before Form Follow → Reads w g Form Follow → RemainingEnds w h Next Follow →
      RemainingEnds w (pair_of w g h) (λ v. Both (Form v.0) (Next v.1)) Before
  next_end {Before} meets p rest = record { lawful = rest.lawful; ends = first_end p rest; meets = ends_more Before meets rest.meets }

-- two parts and a third are a first and two others
both_regrouped : {T : Type 0} {A B C : List T → Type 0} {xs : List T} → Both A (Both B C) xs → Both (Both A B) C xs
both_regrouped f = record {
  front = f.front ++ f.second.front;
  back = f.second.back;
  whole = f.whole ∙ (ap (λ z. f.front ++ z) f.second.whole ∙ sym (append_assoc f.front f.second.front f.second.back));
  first = record { front = f.front; back = f.second.front; whole = refl; first = f.first; second = f.second.first };
  second = f.second.second;
}

pub regrouped : {I T V O E : Type 0} {w : Model I T} {g : Grammar I V O E} {A B C : O → List T → Type 0} {Follow : List T → Type 0} →
    Reads w g (λ v. Both (Both (A v) (B v)) (C v)) Follow → Reads w g (λ v. Both (A v) (Both (B v) (C v))) Follow
regrouped p = record { reads = λ v xs f. p.reads v xs (both_regrouped f) }

-- a tuple, by the nested pairs of its outputs
pub tuple_reads : {I A V O F E : Type 0} {w : Model I A} {g : Grammar I V O E} {Form : O → List A → Type 0} {Follow : List A → Type 0} (pairs : F → O) →
    Reads w g Form Follow → Reads w (tuple_of pairs g) (λ v. Form (pairs v)) Follow
tuple_reads pairs p = record { reads = λ v. p.reads (pairs v) }

pub tuple_ends : {I A V O F E : Type 0} {w : Model I A} {g : Grammar I V O E} {Form : O → List A → Type 0} (pairs : F → O) →
    ReadsAtEnd w g Form → ReadsAtEnd w (tuple_of pairs g) (λ v. Form (pairs v))
tuple_ends pairs p = record { reads = λ v. p.reads (pairs v) }
