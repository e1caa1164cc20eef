-- Parsers over texts, described by how they end in the complete mode: by functions and relations of lists, of the bytes that they are given. One
-- lemma for each combinator, by its meaning.
use Rattle.std.specs.Prelude.{◌≡◌, ℕ, ◌+◌, Bool, false, List, [], ◌++◌, Option, Some, None, chars, drop, encode_utf8_all, length}
use Rattle.std.specs.Char.{len_utf8}
use Rattle.std.proofs.Common.{arith, sym, ◌∙◌, ap, refl, subst, inl, inr, append_assoc, length-append}
use Rattle.std.proofs.Math.Seq.{drop-append_seam}
use Rattle.std.proofs.lemmas.Str.{encodes-append}
use Rattle.nom_error.specs.Modes.{Modes, with_outputs}
use Rattle.nom_error.specs.declared.value.Error.{Error}
use Rattle.nom_internal.specs.Prelude.{Accept, Case, Fails, GoesOn, GoesOnRefused, Grammar, IsSliced, IsSuffixOf, Leaf, LeafAnswers, Meaning, Needs, Outcome}
use Rattle.nom_internal.specs.Prelude.{Passes, Refuse}
use Rattle.nom_internal.specs.Prelude.{Stop, after, case_meaning, closed_case, closed_meaning, items_len, labelled, leaf_meaning, map_case}
use Rattle.nom_internal.specs.Prelude.{map_meaning, mode_of, or_meaning, plain_case, premised, sequence_meaning, text_model}
use Rattle.nom_traits.specs.Text.{items_len-text}
use Rattle.nom_repeat.specs.Repeat.{Turn}
use Rattle.nom_repeat.specs.Repeat.Turn.{Ends, Takes}
use Rattle.nom_internal.specs.Tuples.{built_meaning}
use Rattle.nom_internal.specs.Words.{map_worded, pair_worded, tuple_of, tuple_worded}
use Rattle.nom_branch.specs.Words.{alt_worded, or_worded}
use Rattle.nom_combinator.specs.Verdicts.{opt_meaning, opt_outcome, verdict_case}
use Rattle.nom_combinator.specs.Words.{opt_worded, recognize_worded}
use Rattle.nom_sequence.specs.Words.{preceded_worded, terminated_worded}
use Rattle.nom.specs.Word.{word}
use Rattle.nom.specs.Texts.{Text, TextWord, alt_of, map_of, opt_of, or_of, pair_of, plain_errors, preceded_of, recognize_of, terminated_of}
use Rattle.nom_json_run.specs.Json.{and_then}
use Rattle.nom_json_run.proofs.Grammars.{sliced_is}

-- how a parser ends: it leaves some bytes, it refuses, or it fails
pub data Ending : Type 0 where
  Leaving : List ℕ → Ending
  Refusing : Ending
  Failing : Ending

-- which endings a parser has, by its input's bytes
abbrev pub Endings : Type 1
Endings = List ℕ → Ending → Type 0

-- bytes without a front of that length
pub record Cut (xs : List ℕ) (n : ℕ) (ys : List ℕ) : Type 0 where
  pub front : List ℕ
  pub whole : xs ≡ front ++ ys
  pub length_is : length front ≡ n

pub cut_none : (xs : List ℕ) → Cut xs 0 xs
cut_none xs = record { front = []; whole = refl; length_is = refl }

-- characters in front, as bytes
pub cut_characters : (i : Text) → text_model.IsKnown i → (n : ℕ) (front others : List ℕ) → chars i.now ≡ front ++ others → items_len len_utf8 front ≡ n →
    Cut i.now n (encode_utf8_all others)
cut_characters i known n front others whole size = record {
  front = encode_utf8_all front;
  whole = sym known.2 ∙ (ap encode_utf8_all whole ∙ encodes-append front others);
  length_is = sym (items_len-text front) ∙ size;
}

pub cut_rest : {i : Text} → text_model.IsKnown i → {n : ℕ} {j : Text} → IsSuffixOf text_model i n j → Cut i.now n j.now
cut_rest {i} known {n} {j} s = subst (Cut i.now n) s.known.2 (cut_characters i known n s.front (chars j.now) s.whole s.length_is)

pub one_cut : {xs : List ℕ} {n : ℕ} {ys zs : List ℕ} → Cut xs n ys → Cut xs n zs → ys ≡ zs
one_cut p q = sym (left p) ∙ left q where
  left : {xs : List ℕ} {n : ℕ} {ys : List ℕ} → Cut xs n ys → drop n xs ≡ ys
  left {n = n} {ys} p = ap (drop n) p.whole ∙ (ap (λ k. drop k (p.front ++ ys)) (sym p.length_is) ∙ drop-append_seam p.front ys)

pub cut_then : {xs : List ℕ} {n : ℕ} {ys : List ℕ} {m : ℕ} {zs : List ℕ} → Cut xs n ys → Cut ys m zs → Cut xs (n + m) zs
cut_then {zs = zs} p q = record {
  front = p.front ++ q.front;
  whole = p.whole ∙ (ap (λ xs. p.front ++ xs) q.whole ∙ sym (append_assoc p.front q.front zs));
  length_is = omega (arith, length-append p.front q.front, p.length_is, q.length_is);
}

-- an outcome, by the bytes
abbrev pub EndsSo : {V : Type 0} → Endings → List ℕ → Outcome V → Type 0
EndsSo R xs (Accept n v) = (ys : List ℕ) × Cut xs n ys × R xs (Leaving ys)
EndsSo R xs Refuse = R xs Refusing
EndsSo R xs (Stop (Fails c)) = R xs Failing
EndsSo R xs (Stop (Needs k)) = ⊥

pub ends_as : {V : Type 0} (R Q : Endings) {xs : List ℕ} → ((e : Ending) → R xs e → Q xs e) → (o : Outcome V) → EndsSo R xs o → EndsSo Q xs o
ends_as R Q f (Accept n v) h = (h.0, h.1, f (Leaving h.0) h.2)
ends_as R Q f Refuse h = f Refusing h
ends_as R Q f (Stop (Fails c)) h = f Failing h
ends_as R Q f (Stop (Needs k)) h = h

-- Each outcome is one of these endings.
pub record Describes {V : Type 0} (R : Endings) (m : Meaning Text V (Error Text)) : Type 0 where
  pub ends : (i : Text) (o : Outcome V) → text_model.IsKnown i → m.answers false i o → EndsSo R i.now o

-- one part after another
module _ {P Q T : Type 0} (tree : P → Q → T) (f g : Modes → Modes) {A B : Endings} (R : Endings) {a : Meaning Text P (Error Text)}
    {b : Meaning Text Q (Error Text)} (da : Describes A a) (db : Describes B b)
    (joins : (xs ys : List ℕ) (e : Ending) → A xs (Leaving ys) → B ys e → R xs e) (refuses : (xs : List ℕ) → A xs Refusing → R xs Refusing)
    (fails : (xs : List ℕ) → A xs Failing → R xs Failing) where
  next_ends : (xs ys : List ℕ) (n : ℕ) (u : P) (o : Outcome Q) → Cut xs n ys → A xs (Leaving ys) → EndsSo B ys o → EndsSo R xs (after n (tree u) o)
  next_ends xs ys n u (Accept m v) c h s = (s.0, cut_then c s.1, joins xs ys (Leaving s.0) h s.2)
  next_ends xs ys n u Refuse c h s = joins xs ys Refusing h s
  next_ends xs ys n u (Stop (Fails z)) c h s = joins xs ys Failing h s
  next_ends xs ys n u (Stop (Needs k)) c h s = s

  goes_on_ends : (i : Text) (o : Outcome T) (x : Outcome P) → text_model.IsKnown i → EndsSo A i.now x → GoesOn text_model tree (λ _. b.answers false) i x o →
      EndsSo R i.now o
  goes_on_ends i o (Accept n u) known h (j, y, s, k, e) =
      let c = cut_rest known s in
      let there = subst (λ ys. A i.now (Leaving ys)) (one_cut h.1 c) h.2 in
      subst (EndsSo R i.now) (sym e) (next_ends i.now j.now n u y c there (db.ends j y s.known k))
  goes_on_ends i o Refuse known h e = subst (EndsSo R i.now) (sym e) (refuses i.now h)
  goes_on_ends i o (Stop (Fails z)) known h e = subst (EndsSo R i.now) (sym e) (fails i.now h)
  goes_on_ends i o (Stop (Needs k)) known h e = absurd h

  pub then_described : Describes R (sequence_meaning text_model tree f g a b)
  then_described = record { ends = λ i o known h. goes_on_ends i o h.first known (da.ends i h.first known h.answered) h.goes_on }

-- the first of two parts that isn't refused
module _ {P : Type 0} {A B : Endings} (R : Endings)
    {a b : Meaning Text P (Error Text)} (da : Describes A a) (db : Describes B b) (first : (xs ys : List ℕ) → A xs (Leaving ys) → R xs (Leaving ys))
    (second : (xs : List ℕ) (e : Ending) → A xs Refusing → B xs e → R xs e) (fails : (xs : List ℕ) → A xs Failing → R xs Failing) where
  or_ends : (i : Text) (o x : Outcome P) → text_model.IsKnown i → EndsSo A i.now x → GoesOnRefused (b.answers false i) x o → EndsSo R i.now o
  or_ends i o (Accept n v) known h e = subst (EndsSo R i.now) (sym e) (h.0, h.1, first i.now h.0 h.2)
  or_ends i o Refuse known h k = ends_as B R (λ e. second i.now e h) o (db.ends i o known k)
  or_ends i o (Stop (Fails c)) known h e = subst (EndsSo R i.now) (sym e) (fails i.now h)
  or_ends i o (Stop (Needs n)) known h e = absurd h

  pub or_described : (Joins : Error Text → Error Text → Error Text → Type 0) (Grows : Type 0) → Describes R (or_meaning Joins Grows a b)
  or_described Joins Grows = record { ends = λ i o known h. or_ends i o h.first known (da.ends i h.first known h.answered) h.goes_on }

-- cases over a part that runs at the same place
module _ {P T : Type 0} {m : Meaning Text P (Error Text)} {A : Endings} (d : Describes A m) (c : Case Text Text P T (Error Text) (Error Text))
    (at : (i j : Text) → c.At i j → i ≡ j) (asked : mode_of c.mode false ≡ false) where
  pub case_described : (R : Endings) → ((i : Text) (a : Outcome P) (o : Outcome T) → c.Becomes i a o → EndsSo A i.now a → EndsSo R i.now o) →
      Describes R (case_meaning c m)
  case_described R turns = record {
    ends = λ i o known h.
        let here = subst (λ j. m.answers (mode_of c.mode false) j h.outcome) (sym (at i h.at h.at_is)) h.answered in
        turns i h.outcome o h.fact (d.ends i h.outcome known (subst (λ s. m.answers s i h.outcome) asked here));
  }

module _ {P : Type 0} {m : Meaning Text P (Error Text)} {A : Endings} (d : Describes A m) where
  -- with another tree
  like_ends : {T : Type 0} (f : P → T) (xs : List ℕ) (a : Outcome P) → EndsSo A xs a → EndsSo A xs (labelled f a)
  like_ends f xs (Accept n v) h = h
  like_ends f xs Refuse h = h
  like_ends f xs (Stop (Fails c)) h = h
  like_ends f xs (Stop (Needs k)) h = h

  pub like_described : {T : Type 0} (outputs : Bool → Bool) (Becomes : Text → Outcome P → Outcome T → Type 0) →
      ((i : Text) (a : Outcome P) (o : Outcome T) → Becomes i a o → (f : P → T) × (o ≡ labelled f a)) →
      Describes A (case_meaning (plain_case outputs Becomes) m)
  like_described outputs Becomes label = case_described d (plain_case outputs Becomes) (λ i j e. e) refl A
      (λ i a o b h. let l = label i a o b in subst (EndsSo A i.now) (sym l.1) (like_ends l.0 i.now a h))

  -- what it ends as alone
  pub closed_described : {Closes : Text → Error Text → Error Text → Type 0} {Grows : Type 0} → Describes A (closed_meaning Closes Grows m)
  closed_described {Closes} {Grows} = case_described d (closed_case Closes Grows) (λ i j e. e) refl A
      (λ i a o e h. subst (EndsSo A i.now) (sym e) h)

  pub map_described : {O : Type 0} {IsOutput : P → O → Type 0} {Takes : O → Type 0} → Describes A (map_meaning IsOutput Takes m)
  map_described {IsOutput = IsOutput} {Takes} = case_described d (map_case IsOutput Takes) (λ i j e. e) refl A
      (λ i a o e h. subst (EndsSo A i.now) (sym e) h)

  pub built_described : Describes A (built_meaning m)
  built_described = record { ends = d.ends }

  -- or nothing
  opt_ends : (R : Endings) → ((xs ys : List ℕ) → A xs (Leaving ys) → R xs (Leaving ys)) → ((xs : List ℕ) → A xs Refusing → R xs (Leaving xs)) →
      ((xs : List ℕ) → A xs Failing → R xs Failing) → (xs : List ℕ) (a : Outcome P) → EndsSo A xs a → EndsSo R xs (opt_outcome a)
  opt_ends R some none fails xs (Accept n v) h = (h.0, h.1, some xs h.0 h.2)
  opt_ends R some none fails xs Refuse h = (xs, cut_none xs, none xs h)
  opt_ends R some none fails xs (Stop (Fails c)) h = fails xs h
  opt_ends R some none fails xs (Stop (Needs k)) h = h

  pub opt_described : (R : Endings) → ((xs ys : List ℕ) → A xs (Leaving ys) → R xs (Leaving ys)) → ((xs : List ℕ) → A xs Refusing → R xs (Leaving xs)) →
      ((xs : List ℕ) → A xs Failing → R xs Failing) → Describes R (opt_meaning m)
  opt_described R some none fails = case_described d (verdict_case opt_outcome (λ _. false) (λ Part. Part)) (λ i j e. e) refl R
      (λ i a o e h. subst (EndsSo R i.now) (sym e) (opt_ends R some none fails i.now a h))

-- a part without parts
module _ {V : Type 0} (leaf : Leaf Text V) (R : Endings)
    (accepted : (i : Text) (n : ℕ) (v : V) → text_model.IsKnown i → leaf.Accepts false i n v → EndsSo R i.now (Accept n v))
    (refused : (i : Text) → text_model.IsKnown i → leaf.Refuses false i → R i.now Refusing) where
  leaf_ends : (i : Text) (o : Outcome V) → text_model.IsKnown i → LeafAnswers leaf false i o → EndsSo R i.now o
  leaf_ends i (Accept n v) known h = accepted i n v known h
  leaf_ends i Refuse known h = refused i known h
  leaf_ends i (Stop (Fails c)) known h = absurd h
  leaf_ends i (Stop (Needs k)) known h = cc (h.0)

  pub leaf_described : (Runs IsSound : Type 0) {Blames : Text → Error Text → Type 0} {Grows : Type 0} →
      Describes R (premised Runs IsSound (leaf_meaning Blames Grows leaf))
  leaf_described Runs IsSound = record { ends = leaf_ends }

-- the same of words
pub record Described {O : Type 0} (R : Endings) (g : TextWord O) : Type 0 where
  pub meant : Describes R g.grammar.meaning

pub by : {O V : Type 0} {R : Endings} {g : TextWord O} {h : Grammar Text V O (Error Text)} → g ≡ word h → Describes R h.meaning → Described R g
by {R = R} e d = subst (Described R) (sym e) (record { meant = d })

pub described_as : {O : Type 0} {R Q : Endings} {g : TextWord O} → ((xs : List ℕ) (e : Ending) → R xs e → Q xs e) → Described R g → Described Q g
described_as {R = R} {Q} f d = record { meant = record { ends = λ i o known h. ends_as R Q (f i.now) o (d.meant.ends i o known h) } }

module _ {O : Type 0} {R : Endings} {g : TextWord O} (d : Described R g) where
  pub tuple_by : {F : Type 0} (pairs : F → O) → Described R (tuple_of pairs g)
  tuple_by pairs = by (tuple_worded pairs refl) (built_described d.meant)

  pub map_by : {P : Type 0} (f : O → P) → Described R (map_of f g)
  map_by f = by (map_worded (λ _. Unit {0}) (λ o p. p ≡ f o) refl) (map_described d.meant)

  pub recognize_by : Described R (recognize_of g)
  recognize_by = by (recognize_worded text_model refl)
      (like_described d.meant (λ _. false) (λ i. Passes (λ n u o. IsSliced text_model i n o)) (sliced_is text_model))

  pub alt_by : Described R (alt_of g)
  alt_by = by (alt_worded plain_errors refl) (closed_described d.meant)

module _ {O : Type 0} {A B : Endings} (R : Endings) {g h : TextWord O} (a : Described A g) (b : Described B h)
    (first : (xs ys : List ℕ) → A xs (Leaving ys) → R xs (Leaving ys)) (second : (xs : List ℕ) (e : Ending) → A xs Refusing → B xs e → R xs e)
    (fails : (xs : List ℕ) → A xs Failing → R xs Failing) where
  pub or_by : Described R (or_of g h)
  or_by = by (or_worded plain_errors refl refl) (or_described R (like_described a.meant (λ b. b) (λ i a o. o ≡ labelled inl a) (λ i a o e. (inl, e)))
      (like_described b.meant (λ b. b) (λ i a o. o ≡ labelled inr a) (λ i a o e. (inr, e))) first second fails _ _)

module _ {O P : Type 0} {A B : Endings} (R : Endings) {g : TextWord O} {h : TextWord P} (a : Described A g) (b : Described B h)
    (joins : (xs ys : List ℕ) (e : Ending) → A xs (Leaving ys) → B ys e → R xs e) (refuses : (xs : List ℕ) → A xs Refusing → R xs Refusing)
    (fails : (xs : List ℕ) → A xs Failing → R xs Failing) where
  pub pair_by : Described R (pair_of g h)
  pair_by = by (pair_worded text_model refl refl) (then_described (λ u v. (u, v)) (λ o. o) (λ o. o) R a.meant b.meant joins refuses fails)

  pub preceded_by : Described R (preceded_of g h)
  preceded_by = by (preceded_worded text_model refl refl) (then_described (λ u v. v) (with_outputs false) (λ o. o) R a.meant b.meant joins refuses fails)

  pub terminated_by : Described R (terminated_of g h)
  terminated_by = by (terminated_worded text_model refl refl) (then_described (λ u v. u) (λ o. o) (with_outputs false) R a.meant b.meant joins refuses fails)

-- Parts that a function of lists describes: it gives what is left, or nothing where they refuse.
abbrev pub After : Type 0
After = List ℕ → Option (List ℕ)

abbrev pub Gives : After → Endings
Gives f xs (Leaving ys) = f xs ≡ Some ys
Gives f xs Refusing = f xs ≡ None
Gives f xs Failing = ⊥

pub gives_as : (f k : After) {xs ys : List ℕ} → f xs ≡ k ys → (e : Ending) → Gives k ys e → Gives f xs e
gives_as f k p (Leaving zs) h = p ∙ h
gives_as f k p Refusing h = p ∙ h
gives_as f k p Failing h = h

-- the first of two results that is something
abbrev pub or_else : Option (List ℕ) → Option (List ℕ) → Option (List ℕ)
or_else (Some xs) other = Some xs
or_else None other = other

module _ {O : Type 0} {f : After} {g : TextWord O} (d : Described (Gives f) g) where
  pub same_gives : {k : After} → ((xs : List ℕ) → k xs ≡ f xs) → Described (Gives k) g
  same_gives {k} same = described_as (λ xs e h. gives_as k f (same xs) e h) d

  pub opt_gives : Described (Gives (λ xs. or_else (f xs) (Some xs))) (opt_of g)
  opt_gives = by (opt_worded refl) (opt_described d.meant (Gives (λ xs. or_else (f xs) (Some xs))) (λ xs ys e. ap (λ o. or_else o (Some xs)) e)
      (λ xs e. ap (λ o. or_else o (Some xs)) e) (λ xs h. h))

  pub or_gives : {k : After} {h : TextWord O} → Described (Gives k) h → Described (Gives (λ xs. or_else (f xs) (k xs))) (or_of g h)
  or_gives {k} b = or_by (Gives (λ xs. or_else (f xs) (k xs))) d b (λ xs ys e. ap (λ o. or_else o (k xs)) e)
      (λ xs e h. gives_as (λ zs. or_else (f zs) (k zs)) k (ap (λ o. or_else o (k xs)) h) e) (λ xs h. h)

  module _ {P : Type 0} {k : After} {h : TextWord P} (b : Described (Gives k) h) where
    abbrev Both : Endings
    Both = Gives (λ xs. and_then (f xs) k)

    both_left : (xs ys : List ℕ) (e : Ending) → f xs ≡ Some ys → Gives k ys e → Both xs e
    both_left xs ys e p = gives_as (λ zs. and_then (f zs) k) k (ap (λ o. and_then o k) p) e

    pub pair_gives : Described Both (pair_of g h)
    pair_gives = pair_by Both d b both_left (λ xs e. ap (λ o. and_then o k) e) (λ xs h. h)

    pub preceded_gives : Described Both (preceded_of g h)
    preceded_gives = preceded_by Both d b both_left (λ xs e. ap (λ o. and_then o k) e) (λ xs h. h)

    pub terminated_gives : Described Both (terminated_of g h)
    terminated_gives = terminated_by Both d b both_left (λ xs e. ap (λ o. and_then o k) e) (λ xs h. h)

-- what a turn of a repetition says, by what the parser for it says
abbrev pub TurnSays : {V : Type 0} → Endings → List ℕ → Turn V (Unit {0}) → Type 0
TurnSays R xs (Takes n v) = (ys : List ℕ) × Cut xs n ys × R xs (Leaving ys)
TurnSays R xs (Ends (Accept n w)) = (n ≡ 0) × R xs Refusing
TurnSays R xs (Ends Refuse) = ⊥
TurnSays R xs (Ends (Stop (Fails c))) = R xs Failing
TurnSays R xs (Ends (Stop (Needs k))) = ⊥

-- where it ends
pub ended : {T : Type 0} (V : Type 0) (R Q : Endings) (us : T) (xs : List ℕ) (o : Outcome (Unit {0})) → (R xs Refusing → Q xs (Leaving xs)) →
    (R xs Failing → Q xs Failing) → TurnSays {V = V} R xs (Ends o) → EndsSo Q xs (after 0 (λ _. us) o)
ended V R Q us xs (Accept n w) none fails h =
    let e : n ≡ 0 = h.0 in
    (xs, subst (λ n. Cut xs n xs) (omega (arith, e)) (cut_none xs), none h.1)
ended V R Q us xs Refuse none fails h = absurd h
ended V R Q us xs (Stop (Fails c)) none fails h = fails h
ended V R Q us xs (Stop (Needs k)) none fails h = absurd h

-- where it goes on
pub one_more : {T : Type 0} (A B Q : Endings) (us : T) (xs ys : List ℕ) (a n : ℕ) (o : Outcome (Unit {0})) → Cut xs a ys → A xs (Leaving ys) →
    ((zs : List ℕ) → A xs (Leaving ys) → B ys (Leaving zs) → Q xs (Leaving zs)) → (B ys Refusing → ⊥) → (A xs (Leaving ys) → B ys Failing → Q xs Failing) →
    EndsSo B ys (after n (λ _. us) o) → EndsSo Q xs (after (a + n) (λ _. us) o)
one_more A B Q us xs ys a n (Accept q w) c i goes none fails h = (h.0, subst (λ n. Cut xs n h.0) (omega arith) (cut_then c h.1), goes h.0 i h.2)
one_more A B Q us xs ys a n Refuse c i goes none fails h = absurd (none h)
one_more A B Q us xs ys a n (Stop (Fails z)) c i goes none fails h = fails i h
one_more A B Q us xs ys a n (Stop (Needs k)) c i goes none fails h = h
