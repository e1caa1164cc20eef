-- Parsers without parts, by what they read: a byte, a run of bytes, and a word.
use Rattle.std.specs.Prelude.{◌≡◌, ℕ, ◌+◌, ◌≤◌, ◌==◌, ◌⊎◌, ◌++◌, Bool, true, false, if◌then◌else◌, List, [], ◌∷◌, length, drop, Option, None, Some}
use Rattle.std.specs.List.{All}
use Rattle.std.proofs.Common.{arith, sym, ◌∙◌, ap, refl, subst, inl, inr, length-append}
use Rattle.std.proofs.lemmas.List.{drop-drop}
use Rattle.std.proofs.lemmas.List.Elements.{All-head, All-tail}
use Rattle.std.proofs.lemmas.Bool.{eq-eqb}
use Rattle.nom_error.specs.declared.kind.ErrorKind.TheVariants as Kind
use Rattle.nom_error.specs.declared.value.Error.{Error}
use Rattle.nom_error.specs.PlainErrors.{plain_errors}
use Rattle.nom_traits.specs.CompareTags.{bytes_are_bytes}
use Rattle.nom_traits.specs.Compares.{IsFound}
use Rattle.nom_internal.specs.Prelude.{ComparesBytes, Meaning, Slice, Stops, bytes_lawful, bytes_model, found_not_begun, items_len-ones, itself_form}
use Rattle.nom_internal.specs.Prelude.{leaf_meaning, premised}
use Rattle.nom_bytes.specs.ParsedRuns.{IsEnough, IsRunSlice, runs}
use Rattle.nom_bytes.specs.Tags.{tags}
use Rattle.nom_character_first.specs.FirstItem.{IsFirstItem, blamed, heads}
use Rattle.nom_character_first.specs.declared.first.Blame.{Blame}
use Rattle.nom_character_first.specs.declared.first.Blame.TheVariants.{OfChar, OfKind}
use Rattle.nom_json_run.specs.Scans.{BeginsAs}
use Rattle.nom_json_run.specs.Grammars.{Bytes}
use Rattle.nom_json_run.specs.Json.{after_all, after_word, begins, first_is, rest}
use Rattle.nom_json_run.proofs.Decisions.{Decides, chosen_other, if_not, led}
use Rattle.nom_json_run.proofs.Alike.{first_there, later, rest_one}
use Rattle.nom_json_run.proofs.Reading.{By, Led, Reads, Sure, leaf_reads}
use Rattle.nom_json_run.proofs.Values.{word_whole}

none_led : (test : ℕ → Bool) (next : List ℕ → Option (List ℕ)) (xs : List ℕ) → first_is test xs ≡ false → Decides (led test next) false xs 0
none_led test next xs e = chosen_other test next (λ _. None) e (record { within = omega arith; same = λ bs s. refl })

some : (test : ℕ → Bool) (xs : List ℕ) → first_is test xs ≡ true → 1 ≤ length xs
some test [] e = absurd (cc (e))
some test (x ∷ xs) e = omega arith

one_led : (test : ℕ → Bool) (xs : List ℕ) → first_is test xs ≡ true → Decides (led test Some) true xs 1
one_led test xs e = record {
  within = some test xs e;
  same = λ bs s. ap (λ t. if t then Some (rest bs) else None) (first_there test xs bs 0 1 true (omega arith) s e) ∙ ap Some (rest_one bs);
}

-- a byte that passes a test
module _ (Runs IsSound : Type 0) (Test : ℕ → Bool → Type 0) (test : ℕ → Bool) (is : (x : ℕ) (b : Bool) → Test x b → b ≡ test x) (lack : Option ℕ) where
  head_first : (i : Bytes) (x : ℕ) (b : Bool) → IsFirstItem bytes_model i x → Test x b → first_is test i.now ≡ b
  head_first i x b f h = ap (first_is test) f.whole ∙ sym (is x b h)

  head_refused : (i : Bytes) → (heads bytes_model (λ x. x) Test lack).Refuses false i → first_is test i.now ≡ false
  head_refused i (inl h) = head_first i h.0 false h.1 h.2
  head_refused i (inr h) = ap (first_is test) h.1

  head_blames : (blame : Blame) (i : Bytes) (e : Error Bytes) → blamed plain_errors blame i e → e.input ≡ i
  head_blames (OfKind c) i e x = ap (λ y. y.input) x
  head_blames (OfChar c) i e x = ap (λ y. y.input) x

  pub head_reads : (blame : Blame) →
      Reads (Led test Some) 1 (premised Runs IsSound (leaf_meaning (blamed plain_errors blame) ⊥ (heads bytes_model (λ x. x) Test lack)))
  head_reads blame = leaf_reads Runs IsSound (heads bytes_model (λ x. x) Test lack) (blamed plain_errors blame) (Led test Some)
      (λ i n v h. subst (λ m. (1 ≤ m) × Decides (led test Some) true i.now m) (sym h.3) (omega arith, one_led test i.now (head_first i h.0 true h.1 h.2)))
      (λ i h. let e = head_refused i h in (e, none_led test Some i.now e)) (head_blames blame)

-- a run of bytes under a test
pub all_stop : (test : ℕ → Bool) (xs : List ℕ) → first_is test xs ≡ false → after_all test xs ≡ xs
all_stop test [] e = refl
all_stop test (b ∷ bs) e = ap (λ t. if t then after_all test bs else b ∷ bs) e

all_on : (test : ℕ → Bool) (xs : List ℕ) → first_is test xs ≡ true → after_all test xs ≡ after_all test (drop 1 xs)
all_on test [] e = absurd (cc (e))
all_on test (b ∷ bs) e = ap (λ t. if t then after_all test bs else b ∷ bs) e

all_led : (test : ℕ → Bool) (xs : List ℕ) (n : ℕ) → first_is test xs ≡ true → Decides (λ bs. Some (after_all test bs)) true xs n →
    Decides (led test (λ bs. Some (after_all test bs))) true xs n
all_led test xs n e h = record {
  within = h.within;
  same = λ bs s.
      let le : 0 ≤ n = omega arith in
      let f = first_there test xs bs 0 n true le s e in
      ap (λ t. if t then Some (after_all test (rest bs)) else None) f
      ∙ (ap (λ cs. Some (after_all test cs)) (rest_one bs) ∙ (ap Some (sym (all_on test bs f)) ∙ h.same bs s));
}

module _ (test : ℕ → Bool) (Test : ℕ → Bool → Type 0) (is : (x : ℕ) (b : Bool) → Test x b → b ≡ test x) where
  ends_first : (more : List ℕ) → Stops (λ x. ⊥ ⊎ Test x false) more → first_is test more ≡ false
  ends_first [] h = refl
  ends_first (x ∷ more) (inl h) = absurd h
  ends_first (x ∷ more) (inr h) = sym (is x false h)

  run_left : (items more bs : List ℕ) → All (λ x. Test x true) items → Stops (λ x. ⊥ ⊎ Test x false) more → BeginsAs (items ++ more) (length items) bs →
      after_all test bs ≡ drop (length items) bs
  run_left [] more bs all ends s = all_stop test bs (first_there test more bs 0 0 false (omega arith) s (ends_first more ends))
  run_left (x ∷ xs) more bs all ends s =
      let e : length (x ∷ xs) ≡ 1 + length xs = omega arith in
      let whole = (x ∷ xs) ++ more in
      let s' = subst (λ n. BeginsAs whole n bs) e s in
      let le : 0 ≤ length (x ∷ xs) = omega arith in
      let first = first_there test whole bs 0 (length (x ∷ xs)) true le s (sym (is x true (All-head (λ y. Test y true) x xs all))) in
      let others = run_left xs more (drop 1 bs) (All-tail (λ y. Test y true) x xs all) ends (later whole bs 1 (length xs) s') in
      all_on test bs first ∙ (others ∙ (drop-drop (length xs) 1 bs ∙ ap (λ n. drop n bs) (sym e)))

  run_decides : (i : Bytes) (n : ℕ) (t : Slice bytes_model) → IsRunSlice bytes_model Test None false i n t →
      Decides (λ bs. Some (after_all test bs)) true i.now n
  run_decides i n t r =
      let size = sym (items_len-ones t.items) ∙ r.first.length_is in
      subst (λ xs. Decides (λ bs. Some (after_all test bs)) true xs n) (sym r.first.whole)
      (subst (Decides (λ bs. Some (after_all test bs)) true (t.items ++ r.first.rest)) size (record {
        within = omega (arith, length-append t.items r.first.rest);
        same = λ bs s. ap Some (run_left t.items r.first.rest bs r.meets r.stops s);
      }))

  run_first : (items more : List ℕ) → All (λ x. Test x true) items → 1 ≤ length items → first_is test (items ++ more) ≡ true
  run_first [] more all le = absurd (omega (arith, le))
  run_first (x ∷ items) more all le = sym (is x true (All-head (λ y. Test y true) x items all))

  run_none : (items more : List ℕ) → (IsEnough 1 None (length items) (length more) → ⊥) → Stops (λ x. ⊥ ⊎ Test x false) more →
      first_is test (items ++ more) ≡ false
  run_none [] more few ends = ends_first more ends
  run_none (x ∷ items) more few ends = absurd (few (inl (omega arith)))

  enough : (items more : List ℕ) → IsEnough 1 None (length items) (length more) → 1 ≤ length items
  enough items more (inl h) = h
  enough items more (inr h) = absurd h.0

  module _ (Runs IsSound : Type 0) (Blames : Bytes → Error Bytes → Type 0) (here : (i : Bytes) (e : Error Bytes) → Blames i e → e.input ≡ i) where
    pub run0_reads : Reads (Sure (λ bs. Some (after_all test bs))) 0 (premised Runs IsSound (leaf_meaning Blames ⊥ (runs bytes_model Test None 0)))
    run0_reads = leaf_reads Runs IsSound (runs bytes_model Test None 0) Blames (Sure (λ bs. Some (after_all test bs)))
        (λ i n t h. (omega arith, run_decides i n t h.0)) (λ i h. absurd (h.3 (inl (omega arith)))) here

    run1_accepted : (i : Bytes) (n : ℕ) (t : Slice bytes_model) → (runs bytes_model Test None 1).Accepts false i n t →
        (1 ≤ n) × Decides (led test (λ bs. Some (after_all test bs))) true i.now n
    run1_accepted i n t h =
        let size = sym (items_len-ones t.items) ∙ h.0.first.length_is in
        let some = enough t.items h.0.first.rest h.1 in (
          omega (arith, some, size),
          all_led test i.now n (ap (first_is test) h.0.first.whole ∙ run_first t.items h.0.first.rest h.0.meets some)
              (run_decides i n t h.0),
        )

    pub run1_reads : Reads (Led test (λ bs. Some (after_all test bs))) 1 (premised Runs IsSound (leaf_meaning Blames ⊥ (runs bytes_model Test None 1)))
    run1_reads = leaf_reads Runs IsSound (runs bytes_model Test None 1) Blames (Led test (λ bs. Some (after_all test bs))) run1_accepted
        (λ i h.
        let e = ap (first_is test) h.2.first.whole ∙ run_none h.1.items h.2.first.rest h.3 h.2.stops in
        (e, none_led test (λ bs. Some (after_all test bs)) i.now e)) here

-- words
word_left : (w more bs : List ℕ) → BeginsAs (w ++ more) (length w) bs → after_word w bs ≡ Some (drop (length w) bs)
word_left [] more bs s = refl
word_left (c ∷ w) more bs s =
    let e : length (c ∷ w) ≡ 1 + length w = omega arith in
    let whole = (c ∷ w) ++ more in
    let le : 0 ≤ length (c ∷ w) = omega arith in
    let s' = subst (λ n. BeginsAs whole n bs) e s in
    ap (λ t. if t then after_word w (rest bs) else None) (first_there (λ b. b == c) whole bs 0 (length (c ∷ w)) true le s (eq-eqb c c refl))
    ∙ (ap (after_word w) (rest_one bs) ∙ (word_left w more (drop 1 bs) (later whole bs 1 (length w) s')
    ∙ ap Some (drop-drop (length w) 1 bs ∙ ap (λ n. drop n bs) (sym e))))

not_found : (w xs : List ℕ) (o : Option (List ℕ)) → after_word w xs ≡ o → (IsFound (λ ys. ys) (λ t. t) w xs → ⊥) → after_word w xs ≡ None
not_found w xs None e f = e
not_found w xs (Some r) e f = absurd (f (record { front = w; rest = r; whole = word_whole w xs r e; tag_is = refl }))

-- Where a word ends; and where it isn't, which one byte doesn't tell.
abbrev pub Worded : List ℕ → Bool → List ℕ → ℕ → Type 0
Worded w true xs n = Decides (after_word w) true xs n
Worded w false xs n = (after_word w xs ≡ None) × (n ≡ 0)

pub worded_within : (w : List ℕ) (t : Bool) (xs : List ℕ) (n : ℕ) → Worded w t xs n → n ≤ length xs
worded_within w true xs n h = h.within
worded_within w false xs n h = omega (arith, h.1)

module _ (w : List ℕ) where
  tag_refused : (i : Bytes) → (tags bytes_model length ComparesBytes w).Refuses false i → after_word w i.now ≡ None
  tag_refused i (inl h) = not_found w i.now (after_word w i.now) refl h.0
  tag_refused i (inr h) = not_found w i.now (after_word w i.now) refl
      (λ f. found_not_begun bytes_model bytes_lawful (λ xs. xs) bytes_are_bytes (λ t. t) itself_form w i.now f h.1)

  tag_accepted : (i : Bytes) (n : ℕ) (t : Slice bytes_model) → (tags bytes_model length ComparesBytes w).Accepts false i n t →
      (length w ≤ n) × Decides (after_word w) true i.now n
  tag_accepted i n t h =
      let f = h.2 in
      let e = f.whole ∙ ap (λ ys. ys ++ f.rest) f.tag_is in
      subst (λ m. (length w ≤ m) × Decides (after_word w) true i.now m) (sym h.0) (
        omega arith,
        subst (λ xs. Decides (after_word w) true xs (length w)) (sym e) (record {
          within = omega (arith, length-append w f.rest);
          same = λ bs s. word_left w f.rest bs s;
        }),
      )

  abbrev pub tag_at : Meaning Bytes (Slice bytes_model) (Error Bytes)
  tag_at = leaf_meaning (λ i. plain_errors.of_kind i Kind.Tag) ⊥ (tags bytes_model length ComparesBytes w)

  pub tag_reads : Reads (By (Worded w)) (length w) tag_at
  tag_reads = leaf_reads (Unit {0}) (Unit {0}) (tags bytes_model length ComparesBytes w) (λ i. plain_errors.of_kind i Kind.Tag) (By (Worded w)) tag_accepted
      (λ i h. (tt, (tag_refused i h, refl))) (λ i e x. ap (λ y. y.input) x)

-- a word of one byte
pub letter_reads : (c : ℕ) → Reads (Led (λ b. b == c) Some) 1 (tag_at (c ∷ []))
letter_reads c = leaf_reads (Unit {0}) (Unit {0}) (tags bytes_model length ComparesBytes (c ∷ [])) (λ i. plain_errors.of_kind i Kind.Tag)
    (Led (λ b. b == c) Some) (tag_accepted (c ∷ []))
    (λ i h. let e = if_not (begins c i.now) (rest i.now) (tag_refused (c ∷ []) i h) in (e, none_led (λ b. b == c) Some i.now e))
    (λ i e x. ap (λ y. y.input) x)
