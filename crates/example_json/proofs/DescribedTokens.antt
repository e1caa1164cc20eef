-- Parsers without parts, described: a character, a run of characters, a word, white space, the end.
use Rattle.std.specs.Prelude.{◌≡◌, ℕ, ◌==◌, ◌⊎◌, ◌↔◌, ◌++◌, Bool, true, false, if◌then◌else◌, IsTrue, List, [], ◌∷◌, Option, None, Some}
use Rattle.std.specs.Prelude.{◌<◌, ◌≤◌, ◌||◌, suc, chars, encode_utf8, encode_utf8_all, length, nat_lt}
use Rattle.std.specs.Char.{IsScalar, len_utf8}
use Rattle.std.specs.List.{All, Contains, list_all}
use Rattle.std.proofs.Common.{arith, sym, ◌∙◌, ap, refl, subst, inl, inr, append-nil, get_or}
use Rattle.std.proofs.lemmas.Bool.{and_parts, cases_lt, eq-eqb, ltb-true, ne_eqb}
use Rattle.std.proofs.lemmas.List.Elements.{All-head, All-tail}
use Rattle.std.proofs.lemmas.Str.{IsUtf8-from_ascii, chars-IsAscii, chars-append, chars-nil, encode_ascii, encodes-IsAscii, encodes-append, inside_one}
use Rattle.std.proofs.lemmas.Str.{len_utf8_bounds, length-encode}
use Rattle.std.specs.Str.{IsAscii}
use Rattle.nom_error.specs.declared.kind.ErrorKind.TheVariants as Kind
use Rattle.nom_error.specs.declared.value.Error.{Error}
use Rattle.nom_traits.specs.Classes.{is_dec_digit_code, is_hex_digit_code, is_listed, is_multispace_code}
use Rattle.nom_traits.specs.CompareTags.{text_is_bytes}
use Rattle.nom_traits.specs.Compares.{IsFound}
use Rattle.nom_traits.specs.declared.character.AsciiClass.TheVariants as Class
use Rattle.nom_internal.specs.Prelude.{Accept, ComparesText, Slice, Stops, found_not_begun, itself_form, leaf_meaning, premised, text_lawful}
use Rattle.nom_internal.specs.Prelude.{text_model}
use Rattle.nom_bytes.specs.ParsedRuns.{IsEnough, IsRunSlice, runs}
use Rattle.nom_bytes.specs.Tags.{tags}
use Rattle.nom_bytes.specs.Tests.{passing_worded}
use Rattle.nom_bytes.specs.Words.{run_worded, tag_worded}
use Rattle.nom_character.specs.ClassRuns.{IsOf}
use Rattle.nom_character.specs.Tests.{char_passing_worded, char_within_worded}
use Rattle.nom_character.specs.Words.{char_worded, class_worded, satisfy_worded}
use Rattle.nom_character_first.specs.FirstItem.{heads}
use Rattle.nom_combinator.specs.Ends.{IsEnd, plain_leaf}
use Rattle.nom_combinator.specs.Words.{eof_worded}
use Rattle.nom.specs.Texts.{Text, char_of, eof_of, one_of_of, plain_errors, tag_of}
use Rattle.nom_json_run.specs.Json.{after_all, after_byte, after_digits1, after_spaces, after_word, and_then, begins, first_is, is_plain_code, rest}
use Rattle.nom_json_run.specs.Tokens as Tokens
use Rattle.nom_json_run.proofs.Grammars.{ascii, listed_is}
use Rattle.nom_json_run.proofs.Runs.{all_stop}
use Rattle.nom_json_run.proofs.Values.{word_whole}
use Rattle.example_json.specs.Scalars.{spaces_of, token_of}
use Rattle.example_json.proofs.Described.{Cut, Described, Describes, Endings, EndsSo, Failing, Gives, Leaving, Refusing, by, cut_characters, leaf_described}
use Rattle.example_json.proofs.Described.{terminated_gives}

-- a test that says the same of all bytes above 127
abbrev IsFlat : (ℕ → Bool) → Bool → Type 0
IsFlat test v = (b : ℕ) → 128 ≤ b → test b ≡ v

high_bytes : (x : ℕ) → 128 ≤ x → (k : ℕ) → k < length (encode_utf8 x) → 128 ≤ get_or (encode_utf8 x) k 0
high_bytes x long k l = elim (cases_lt (get_or (encode_utf8 x) k 0) 128) [
  | inl short ↦ absurd (omega (arith, long, short, inside_one x [] (encode_utf8 x) k (sym (append-nil (encode_utf8 x))) l short))
  | inr h ↦ h
]

-- a character as bytes, under such a test
module _ (test : ℕ → Bool) (v : Bool) (flat : IsFlat test v) where
  first_high : (bs ys : List ℕ) → 0 < length bs → ((k : ℕ) → k < length bs → 128 ≤ get_or bs k 0) → first_is test (bs ++ ys) ≡ v
  first_high [] ys some high = absurd (omega (arith, some))
  first_high (b ∷ bs) ys some high = flat b (high 0 (omega arith))

  over_high : (bs ys : List ℕ) → v ≡ true → ((k : ℕ) → k < length bs → 128 ≤ get_or bs k 0) → after_all test (bs ++ ys) ≡ after_all test ys
  over_high [] ys e high = refl
  over_high (b ∷ bs) ys e high = ap (λ t. if t then after_all test (bs ++ ys) else b ∷ (bs ++ ys)) (flat b (high 0 (omega arith)) ∙ e)
      ∙ over_high bs ys e (λ k l. high (suc k) (omega (arith, l)))

  first_code : (x : ℕ) (ys : List ℕ) → first_is test (encode_utf8 x ++ ys) ≡ test x
  first_code x ys = elim (cases_lt x 128) [
    | inl short ↦ ap (λ l. first_is test (l ++ ys)) (encode_ascii x short)
    | inr long ↦ first_high (encode_utf8 x) ys (omega (arith, length-encode x, (len_utf8_bounds x).0)) (high_bytes x long) ∙ sym (flat x long)
  ]

  over_code : (x : ℕ) (ys : List ℕ) → test x ≡ true → after_all test (encode_utf8 x ++ ys) ≡ after_all test ys
  over_code x ys e = elim (cases_lt x 128) [
    | inl short ↦ ap (λ l. after_all test (l ++ ys)) (encode_ascii x short) ∙ ap (λ t. if t then after_all test ys else x ∷ ys) e
    | inr long ↦ over_high (encode_utf8 x) ys (sym (flat x long) ∙ e) (high_bytes x long)
  ]

-- a character that passes a test
module _ (Test : ℕ → Bool → Type 0) (test : ℕ → Bool) (flat : IsFlat test false) (is : (x : ℕ) (b : Bool) → Test x b → b ≡ test x) (lack : Option ℕ) where
  byte_left : (x : ℕ) (ys : List ℕ) → after_byte test (encode_utf8 x ++ ys) ≡ (if test x then Some ys else None)
  byte_left x ys = elim (cases_lt x 128) [
    | inl short ↦ ap (λ l. after_byte test (l ++ ys)) (encode_ascii x short)
    | inr long ↦ ap (λ t. if t then Some (rest (encode_utf8 x ++ ys)) else None) (first_code test false flat x ys ∙ flat x long)
        ∙ sym (ap (λ t. if t then Some ys else None) (flat x long))
  ]

  one_left : (i : Text) → text_model.IsKnown i → (x : ℕ) (others : List ℕ) (b : Bool) → chars i.now ≡ x ∷ others → Test x b →
      after_byte test i.now ≡ (if b then Some (encode_utf8_all others) else None)
  one_left i known x others b e h = ap (after_byte test) (sym known.2 ∙ ap encode_utf8_all e) ∙ (byte_left x (encode_utf8_all others)
      ∙ ap (λ t. if t then Some (encode_utf8_all others) else None) (sym (is x b h)))

  head_accepts : (i : Text) (n c : ℕ) → text_model.IsKnown i → (heads text_model (λ x. x) Test lack).Accepts false i n c →
      EndsSo (Gives (after_byte test)) i.now (Accept n c)
  head_accepts i n c known h = (
    encode_utf8_all h.1.rest,
    cut_characters i known n (h.0 ∷ []) h.1.rest h.1.whole (omega (arith, h.3)),
    one_left i known h.0 h.1.rest true h.1.whole h.2,
  )

  head_refuses : (i : Text) → text_model.IsKnown i → (heads text_model (λ x. x) Test lack).Refuses false i → after_byte test i.now ≡ None
  head_refuses i known (inl h) = one_left i known h.0 h.1.rest false h.1.whole h.2
  head_refuses i known (inr h) = ap (after_byte test) (sym known.2 ∙ ap encode_utf8_all h.1)

  head_described : (Runs IsSound : Type 0) {Blames : Text → Error Text → Type 0} {Grows : Type 0} →
      Describes (Gives (after_byte test)) (premised Runs IsSound (leaf_meaning Blames Grows (heads text_model (λ x. x) Test lack)))
  head_described = leaf_described (heads text_model (λ x. x) Test lack) (Gives (after_byte test)) head_accepts head_refuses

pub char_by : (c : ℕ) → c < 128 → Described (Gives (after_byte (λ b. b == c))) (char_of c)
char_by c small = by (char_worded text_model plain_errors (λ x. x) c) (head_described (λ x b. b ≡ (x == c)) (λ b. b == c)
    (λ b high. ne_eqb b c (λ e. omega (arith, e, high, small))) (λ x b e. e) (Some (len_utf8 c)) (Unit {0}) (Unit {0}))

none_listed : (set : List ℕ) → list_all (λ b. nat_lt b 128) set ≡ true → IsFlat (is_listed set) false
none_listed [] h b high = refl
none_listed (c ∷ set) h b high =
    let p = and_parts (nat_lt c 128) (list_all (λ x. nat_lt x 128) set) h in
    let small = ltb-true c 128 p.0 in
    ap (λ x. x || is_listed set b) (ne_eqb c b (λ e. omega (arith, e, high, small))) ∙ none_listed set p.1 b high

pub one_of_by : (set : List ℕ) → list_all (λ b. nat_lt b 128) set ≡ true → Described (Gives (after_byte (is_listed set))) (one_of_of set)
one_of_by set h =
    let same = chars-IsAscii set (ascii set h) in
    subst (λ xs. Described (Gives (after_byte (is_listed xs))) (one_of_of set)) same
    (by (satisfy_worded text_model plain_errors (λ x. x) Kind.OneOf (char_within_worded (λ x. x) (Contains (chars set))))
    (head_described (λ x b. IsTrue b ↔ Contains (chars set) x) (is_listed (chars set))
    (subst (λ xs. IsFlat (is_listed xs) false) (sym same) (none_listed set h)) (listed_is (chars set)) None _ _))

pub hex_by : Described (Gives (after_byte is_hex_digit_code)) (Tokens.hex_of text_model plain_errors IsScalar)
hex_by = by (satisfy_worded text_model plain_errors (λ x. x) Kind.Satisfy
    (char_passing_worded (λ x. x) IsScalar (λ _. Unit {0}) (λ c t. t ≡ is_hex_digit_code c)))
    (head_described (λ c t. t ≡ is_hex_digit_code c) is_hex_digit_code no_hex (λ x b e. e) None _ _)
  where
    no_hex : IsFlat is_hex_digit_code false
    no_hex b high = grind (arith, high)

-- a run of characters under a test
abbrev after_some : (ℕ → Bool) → List ℕ → Option (List ℕ)
after_some test xs = if first_is test xs then Some (after_all test (rest xs)) else None

module _ (test : ℕ → Bool) (v : Bool) (flat : IsFlat test v) (Test : ℕ → Bool → Type 0) (is : (x : ℕ) (b : Bool) → Test x b → b ≡ test x) where
  first_stops : (more : List ℕ) → Stops (λ x. ⊥ ⊎ Test x false) more → first_is test (encode_utf8_all more) ≡ false
  first_stops [] h = refl
  first_stops (x ∷ more) (inl h) = absurd h
  first_stops (x ∷ more) (inr h) = first_code test v flat x (encode_utf8_all more) ∙ sym (is x false h)

  run_left : (items more : List ℕ) → All (λ x. Test x true) items → Stops (λ x. ⊥ ⊎ Test x false) more →
      after_all test (encode_utf8_all (items ++ more)) ≡ encode_utf8_all more
  run_left [] more all h = all_stop test (encode_utf8_all more) (first_stops more h)
  run_left (x ∷ items) more all h =
      over_code test v flat x (encode_utf8_all (items ++ more)) (sym (is x true (All-head (λ y. Test y true) x items all)))
      ∙ run_left items more (All-tail (λ y. Test y true) x items all) h

  all_rest : (zs : List ℕ) → first_is test zs ≡ true → after_some test zs ≡ Some (after_all test zs)
  all_rest [] e = absurd (cc (e))
  all_rest (b ∷ bs) e = ap (λ t. if t then Some (after_all test bs) else None) e ∙ ap Some (sym (ap (λ t. if t then after_all test bs else b ∷ bs) e))

  some_left : (items more : List ℕ) → All (λ x. Test x true) items → Stops (λ x. ⊥ ⊎ Test x false) more → IsEnough 1 None (length items) (length more) →
      after_some test (encode_utf8_all (items ++ more)) ≡ Some (encode_utf8_all more)
  some_left [] more all h (inl few) = absurd (omega (arith, few))
  some_left [] more all h (inr few) = absurd few.0
  some_left (x ∷ items) more all h enough =
      let first = first_code test v flat x (encode_utf8_all (items ++ more)) ∙ sym (is x true (All-head (λ y. Test y true) x items all)) in
      all_rest (encode_utf8_all ((x ∷ items) ++ more)) first ∙ ap Some (run_left (x ∷ items) more all h)

  none_left : (items more : List ℕ) → Stops (λ x. ⊥ ⊎ Test x false) more → (IsEnough 1 None (length items) (length more) → ⊥) →
      after_some test (encode_utf8_all (items ++ more)) ≡ None
  none_left [] more h few = ap (λ t. if t then Some (after_all test (rest (encode_utf8_all more))) else None) (first_stops more h)
  none_left (x ∷ items) more h few = absurd (few (inl (omega arith)))

  module _ {s : Bool} (i : Text) (known : text_model.IsKnown i) {n : ℕ} {t : Slice text_model} (r : IsRunSlice text_model Test None s i n t) where
    spelled : i.now ≡ encode_utf8_all (t.items ++ r.first.rest)
    spelled = sym known.2 ∙ ap encode_utf8_all r.first.whole

    run_cut : Cut i.now n (encode_utf8_all r.first.rest)
    run_cut = cut_characters i known n t.items r.first.rest r.first.whole r.first.length_is

  run0_described : (Runs IsSound : Type 0) {Blames : Text → Error Text → Type 0} {Grows : Type 0} →
      Describes (Gives (λ xs. Some (after_all test xs))) (premised Runs IsSound (leaf_meaning Blames Grows (runs text_model Test None 0)))
  run0_described = leaf_described (runs text_model Test None 0) (Gives (λ xs. Some (after_all test xs)))
      (λ i n t known h. (
        encode_utf8_all h.0.first.rest,
        run_cut i known h.0,
        ap Some (ap (after_all test) (spelled i known h.0) ∙ run_left t.items h.0.first.rest h.0.meets h.0.stops),
      ))
      (λ i known h. absurd (h.3 (inl (omega arith))))

  run1_described : (Runs IsSound : Type 0) {Blames : Text → Error Text → Type 0} {Grows : Type 0} →
      Describes (Gives (after_some test)) (premised Runs IsSound (leaf_meaning Blames Grows (runs text_model Test None 1)))
  run1_described = leaf_described (runs text_model Test None 1) (Gives (after_some test))
      (λ i n t known h. (
        encode_utf8_all h.0.first.rest,
        run_cut i known h.0,
        ap (after_some test) (spelled i known h.0) ∙ some_left t.items h.0.first.rest h.0.meets h.0.stops h.1,
      ))
      (λ i known h. ap (after_some test) (spelled i known h.2) ∙ none_left h.1.items h.2.first.rest h.2.stops h.3)

plain_high : IsFlat is_plain_code true
plain_high b high = grind (arith, high)

no_digit : IsFlat is_dec_digit_code false
no_digit b high = grind (arith, high)

no_space : IsFlat is_multispace_code false
no_space b high = grind (arith, high)

pub plain_by : Described (Gives (λ xs. Some (after_all is_plain_code xs))) (Tokens.plain_of text_model plain_errors IsScalar)
plain_by = by (run_worded text_model (passing_worded IsScalar (λ _. Unit {0}) (λ c t. t ≡ is_plain_code c)))
    (run0_described is_plain_code true plain_high (λ c t. t ≡ is_plain_code c) (λ x b e. e) _ _)

pub digits_by : Described (Gives after_digits1) (Tokens.digits_of text_model plain_errors)
digits_by = by (class_worded text_model plain_errors (λ x. x) Class.Digit (Some Kind.Digit))
    (run1_described is_dec_digit_code false no_digit (IsOf (λ x. x) Class.Digit) (λ x b e. sym e) (Unit {0}) (Unit {0}))

pub spaces_by : Described (Gives (λ xs. Some (after_spaces xs))) spaces_of
spaces_by = by (class_worded text_model plain_errors (λ x. x) Class.MultiSpace None)
    (run0_described is_multispace_code false no_space (IsOf (λ x. x) Class.MultiSpace) (λ x b e. sym e) (Unit {0}) (Unit {0}))

-- a word of ASCII characters
word_left : (w ys : List ℕ) → after_word w (w ++ ys) ≡ Some ys
word_left [] ys = refl
word_left (c ∷ w) ys = ap (λ t. if t then after_word w (w ++ ys) else None) (eq-eqb c c refl) ∙ word_left w ys

module _ (w : List ℕ) (small : IsAscii w) where
  tag_accepts : (i : Text) (n : ℕ) (t : Slice text_model) → text_model.IsKnown i → (tags text_model length ComparesText w).Accepts false i n t →
      EndsSo (Gives (after_word w)) i.now (Accept n t)
  tag_accepts i n t known (size, first, f) =
      let whole : i.now ≡ w ++ encode_utf8_all f.rest =
      sym known.2 ∙ (ap encode_utf8_all f.whole ∙ (encodes-append f.front f.rest ∙ ap (λ zs. zs ++ encode_utf8_all f.rest) f.tag_is)) in
      (encode_utf8_all f.rest, record { front = w; whole = whole; length_is = sym size }, ap (after_word w) whole ∙ word_left w (encode_utf8_all f.rest))

  not_found : (i : Text) → text_model.IsKnown i → (o : Option (List ℕ)) → after_word w i.now ≡ o → (IsFound encode_utf8_all (λ t. t) w (chars i.now) → ⊥) →
      after_word w i.now ≡ None
  not_found i known None e f = e
  not_found i known (Some r) e f = absurd (f (record {
    front = w;
    rest = chars r;
    whole = ap chars (word_whole w i.now r e) ∙ (chars-append w r (IsUtf8-from_ascii w small) ∙ ap (λ zs. zs ++ chars r) (chars-IsAscii w small));
    tag_is = encodes-IsAscii w small;
  }))

  tag_refuses : (i : Text) → text_model.IsKnown i → (tags text_model length ComparesText w).Refuses false i → after_word w i.now ≡ None
  tag_refuses i known (inl h) = not_found i known (after_word w i.now) refl h.0
  tag_refuses i known (inr h) = not_found i known (after_word w i.now) refl
      (λ f. found_not_begun text_model text_lawful encode_utf8_all text_is_bytes (λ t. t) itself_form w (chars i.now) f h.1)

pub word_by : (w : List ℕ) → list_all (λ b. nat_lt b 128) w ≡ true → Described (Gives (after_word w)) (tag_of w)
word_by w h = by (tag_worded text_model plain_errors length ComparesText w) (leaf_described (tags text_model length ComparesText w) (Gives (after_word w))
    (tag_accepts w (ascii w h)) (tag_refuses w (ascii w h)) (Unit {0}) (Unit {0}))

-- the end
abbrev pub AtEnd : Endings
AtEnd xs (Leaving ys) = (xs ≡ []) × (ys ≡ [])
AtEnd xs Refusing = xs ≡ [] → ⊥
AtEnd xs Failing = ⊥

end_accepts : (i : Text) (n : ℕ) (t : Slice text_model) → text_model.IsKnown i → IsEnd text_model i n t → EndsSo AtEnd i.now (Accept n t)
end_accepts i n t known h =
    let none : i.now ≡ [] = sym known.2 ∙ ap encode_utf8_all h.0 in
    ([], record { front = []; whole = none; length_is = sym h.1 }, (none, refl))

pub end_by : Described AtEnd eof_of
end_by = by (eof_worded text_model plain_errors)
    (leaf_described (plain_leaf (IsEnd text_model) (λ i. chars i.now ≡ [] → ⊥)) AtEnd end_accepts
    (λ i known h none. h (ap chars none ∙ chars-nil)) (Unit {0}) (Unit {0}))

-- a character with white space after it
abbrev pub after_token : ℕ → List ℕ → Option (List ℕ)
after_token c xs = and_then (after_byte (λ b. b == c) xs) (λ ys. Some (after_spaces ys))

pub token_by : (c : ℕ) → c < 128 → Described (Gives (after_token c)) (token_of c)
token_by c small = terminated_gives (char_by c small) spaces_by

token_there : (t : Bool) (zs ys : List ℕ) → and_then (if t then Some zs else None) (λ l. Some (after_spaces l)) ≡ Some ys → (t ≡ true) × (after_spaces zs ≡ ys)
token_there true zs ys e = (refl, cc (e))
token_there false zs ys e = absurd (cc (e))

token_missing : (t : Bool) (zs : List ℕ) → and_then (if t then Some zs else None) (λ l. Some (after_spaces l)) ≡ None → t ≡ true → ⊥
token_missing true zs e h = cc (e)
token_missing false zs e h = cc (h)

pub token_left : (c : ℕ) (xs ys : List ℕ) → after_token c xs ≡ Some ys → (begins c xs ≡ true) × (after_spaces (rest xs) ≡ ys)
token_left c xs ys e = token_there (begins c xs) (rest xs) ys e

pub token_not : (c : ℕ) (xs : List ℕ) → after_token c xs ≡ None → begins c xs ≡ true → ⊥
token_not c xs e = token_missing (begins c xs) (rest xs) e
