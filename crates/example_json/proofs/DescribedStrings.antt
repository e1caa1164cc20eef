-- Strings, described.
use Rattle.std.specs.Prelude.{◌≡◌, ℕ, zero, suc, ◌+◌, ◌==◌, ◌<◌, ◌≤◌, ◌↔◌, Bool, true, false, ltb, if◌then◌else◌, List, [], ◌∷◌, Option, None, Some}
use Rattle.std.specs.Prelude.{codes, length}
use Rattle.std.specs.Char.{IsScalar}
use Rattle.std.proofs.Common.{arith, sym, ◌∙◌, ap, refl, subst, inl}
use Rattle.std.proofs.lemmas.Bool.{le-ltb}
use Rattle.nom_error.specs.declared.kind.ErrorKind.TheVariants as Kind
use Rattle.nom_error.specs.declared.value.Error.{Error}
use Rattle.nom_traits.specs.Classes.{is_hex_digit_code, is_listed}
use Rattle.nom_internal.specs.Prelude.{Accept, Fails, Meaning, Needs, Outcome, Passes, Refuse, Stop, after, text_model}
use Rattle.nom_multi_fold.specs.Words.{many0_count_worded}
use Rattle.nom_repeat.specs.Bounds.{any_limits}
use Rattle.nom_repeat.specs.Items.{item_turn, items_meaning, refused_turn}
use Rattle.nom_repeat.specs.Repeat.{Pieces, Replies, Turn, TurnsBy}
use Rattle.nom_repeat.specs.Repeat.Turn.{Ends, Takes}
use Rattle.nom.specs.Texts.{Text, plain_errors}
use Rattle.nom_json_run.specs.Json.{JsonCharacters, after_all, after_byte, after_escape, after_hex, after_spaces, and_then, begins, first_is}
use Rattle.nom_json_run.specs.Json.{is_plain_code, rest}
use Rattle.nom_json_run.specs.Json.JsonCharacters.{close, plain, escape}
use Rattle.nom_json_run.specs.Json.JsonValue.{text}
use Rattle.nom_json_run.specs.Scans.{SameEnds}
use Rattle.nom_json_run.specs.Tokens as Tokens
use Rattle.nom_json_run.proofs.Alike.{both}
use Rattle.nom_json_run.proofs.Decisions.{if_not, led}
use Rattle.nom_json_run.proofs.Grammars.{and_some, dropped_is}
use Rattle.nom_json_run.proofs.Strings.{after_piece, after_plain, close_to, piece_left, piece_same, plains, some_is, stops_first}
use Rattle.nom_json_run.proofs.Values.{differ, head_is, text_same}
use Rattle.example_json.specs.Json.{string_of}
use Rattle.example_json.specs.Scalars.{characters_of, text_of, uncut}
use Rattle.example_json.proofs.Described.{After, Cut, Described, Describes, Ending, Endings, EndsSo, Failing, Gives, Leaving, Refusing, alt_by, by, cut_none}
use Rattle.example_json.proofs.Described.{TurnSays, cut_rest, ended, one_more, like_described, map_by, one_cut, or_else, or_gives, pair_by, pair_gives}
use Rattle.example_json.proofs.Described.{preceded_gives, recognize_by, same_gives, terminated_gives, tuple_by}
use Rattle.example_json.proofs.DescribedScalars.{Branch, then_some}
use Rattle.example_json.proofs.DescribedTokens.{char_by, hex_by, one_of_by, plain_by, spaces_by}

-- an escape, and the plain characters after it
abbrev is_letter : ℕ → Bool
is_letter = is_listed (codes "\"\\/bfnrt")

else_none : (p o : Option (List ℕ)) → o ≡ None → p ≡ or_else p o
else_none (Some xs) o e = refl
else_none None o e = sym e

long_or : (t : Bool) (zs : List ℕ) (f : After) (o : Option (List ℕ)) → (t ≡ true → o ≡ None) →
    (if t then f zs else o) ≡ or_else (and_then (if t then Some zs else None) f) o
long_or true zs f o n = else_none (f zs) o (n refl)
long_or false zs f o n = refl

no_letter : (xs : List ℕ) → begins 117 xs ≡ true → after_byte is_letter xs ≡ None
no_letter xs h = subst (λ ys. after_byte is_letter ys ≡ None) (sym (head_is 117 xs h)) refl

escape_same : (xs : List ℕ) → after_escape xs ≡ or_else (and_then (after_byte (λ b. b == 117) xs) (after_hex 4)) (after_byte is_letter xs)
escape_same xs = long_or (begins 117 xs) (rest xs) (after_hex 4) (after_byte is_letter xs) (no_letter xs)

piece_or : (t : Bool) (zs : List ℕ) (f : After) → (if t then and_then (f zs) after_plain else None) ≡
    and_then (and_then (if t then Some zs else None) f) after_plain
piece_or true zs f = refl
piece_or false zs f = refl

abbrev piece : After
piece = led (λ b. b == 92) after_piece

escape_by : Described (Gives (λ xs. and_then (after_byte (λ b. b == 92) xs) after_escape)) (Tokens.escape_of text_model plain_errors uncut IsScalar)
escape_by =
    let last = same_gives hex_by (λ bs. and_some (after_byte is_hex_digit_code bs)) in
    let long = terminated_gives (char_by 117 (omega arith)) (tuple_by (pair_gives hex_by (pair_gives hex_by (pair_gives hex_by last))) _) in
    preceded_gives (char_by 92 (omega arith)) (alt_by (same_gives (or_gives long (one_of_by (codes "\"\\/bfnrt") refl)) escape_same))

-- what is left of it is shorter
all_shorter : (test : ℕ → Bool) (xs : List ℕ) → length (after_all test xs) ≤ length xs
all_shorter test [] = omega arith
all_shorter test (b ∷ bs) = one (test b) (all_shorter test bs) where
  one : (t : Bool) → length (after_all test bs) ≤ length bs → length (if t then after_all test bs else b ∷ bs) ≤ length (b ∷ bs)
  one true le = omega (arith, le)
  one false le = omega arith

byte_shorter : (test : ℕ → Bool) (xs ys : List ℕ) → after_byte test xs ≡ Some ys → length ys ≤ length xs
byte_shorter test [] ys e = absurd (cc (e))
byte_shorter test (b ∷ bs) ys e = one (test b) e where
  one : (t : Bool) → (if t then Some bs else None) ≡ Some ys → length ys ≤ length (b ∷ bs)
  one true f = omega (arith, ap length (some_is bs ys f))
  one false f = absurd (cc (f))

hex_shorter : (n : ℕ) (xs ys : List ℕ) → after_hex n xs ≡ Some ys → length ys ≤ length xs
hex_shorter zero xs ys e = omega (arith, ap length (some_is xs ys e))
hex_shorter (suc n) xs ys e =
    let k = then_some (after_byte is_hex_digit_code xs) (after_hex n) ys e in
    omega (arith, byte_shorter is_hex_digit_code xs k.0 k.1, hex_shorter n k.0 ys k.2)

rest_shorter : (xs : List ℕ) → length (rest xs) ≤ length xs
rest_shorter [] = omega arith
rest_shorter (b ∷ bs) = omega arith

escape_shorter : (t : Bool) (xs ys : List ℕ) → (if t then after_hex 4 (rest xs) else after_byte is_letter xs) ≡ Some ys → length ys ≤ length xs
escape_shorter true xs ys e = omega (arith, hex_shorter 4 (rest xs) ys e, rest_shorter xs)
escape_shorter false xs ys e = byte_shorter is_letter xs ys e

piece_shorter : (xs ys : List ℕ) → piece xs ≡ Some ys → length ys < length xs
piece_shorter xs ys e =
    let f = piece_left xs ys e in
    let le = escape_shorter (begins 117 (rest xs)) (rest xs) f.1.0 f.1.1 in
    omega (arith, le, ap length f.1.2, all_shorter is_plain_code f.1.0, ap length (head_is 92 xs f.0))

-- Characters that are read, up to where no plain one stands, and no escape.
pub record Run (xs ys : List ℕ) : Type 0 where
  pub same : SameEnds (JsonCharacters xs) (JsonCharacters ys)
  pub no_plain : first_is is_plain_code xs ≡ false → first_is is_plain_code ys ≡ false
  pub no_piece : piece ys ≡ None

abbrev Runs : Endings
Runs xs (Leaving ys) = Run xs ys
Runs xs Refusing = ⊥
Runs xs Failing = ⊥

module _ {V : Type 0} {m : Meaning Text V (Error Text)} (d : Describes (Gives piece) m) where
  abbrev Turns : ℕ → Text → Turn V (Unit {0}) → Type 0
  Turns = TurnsBy None (item_turn (any_limits Kind.Many0Count)) (λ _. m.answers false)

  not_empty : (xs ys : List ℕ) → Cut xs 0 ys → piece xs ≡ Some ys → ⊥
  not_empty xs ys c e = omega (arith, piece_shorter xs ys e, ap length (one_cut c (cut_none xs)))

  turn_says : (k : ℕ) (i : Text) (x : Option (Outcome V)) → text_model.IsKnown i → Replies None (λ _. m.answers false) k i x →
      TurnSays (Gives piece) i.now (item_turn (any_limits Kind.Many0Count) k x)
  turn_says k i (Some (Accept zero v)) known h =
      let s = d.ends i (Accept 0 v) known h.1 in
      absurd (not_empty i.now s.0 s.1 s.2)
  turn_says k i (Some (Accept (suc n) v)) known h = d.ends i (Accept (suc n) v) known h.1
  turn_says k i (Some Refuse) known h =
      let none : ltb k 0 ≡ false = le-ltb k 0 (omega arith) in
      subst (λ t. TurnSays {V = V} (Gives piece) i.now (refused_turn t)) (sym none) (refl, d.ends i Refuse known h.1)
  turn_says k i (Some (Stop (Fails c))) known h = absurd (d.ends i (Stop (Fails c)) known h.1)
  turn_says k i (Some (Stop (Needs n))) known h = absurd (d.ends i (Stop (Needs n)) known h.1)
  turn_says k i None known h = absurd (h tt)

  says : (k : ℕ) (i : Text) (t : Turn V (Unit {0})) → text_model.IsKnown i → Turns k i t → TurnSays (Gives piece) i.now t
  says k i t known h = subst (TurnSays (Gives piece) i.now) (sym h.fact) (turn_says k i h.reply known h.replied)

  at_end : (xs : List ℕ) → piece xs ≡ None → Run xs xs
  at_end xs e = record { same = λ r. (λ s. s, λ s. s); no_plain = λ p. p; no_piece = e }

  past_piece : (xs ys zs : List ℕ) → piece xs ≡ Some ys → Run ys zs → Run xs zs
  past_piece xs ys zs e run =
      let f = piece_left xs ys e in
      let stopped : first_is is_plain_code ys ≡ false = ap (first_is is_plain_code) (sym f.1.2) ∙ stops_first is_plain_code f.1.0 in
      record { same = λ r. both (piece_same xs ys e r) (run.same r); no_plain = λ _. run.no_plain stopped; no_piece = run.no_piece }

  runs : (us : List V) (o : Outcome (Unit {0})) (k : ℕ) (i : Text) → text_model.IsKnown i → (vs : List V) (n : ℕ) →
      Pieces text_model Turns (λ k j. Turns k j (Ends o)) k i vs n → EndsSo Runs i.now (after n (λ _. us) o)
  runs us o k i known [] n p =
      subst (λ n. EndsSo Runs i.now (after n (λ _. us) o)) (sym p.0)
      (ended V (Gives piece) Runs us i.now o (at_end i.now) (λ f. f) (says k i (Ends o) known p.1))
  runs us o k i known (v ∷ vs) n (a, l, j, t, s, p, e) =
      let h = says k i (Takes a v) known t in
      let there = one_cut h.1 (cut_rest known s) in
      subst (λ n. EndsSo Runs i.now (after n (λ _. us) o)) (sym e) (one_more (Gives piece) Runs Runs us i.now j.now a l o (cut_rest known s)
      (subst (λ ys. piece i.now ≡ Some ys) there h.2) (λ zs. past_piece i.now j.now zs) (λ x. x) (λ _ f. f) (runs us o (k + 1) j s.known vs l p))

  many_described : Describes Runs (items_meaning text_model plain_errors (any_limits Kind.Many0Count) ⊥ m)
  many_described = record {
    ends = λ i o known h. subst (EndsSo Runs i.now) (sym h.outcome_is) (runs h.trees h.ending 0 i known h.trees h.taken h.pieces);
  }

piece_same_as : (xs : List ℕ) → piece xs ≡ and_then (and_then (after_byte (λ b. b == 92) xs) after_escape) after_plain
piece_same_as xs = piece_or (begins 92 xs) (rest xs) after_escape

escapes_by : Described Runs (Tokens.escapes_of text_model plain_errors uncut IsScalar)
escapes_by = by (many0_count_worded text_model plain_errors refl) (many_described (like_described
    (same_gives (terminated_gives escape_by plain_by) piece_same_as).meant (λ _. false) (λ i. Passes (λ n v o. o ≡ Accept n v)) (λ i. dropped_is)))

-- all of them
abbrev Characters : Endings
Characters xs (Leaving ys) = SameEnds (JsonCharacters xs) (JsonCharacters ys) × (first_is is_plain_code ys ≡ false) × (piece ys ≡ None)
Characters xs Refusing = ⊥
Characters xs Failing = ⊥

from_plain : (xs ys : List ℕ) (e : Ending) → Some (after_all is_plain_code xs) ≡ Some ys → Runs ys e → Characters xs e
from_plain xs ys (Leaving zs) p run =
    let same = some_is (after_all is_plain_code xs) ys p in (
      λ r. both (subst (λ l. JsonCharacters xs r ↔ JsonCharacters l r) same (plains xs r)) (run.same r),
      run.no_plain (ap (first_is is_plain_code) (sym same) ∙ stops_first is_plain_code xs),
      run.no_piece,
    )
from_plain xs ys Refusing p h = h
from_plain xs ys Failing p h = h

characters_by : Described Characters characters_of
characters_by = recognize_by (pair_by Characters plain_by escapes_by from_plain (λ xs e. cc (e)) (λ xs h. h))

-- A part that ends at one place alone, or at none.
abbrev pub Alone : (List ℕ → List ℕ → Type 0) → Endings
Alone Part xs (Leaving ys) = Part xs ys × ((r : List ℕ) → Part xs r → r ≡ ys)
Alone Part xs Refusing = (r : List ℕ) → Part xs r → ⊥
Alone Part xs Failing = ⊥

escape_piece : (xs j : List ℕ) → begins 92 xs ≡ true → after_escape (rest xs) ≡ Some j → piece xs ≡ None → ⊥
escape_piece xs j b e n =
    let some : piece xs ≡ Some (after_all is_plain_code j) =
    ap (λ t. if t then after_piece (rest xs) else None) b ∙ ap (λ o. and_then o after_plain) e in
    cc (n, some)

unclosed : (xs r : List ℕ) → first_is is_plain_code xs ≡ false → piece xs ≡ None → begins 34 xs ≡ false → JsonCharacters xs r → ⊥
unclosed xs r p n q (close e f) = differ (begins 34 xs) e q
unclosed xs r p n q (plain e h) = differ (first_is is_plain_code xs) e p
unclosed xs r p n q (escape j e f h) = escape_piece xs j e f n

quote_at : (t : Bool) (xs ys : List ℕ) → (if t then Some xs else None) ≡ Some ys → (t ≡ true) × (xs ≡ ys)
quote_at true xs ys e = (refl, some_is xs ys e)
quote_at false xs ys e = absurd (cc (e))

closes : (xs ys : List ℕ) (e : Ending) → Characters xs (Leaving ys) → Gives (after_byte (λ b. b == 34)) ys e → Alone JsonCharacters xs e
closes xs ys (Leaving zs) c h =
    let q = quote_at (begins 34 ys) (rest ys) zs h in
    ((c.0 zs).1 (close q.0 (sym q.1)), λ r s. close_to ys r q.0 ((c.0 r).0 s) ∙ q.1)
closes xs ys Refusing c h = λ r s. unclosed ys r c.1 c.2 (if_not (begins 34 ys) (rest ys) h) ((c.0 r).0 s)
closes xs ys Failing c h = h

-- a string without the white space after it
abbrev pub Quoted : List ℕ → List ℕ → Type 0
Quoted xs ys = (begins 34 xs ≡ true) × JsonCharacters (rest xs) ys

opens : (xs ys : List ℕ) (e : Ending) → Gives (after_byte (λ b. b == 34)) xs (Leaving ys) → Alone JsonCharacters ys e → Alone Quoted xs e
opens xs ys (Leaving zs) h c =
    let q = quote_at (begins 34 xs) (rest xs) ys h in
    ((q.0, subst (λ l. JsonCharacters l zs) (sym q.1) c.0), λ r s. c.1 r (subst (λ l. JsonCharacters l r) q.1 s.1))
opens xs ys Refusing h c = λ r s.
    let q = quote_at (begins 34 xs) (rest xs) ys h in
    c r (subst (λ l. JsonCharacters l r) q.1 s.1)
opens xs ys Failing h c = c

pub text_described : Described (Alone Quoted) text_of
text_described =
    let inside = pair_by (Alone JsonCharacters) characters_by (char_by 34 (omega arith)) closes (λ xs h. absurd h) (λ xs h. h) in
    map_by (tuple_by (pair_by (Alone Quoted) (char_by 34 (omega arith)) inside opens
    (λ xs h r s. differ (begins 34 xs) s.0 (if_not (begins 34 xs) (rest xs) h)) (λ xs h. h)) _) _

-- as a value
text_branch : (d : ℕ) (xs ys : List ℕ) (e : Ending) → Alone Quoted xs (Leaving ys) → Gives (λ zs. Some (after_spaces zs)) ys e → Branch (λ b. b == 34) d xs e
text_branch d xs ys (Leaving zs) q h = record {
  starts = q.0.0;
  found = inl (text (q.0.0, (ys, q.0.1, sym (some_is (after_spaces ys) zs h))), omega arith);
  only = λ r v. let t = (text_same xs q.0.0 r).0 v in t.1.2 ∙ (ap after_spaces (q.1 t.1.0 (t.0, t.1.1)) ∙ some_is (after_spaces ys) zs h);
}
text_branch d xs ys Refusing q h = absurd (cc (h))
text_branch d xs ys Failing q h = absurd h

pub string_described : (d : ℕ) → Described (Branch (λ b. b == 34) d) string_of
string_described d = map_by (tuple_by (pair_by (Branch (λ b. b == 34) d) text_described spaces_by (text_branch d)
    (λ xs h s r v. let t = (text_same xs s r).0 v in h t.1.0 (t.0, t.1.1)) (λ xs h. absurd h)) _) _
