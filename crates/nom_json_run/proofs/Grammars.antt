-- Lemmas on words of grammars over bytes, by what they read; so the grammars of numbers and of strings.
use Rattle.std.specs.Prelude.{◌≡◌, ℕ, ◌+◌, ◌≤◌, ◌↔◌, ◌==◌, ◌<◌, Bool, true, false, if◌then◌else◌, List, [], ◌∷◌, Option, None, Some, IsTrue}
use Rattle.std.specs.Prelude.{chars, codes, length, nat_lt, slice_index_or}
use Rattle.std.specs.Char.{len_utf8}
use Rattle.std.specs.List.{Contains, list_all}
use Rattle.std.proofs.Common.{sym, refl, subst, ap, arith, inl, inr}
use Rattle.std.proofs.lemmas.Bool.{ltb-true}
use Rattle.std.proofs.lemmas.List.Sums.{AllPass-from_list_all}
use Rattle.std.proofs.lemmas.Str.{chars-IsAscii}
use Rattle.std.proofs.lemmas.Str.Ascii.{IsAscii-from_all}
use Rattle.std.specs.Str.{IsAscii}
use Rattle.nom_error.specs.PlainErrors.{plain_errors}
use Rattle.nom_error.specs.declared.kind.ErrorKind.TheVariants as Kind
use Rattle.nom_error.specs.declared.value.Error.{Error}
use Rattle.nom_traits.specs.Classes.{is_dec_digit_code, is_hex_digit_code, is_listed, is_multispace_code}
use Rattle.nom_traits.specs.declared.character.AsciiClass.TheVariants as Class
use Rattle.nom_internal.specs.Prelude.{Accept, ComparesBytes, Grammar, IsSliced, Model, Outcome, Passes, Refuse, Slice, Stop, bytes_model, labelled}
use Rattle.nom_internal.specs.Prelude.{with_outputs}
use Rattle.nom_internal.specs.TupleWords.{tuple_of_four}
use Rattle.nom_internal.specs.Word.{word}
use Rattle.nom_internal.specs.Words.{pair_of, pair_worded, tuple_of, tuple_worded}
use Rattle.nom_bytes.specs.Tests.{passing_worded}
use Rattle.nom_bytes.specs.Words.{run_worded, tag_worded}
use Rattle.nom_branch.specs.Words.{alt_of, alt_worded, or_of, or_worded}
use Rattle.nom_character.specs.ClassRuns.{IsOf}
use Rattle.nom_character.specs.Tests.{char_passing_worded, char_within_worded}
use Rattle.nom_character.specs.Words.{char_worded, class_worded, satisfy_worded}
use Rattle.nom_character_first.specs.declared.first.Blame.TheVariants.{OfChar, OfKind}
use Rattle.nom_combinator.specs.Words.{cut_of, cut_worded, opt_of, opt_worded, recognize_of, recognize_worded}
use Rattle.nom_multi_fold.specs.Words.{many0_count_of, many0_count_worded}
use Rattle.nom_search.proofs.Tokens.{contained, containing}
use Rattle.nom_sequence.specs.Words.{preceded_of, preceded_worded, terminated_of, terminated_worded}
use Rattle.nom_json_run.specs.Grammars.{Bytes, BytesWord, char_of, digits_of, escape_of, exponent_of, hex_of, number_of, one_of, plain_of, spaces_of}
use Rattle.nom_json_run.specs.Grammars.{string_of, tag_of}
use Rattle.nom_json_run.specs.Json.{JsonCharacters, after_all, after_byte, after_digits1, after_escape, after_exponent, after_fraction}
use Rattle.nom_json_run.specs.Json.{after_hex, after_number, after_unsigned, and_then, first_is, is_plain_code, rest}
use Rattle.nom_json_run.proofs.Decisions.{Decides, Finds, choose, decides_as, led}
use Rattle.nom_json_run.proofs.Escapes.{Escaped, many_reads}
use Rattle.nom_json_run.proofs.Reading.{After, Any, By, Led, Part, Reads, Sure, built_reads, closed_reads, cut_reads, either_reads, like_reads, opt_reads}
use Rattle.nom_json_run.proofs.Reading.{reads_as, sequence_leads, sequence_reads, then_reads}
use Rattle.nom_json_run.proofs.Runs.{Worded, head_reads, letter_reads, run0_reads, run1_reads, tag_reads}
use Rattle.nom_json_run.proofs.Strings.{after_piece, after_plain, passes_finds, plain_past, quote_finds}

pub record ReadsBy {O : Type 0} (p : Part) (k : ℕ) (h : BytesWord O) : Type 0 where
  pub meant : Reads p k h.grammar.meaning

by : {O V : Type 0} {p : Part} {k : ℕ} {h : BytesWord O} {g : Grammar Bytes V O (Error Bytes)} → h ≡ word g → Reads p k g.meaning → ReadsBy p k h
by {p = p} {k} e r = subst (ReadsBy p k) (sym e) (record { meant = r })

-- parts of parts
pub sliced_is : {I A P : Type 0} (w : Model I A) (i : I) (a : Outcome P) (o : Outcome (Slice w)) → Passes (λ n u o. IsSliced w i n o) a o →
    (f : P → Slice w) × (o ≡ labelled f a)
sliced_is w i (Accept n u) o h = (λ _. h.0, h.2)
sliced_is w i Refuse o h = (λ _. record { items = []; mark = w.mark i }, h)
sliced_is w i (Stop why) o h = (λ _. record { items = []; mark = w.mark i }, h)

module _ {O : Type 0} {k : ℕ} {g : BytesWord O} where
  as_any : {f e : After} → ((bs : List ℕ) → e bs ≡ f bs) → ReadsBy (Any f) k g → ReadsBy (Any e) k g
  as_any {f} {e} same a = record { meant = reads_as a.meant (Any e) k (omega arith) (λ t xs n h. decides_as same h) (λ s xs h. tt) }

  sure_any : {f : After} → ReadsBy (Sure f) k g → ReadsBy (Any f) k g
  sure_any {f} a = record { meant = reads_as a.meant (Any f) k (omega arith) (λ t xs n h. h) (λ s xs e. tt) }

  led_any : {test : ℕ → Bool} {next : After} → ReadsBy (Led test next) k g → ReadsBy (Any (led test next)) k g
  led_any {test} {next} a = record { meant = reads_as a.meant (Any (led test next)) k (omega arith) (λ t xs n h. h) (λ s xs e. tt) }

  pub cut_by : {f : After} → ReadsBy (Any f) k g → ReadsBy (Sure f) k (cut_of g)
  cut_by a = by (cut_worded refl) (cut_reads a.meant)

  pub opt_by : {test : ℕ → Bool} {next : After} → ReadsBy (Led test next) k g → ReadsBy (Sure (choose test next Some)) 0 (opt_of g)
  opt_by a = by (opt_worded refl) (opt_reads a.meant)

  pub tuple_by : {F : Type 0} (pairs : F → O) {p : Part} → ReadsBy p k g → ReadsBy p k (tuple_of pairs g)
  tuple_by pairs a = by (tuple_worded pairs refl) (built_reads a.meant)

  recognize_by : {p : Part} → ReadsBy p k g → ReadsBy p k (recognize_of bytes_model g)
  recognize_by a = by (recognize_worded bytes_model refl)
      (like_reads a.meant (λ _. false) (λ i. Passes (λ n u o. IsSliced bytes_model i n o)) (sliced_is bytes_model))

  pub alt_by : {l : ℕ} {h : BytesWord O} {test : ℕ → Bool} {next other : After} → ReadsBy (Led test next) k g → ReadsBy (Any other) l h → l ≤ k →
      ReadsBy (Any (choose test next other)) l (alt_of plain_errors (or_of plain_errors g h))
  alt_by a b le = by (alt_worded plain_errors (or_worded plain_errors refl refl)) (closed_reads (either_reads
      (like_reads a.meant (λ b. b) (λ i a o. o ≡ labelled inl a) (λ i a o e. (inl, e)))
      (like_reads b.meant (λ b. b) (λ i a o. o ≡ labelled inr a) (λ i a o e. (inr, e))) le))

module _ {O P : Type 0} {k l : ℕ} {g : BytesWord O} {h : BytesWord P} {y : After} where
  pair_any : {x : After} → ReadsBy (Any x) k g → ReadsBy (Any y) l h → ReadsBy (Any (λ bs. and_then (x bs) y)) (k + l) (pair_of bytes_model g h)
  pair_any a b = by (pair_worded bytes_model refl refl) (sequence_reads (λ u v. (u, v)) (λ o. o) (λ o. o) a.meant b.meant)

  module _ {test : ℕ → Bool} {next : After} (a : ReadsBy (Led test next) k g) (b : ReadsBy (Sure y) l h) where
    pub pair_by : ReadsBy (Led test (λ bs. and_then (next bs) y)) (k + l) (pair_of bytes_model g h)
    pair_by = by (pair_worded bytes_model refl refl) (sequence_leads (λ u v. (u, v)) (λ o. o) (λ o. o) a.meant b.meant)

    pub preceded_by : ReadsBy (Led test (λ bs. and_then (next bs) y)) (k + l) (preceded_of bytes_model g h)
    preceded_by = by (preceded_worded bytes_model refl refl) (sequence_leads (λ u v. v) (with_outputs false) (λ o. o) a.meant b.meant)

    pub terminated_by : ReadsBy (Led test (λ bs. and_then (next bs) y)) (k + l) (terminated_of bytes_model g h)
    terminated_by = by (terminated_worded bytes_model refl refl) (sequence_leads (λ u v. u) (λ o. o) (with_outputs false) a.meant b.meant)

-- bytes, runs and words
pub char_by : (c : ℕ) → ReadsBy (Led (λ b. b == c) Some) 1 (char_of c)
char_by c = by (char_worded bytes_model plain_errors (λ x. x) c)
    (head_reads (Unit {0}) (Unit {0}) (λ x b. b ≡ (x == c)) (λ b. b == c) (λ x b e. e) (Some (len_utf8 c)) (OfChar c))

pub same_truth : (a b : Bool) → (a ≡ true → b ≡ true) → (b ≡ true → a ≡ true) → a ≡ b
same_truth true b f g = sym (f refl)
same_truth false true f g = g refl
same_truth false false f g = refl

pub listed_is : (set : List ℕ) (x : ℕ) (b : Bool) → IsTrue b ↔ Contains set x → b ≡ is_listed set x
listed_is set x b e = same_truth b (is_listed set x) (λ t. containing set x (e.0 t)) (λ t. e.1 (contained set x t))

pub ascii : (set : List ℕ) → list_all (λ b. nat_lt b 128) set ≡ true → IsAscii set
ascii set h = IsAscii-from_all set (λ k d l. ltb-true (slice_index_or set k d) 128 (AllPass-from_list_all (λ b. nat_lt b 128) set h k d l))

pub one_of_by : (set : List ℕ) → list_all (λ b. nat_lt b 128) set ≡ true → ReadsBy (Led (is_listed set) Some) 1 (one_of set)
one_of_by set h = subst (λ xs. ReadsBy (Led (is_listed xs) Some) 1 (one_of set)) (chars-IsAscii set (ascii set h))
    (by (satisfy_worded bytes_model plain_errors (λ x. x) Kind.OneOf (char_within_worded (λ x. x) (Contains (chars set))))
    (head_reads (Unit {0}) (Unit {0}) (λ x b. IsTrue b ↔ Contains (chars set) x) (is_listed (chars set)) (listed_is (chars set)) None (OfKind Kind.OneOf)))

pub hex_by : ReadsBy (Led is_hex_digit_code Some) 1 hex_of
hex_by = by (satisfy_worded bytes_model plain_errors (λ x. x) Kind.Satisfy
    (char_passing_worded (λ x. x) (λ b. b < 256) (λ _. Unit {0}) (λ b t. t ≡ is_hex_digit_code b)))
    (head_reads _ _ (λ b t. t ≡ is_hex_digit_code b) is_hex_digit_code (λ x b e. e) None (OfKind Kind.Satisfy))

pub plain_by : ReadsBy (Sure after_plain) 0 plain_of
plain_by = by (run_worded bytes_model (passing_worded (λ b. b < 256) (λ _. Unit {0}) (λ b t. t ≡ is_plain_code b)))
    (run0_reads is_plain_code (λ b t. t ≡ is_plain_code b) (λ x b e. e) _ _ (λ _ _. ⊥) (λ i e x. absurd x))

pub digits_by : ReadsBy (Led is_dec_digit_code (λ bs. Some (after_all is_dec_digit_code bs))) 1 digits_of
digits_by = by (class_worded bytes_model plain_errors (λ x. x) Class.Digit (Some Kind.Digit))
    (run1_reads is_dec_digit_code (IsOf (λ x. x) Class.Digit) (λ x b e. sym e) (Unit {0}) (Unit {0}) (λ i. plain_errors.of_kind i Kind.Digit)
    (λ i e x. ap (λ y. y.input) x))

pub spaces_read : ReadsBy (Sure (λ bs. Some (after_all is_multispace_code bs))) 0 spaces_of
spaces_read = by (class_worded bytes_model plain_errors (λ x. x) Class.MultiSpace None)
    (run0_reads is_multispace_code (IsOf (λ x. x) Class.MultiSpace) (λ x b e. sym e) (Unit {0}) (Unit {0}) (λ _ _. ⊥) (λ i e x. absurd x))

pub word_reads : (w : List ℕ) → ReadsBy (By (Worded w)) (length w) (tag_of w)
word_reads w = by (tag_worded bytes_model plain_errors length ComparesBytes w) (tag_reads w)

pub letter_by : (c : ℕ) → ReadsBy (Led (λ b. b == c) Some) 1 (tag_of (c ∷ []))
letter_by c = by (tag_worded bytes_model plain_errors length ComparesBytes (c ∷ [])) (letter_reads c)

-- numbers
pub cut_digits : ReadsBy (Sure after_digits1) 1 (cut_of digits_of)
cut_digits = cut_by (led_any digits_by)

one_then : (t : Bool) (xs ys : List ℕ) (f : After) → and_then (if t then Some xs else Some ys) f ≡ f (if t then xs else ys)
one_then true xs ys f = refl
one_then false xs ys f = refl

abbrev is_sign : ℕ → Bool
is_sign = is_listed (codes "+-")

pub exponent_reads : ReadsBy (Any after_exponent) 0 exponent_of
exponent_reads = as_any (λ bs. ap (λ o. if first_is (is_listed (codes "eE")) bs then o else Some bs)
    (sym (one_then (first_is is_sign (rest bs)) (rest (rest bs)) (rest bs) after_digits1)))
    (sure_any (opt_by (preceded_by (pair_by (one_of_by (codes "eE") refl) (opt_by (one_of_by (codes "+-") refl))) cut_digits)))

pub number_reads : ReadsBy (Any after_number) 1 number_of
number_reads = as_any (λ bs. sym (one_then (first_is (λ b. b == 45) bs) (rest bs) bs after_unsigned)) (recognize_by (tuple_by _
    (pair_any (sure_any (opt_by (char_by 45))) (pair_any {y = λ bs. and_then (after_fraction bs) after_exponent}
    (alt_by (letter_by 48) (led_any digits_by) (omega arith)) (pair_any (sure_any (opt_by (preceded_by (char_by 46) cut_digits))) exponent_reads)))))

-- strings
pub and_some : (o : Option (List ℕ)) → and_then o Some ≡ o
and_some None = refl
and_some (Some bs) = refl

hex_any : ReadsBy (Any (after_byte is_hex_digit_code)) 1 hex_of
hex_any = led_any hex_by

hexes_any : ReadsBy (Any (after_hex 4)) 4 (tuple_of_four bytes_model hex_of hex_of hex_of hex_of)
hexes_any =
    tuple_by _ (pair_any hex_any (pair_any hex_any (pair_any hex_any (as_any (λ bs. and_some (after_byte is_hex_digit_code bs)) hex_any))))

pub long_by : ReadsBy (Led (λ b. b == 117) (after_hex 4)) 5 (terminated_of bytes_model (char_of 117)
    (cut_of (tuple_of_four bytes_model hex_of hex_of hex_of hex_of)))
long_by = terminated_by (char_by 117) (cut_by hexes_any)

escape_reads : ReadsBy (Led (λ b. b == 92) after_escape) 2 escape_of
escape_reads = preceded_by (char_by 92) (cut_by (alt_by long_by (led_any (one_of_by (codes "\"\\/bfnrt") refl)) (omega arith)))

pub piece_by : ReadsBy (Led (λ b. b == 92) after_piece) 1 (terminated_of bytes_model escape_of plain_of)
piece_by = record {
  meant = reads_as (terminated_by escape_reads plain_by).meant (Led (λ b. b == 92) after_piece) 1 (omega arith) (λ t xs n h. h) (λ s xs h. h);
}

pub dropped_is : {V : Type 0} (a o : Outcome V) → Passes (λ n v o. o ≡ Accept n v) a o → (f : V → V) × (o ≡ labelled f a)
dropped_is (Accept n v) o e = (λ u. u, e)
dropped_is Refuse o e = (λ u. u, e)
dropped_is (Stop why) o e = (λ u. u, e)

pub escapes_read : ReadsBy (By Escaped) 0 (many0_count_of bytes_model plain_errors (terminated_of bytes_model escape_of plain_of))
escapes_read = by (many0_count_worded bytes_model plain_errors refl)
    (many_reads (like_reads piece_by.meant (λ _. false) (λ i. Passes (λ n v o. o ≡ Accept n v)) (λ i. dropped_is)))

-- escapes, and the quote after them, where no plain character stands
abbrev Closed : Bool → List ℕ → ℕ → Type 0
Closed t xs n = first_is is_plain_code xs ≡ false → Finds JsonCharacters t xs n

no_fault : (xs : List ℕ) (n : ℕ) → Decides after_plain false xs n → ⊥
no_fault xs n h = cc (h.same xs refl)

pub string_reads : ReadsBy (By (Finds JsonCharacters)) 1 string_of
string_reads = recognize_by (tuple_by _ (by (pair_worded bytes_model refl (pair_worded bytes_model refl refl)) (
    then_reads (λ u v. (u, v)) (λ o. o) (λ o. o) (By (Finds JsonCharacters)) plain_by.meant (
    then_reads (λ u v. (u, v)) (λ o. o) (λ o. o) (By Closed) escapes_read.meant (char_by 34).meant
    (λ t xs n m h q first. let p = h first in passes_finds p.passes (quote_finds p.no_plain p.no_backslash q)) (λ xs n h. h) (λ s xs h. tt)
    (λ s xs n h e. tt))
    (λ t xs n m h q. let p = plain_past h in passes_finds p.passes (q p.next)) (λ xs n h. absurd (no_fault xs n h)) (λ s xs h. tt) (λ s xs n h e. tt))))
