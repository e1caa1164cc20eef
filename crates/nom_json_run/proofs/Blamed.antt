-- Lemmas on words of grammars over bytes, by what their errors say; so the grammars of numbers and of strings.
use Rattle.std.specs.Prelude.{◌≡◌, ℕ, ◌==◌, ◌<◌, ◌||◌, Bool, true, false, List, [], ◌∷◌, None, Some, chars, codes, drop, length, nat_lt}
use Rattle.std.specs.List.{Contains, list_all}
use Rattle.std.proofs.Common.{sym, refl, subst, ap, ◌∙◌, inl, inr}
use Rattle.nom_error.specs.PlainErrors.{plain_errors}
use Rattle.nom_error.specs.declared.kind.ErrorKind.{ErrorKind}
use Rattle.nom_error.specs.declared.kind.ErrorKind.TheVariants as Kind
use Rattle.nom_error.specs.declared.value.Error.{Error}
use Rattle.nom_traits.specs.Classes.{is_hex_digit_code, is_listed}
use Rattle.nom_traits.specs.declared.character.AsciiClass.TheVariants as Class
use Rattle.nom_internal.specs.Prelude.{Accept, Cause, ComparesBytes, Fails, Grammar, IsFault, IsSliced, Meaning, Needs, Outcome}
use Rattle.nom_internal.specs.Prelude.{Passes, Refuse, Stop, bytes_model, labelled, with_outputs}
use Rattle.nom_internal.specs.TupleWords.{tuple_of_four}
use Rattle.nom_internal.specs.Word.{word}
use Rattle.nom_internal.specs.Words.{pair_of, pair_worded, tuple_of, tuple_worded}
use Rattle.nom_bytes.specs.Tests.{passing_worded}
use Rattle.nom_bytes.specs.Words.{run_worded, tag_worded}
use Rattle.nom_branch.specs.Words.{alt_of, alt_worded, or_of, or_worded}
use Rattle.nom_character.specs.Tests.{char_passing_worded, char_within_worded}
use Rattle.nom_character.specs.Words.{char_worded, class_worded, satisfy_worded}
use Rattle.nom_combinator.specs.Words.{cut_of, cut_worded, opt_of, opt_worded, recognize_of, recognize_worded}
use Rattle.nom_multi_fold.specs.Words.{many0_count_of, many0_count_worded}
use Rattle.nom_sequence.specs.Words.{preceded_of, preceded_worded, terminated_of, terminated_worded}
use Rattle.nom_json_run.specs.Grammars.{Bytes, BytesWord, char_of, digits_of, escape_of, exponent_of, hex_of, number_of, one_of, plain_of, spaces_of}
use Rattle.nom_json_run.specs.Grammars.{string_of, tag_of}
use Rattle.nom_json_run.specs.Json.{begins, first_is, is_plain_code}
use Rattle.nom_json_run.specs.Parts.{is_escape_code}
use Rattle.nom_json_run.specs.Tokens as Tokens
use Rattle.nom_json_run.proofs.Blames.{Blaming, IsBlamed, Where, blaming_as, built_blames, closed_blames, cut_blames, either_blames, like_blames}
use Rattle.nom_json_run.proofs.Blames.{opt_blames, then_blames}
use Rattle.nom_json_run.proofs.Escapes.{Passed, many_blames}
use Rattle.nom_json_run.proofs.Grammars.{ReadsBy, char_by, digits_by, dropped_is, escapes_read, hex_by, letter_by, long_by}
use Rattle.nom_json_run.proofs.Grammars.{cut_digits, one_of_by, opt_by, pair_by, piece_by, plain_by, preceded_by, sliced_is}
use Rattle.nom_json_run.proofs.Reading.{After, Led, Reads, like_reads}
use Rattle.nom_json_run.proofs.Strings.{plain_past}
use Rattle.nom_json_run.proofs.Values.{differ}

pub record ToldBy {O : Type 0} (Told : Bytes → Error Bytes → Type 0) (h : BytesWord O) : Type 0 where
  pub meant : Blaming Told h.grammar.meaning

told : {O V : Type 0} {Told : Bytes → Error Bytes → Type 0} {h : BytesWord O} {g : Grammar Bytes V O (Error Bytes)} → h ≡ word g →
    Blaming Told g.meaning → ToldBy Told h
told {Told = Told} e b = subst (ToldBy Told) (sym e) (record { meant = b })

told_as : {O : Type 0} {Told Other : Bytes → Error Bytes → Type 0} {h : BytesWord O} → ((i : Bytes) (e : Error Bytes) → Told i e → Other i e) →
    ToldBy Told h → ToldBy Other h
told_as same b = record { meant = blaming_as same b.meant }

abbrev Tells : Bytes → Error Bytes → Type 0
Tells i e = IsBlamed e

-- the error of a part without parts: the first byte fails a test
abbrev Refused : (ℕ → Bool) → ErrorKind → Bytes → Error Bytes → Type 0
Refused test kind i e = (first_is test i.now ≡ false) × (e ≡ record { input = i; code = kind })

module _ {V : Type 0} {test : ℕ → Bool} {next : After} {k : ℕ} {m : Meaning Bytes V (Error Bytes)} (r : Reads (Led test next) k m)
    (never : (i : Bytes) (c : Cause) → m.answers false i (Stop (Fails c)) → ⊥) where
  refused_first : (i : Bytes) (o : Outcome V) → m.answers false i o → IsFault o → first_is test i.now ≡ false
  refused_first i (Accept n v) h t = absurd t
  refused_first i Refuse h t = r.outcomes i Refuse h
  refused_first i (Stop (Fails c)) h t = absurd (never i c h)
  refused_first i (Stop (Needs n)) h t = absurd t

leaf_told : {O V : Type 0} {test : ℕ → Bool} {next : After} {k : ℕ} {h : BytesWord O} {g : Grammar Bytes V O (Error Bytes)} → h ≡ word g →
    ReadsBy (Led test next) k h → (kind : ErrorKind) → ((i : Bytes) (c : Cause) → g.meaning.answers false i (Stop (Fails c)) → ⊥) →
    ((i : Bytes) (e : Error Bytes) → g.meaning.blames false i e → e ≡ record { input = i; code = kind }) → ToldBy (Refused test kind) h
leaf_told {test = test} {next} {k} e r kind never blamed =
    let reads = (subst (ReadsBy (Led test next) k) e r).meant in
    told e (record { told = λ i o x h t b. (refused_first reads never i o h t, blamed i x b) })

-- where the first byte passes it there is no error
led_told : {O : Type 0} {test : ℕ → Bool} {kind : ErrorKind} {h : BytesWord O} → ToldBy (Refused test kind) h → ToldBy (Where test true) h
led_told {test = test} b = told_as (λ i e r t. absurd (differ (first_is test i.now) t r.0)) b

-- parts of parts
module _ {O : Type 0} {Told : Bytes → Error Bytes → Type 0} {g : BytesWord O} (a : ToldBy Told g) where
  cut_told : ToldBy Told (cut_of g)
  cut_told = told (cut_worded refl) (cut_blames a.meant)

  tuple_told : {F : Type 0} (pairs : F → O) → ToldBy Told (tuple_of pairs g)
  tuple_told pairs = told (tuple_worded pairs refl) (built_blames a.meant)

  recognize_told : ToldBy Told (recognize_of bytes_model g)
  recognize_told = told (recognize_worded bytes_model refl)
      (like_blames a.meant (λ _. false) (λ i. Passes (λ n u o. IsSliced bytes_model i n o)) (sliced_is bytes_model))

  -- what holds of each error of the second part holds of the whole
  module _ {P : Type 0} {h : BytesWord P} (all : (i : Bytes) (e : Error Bytes) → IsBlamed e → Told i e) (b : ToldBy Tells h) where
    pair_told : ToldBy Told (pair_of bytes_model g h)
    pair_told = told (pair_worded bytes_model refl refl)
        (then_blames (λ u v. (u, v)) (λ o. o) (λ o. o) a.meant b.meant (λ i e t. t) (λ i j n u e h s t. all i e t))

    preceded_told : ToldBy Told (preceded_of bytes_model g h)
    preceded_told = told (preceded_worded bytes_model refl refl)
        (then_blames (λ u v. v) (with_outputs false) (λ o. o) a.meant b.meant (λ i e t. t) (λ i j n u e h s t. all i e t))

    terminated_told : ToldBy Told (terminated_of bytes_model g h)
    terminated_told = told (terminated_worded bytes_model refl refl)
        (then_blames (λ u v. u) (λ o. o) (with_outputs false) a.meant b.meant (λ i e t. t) (λ i j n u e h s t. all i e t))

module _ {O : Type 0} {k : ℕ} {g : BytesWord O} {test : ℕ → Bool} {next : After} (r : ReadsBy (Led test next) k g) (a : ToldBy (Where test true) g) where
  opt_told : ToldBy Tells (opt_of g)
  opt_told = told (opt_worded refl) (opt_blames r.meant a.meant)

  alt_told : {h : BytesWord O} → ToldBy (Where test false) h → ToldBy Tells (alt_of plain_errors (or_of plain_errors g h))
  alt_told b = told (alt_worded plain_errors (or_worded plain_errors refl refl)) (closed_blames (either_blames
      (like_reads r.meant (λ b. b) (λ i a o. o ≡ labelled inl a) (λ i a o e. (inl, e)))
      (like_blames a.meant (λ b. b) (λ i a o. o ≡ labelled inl a) (λ i a o e. (inl, e)))
      (like_blames b.meant (λ b. b) (λ i a o. o ≡ labelled inr a) (λ i a o e. (inr, e)))))

-- bytes and runs
char_told : (c : ℕ) → ToldBy (Refused (λ b. b == c) Kind.Char) (char_of c)
char_told c = leaf_told (char_worded bytes_model plain_errors (λ x. x) c) (char_by c) Kind.Char (λ i c h. h) (λ i e x. x)

letter_told : (c : ℕ) → ToldBy (Refused (λ b. b == c) Kind.Tag) (tag_of (c ∷ []))
letter_told c =
    leaf_told (tag_worded bytes_model plain_errors length ComparesBytes (c ∷ [])) (letter_by c) Kind.Tag (λ i c h. h) (λ i e x. x)

one_of_told : (set : List ℕ) → list_all (λ b. nat_lt b 128) set ≡ true → ToldBy (Refused (is_listed set) Kind.OneOf) (one_of set)
one_of_told set h =
    leaf_told (satisfy_worded bytes_model plain_errors (λ x. x) Kind.OneOf (char_within_worded (λ x. x) (Contains (chars set)))) (one_of_by set h)
    Kind.OneOf (λ i c h. h) (λ i e x. x)

hex_told : ToldBy Tells hex_of
hex_told = told_as (λ i e r. subst IsBlamed (sym r.1) r.0) (leaf_told (satisfy_worded bytes_model plain_errors (λ x. x) Kind.Satisfy
    (char_passing_worded (λ x. x) (λ b. b < 256) (λ _. Unit {0}) (λ b t. t ≡ is_hex_digit_code b))) hex_by Kind.Satisfy (λ i c h. h) (λ i e x. x))

digits_told : ToldBy Tells digits_of
digits_told = told_as (λ i e r. subst IsBlamed (sym r.1) r.0) (leaf_told (class_worded bytes_model plain_errors (λ x. x) Class.Digit (Some Kind.Digit))
    digits_by Kind.Digit (λ i c h. h) (λ i e x. x))

plain_told : {Told : Bytes → Error Bytes → Type 0} → ToldBy Told plain_of
plain_told = told (run_worded bytes_model (passing_worded (λ b. b < 256) (λ _. Unit {0}) (λ b t. t ≡ is_plain_code b)))
    (record { told = λ i o e h t x. absurd x })

pub spaces_told : ToldBy Tells spaces_of
spaces_told = told (class_worded bytes_model plain_errors (λ x. x) Class.MultiSpace None) (record { told = λ i o e h t x. absurd x })

-- numbers
each : (i : Bytes) (e : Error Bytes) → IsBlamed e → Tells i e
each i e b = b

led_each : (test : ℕ → Bool) (i : Bytes) (e : Error Bytes) → IsBlamed e → Where test true i e
led_each test i e b f = b

fraction_told : ToldBy Tells (Tokens.fraction_of bytes_model plain_errors (λ _. cut_of))
fraction_told = opt_told (preceded_by (char_by 46) cut_digits) (preceded_told (led_told (char_told 46)) (led_each _) (cut_told digits_told))

mark_told : ToldBy (Where (is_listed (codes "eE")) true) (pair_of bytes_model (one_of (codes "eE")) (opt_of (one_of (codes "+-"))))
mark_told = pair_told (led_told (one_of_told (codes "eE") refl)) (led_each _)
    (opt_told (one_of_by (codes "+-") refl) (led_told (one_of_told (codes "+-") refl)))

exponent_told : ToldBy Tells exponent_of
exponent_told = opt_told (preceded_by (pair_by (one_of_by (codes "eE") refl) (opt_by (one_of_by (codes "+-") refl))) cut_digits)
    (preceded_told mark_told (led_each _) (cut_told digits_told))

pub number_told : ToldBy Tells number_of
number_told = recognize_told (tuple_told (pair_told (opt_told (char_by 45) (led_told (char_told 45))) each
    (pair_told (alt_told (letter_by 48) (led_told (letter_told 48)) (told_as (λ i e b f. b) digits_told)) each
    (pair_told fraction_told each exponent_told))) _)

-- strings
neither_code : (xs : List ℕ) → begins 117 xs ≡ false → first_is (is_listed (codes "\"\\/bfnrt")) xs ≡ false → first_is is_escape_code xs ≡ false
neither_code [] p q = refl
neither_code (b ∷ bs) p q = ap (λ t. t || is_listed (codes "\"\\/bfnrt") b) p ∙ q

code_told : ToldBy (Where (λ b. b == 117) false) (one_of (codes "\"\\/bfnrt"))
code_told = told_as (λ i e r f. subst IsBlamed (sym r.1) (neither_code i.now f r.0)) (one_of_told (codes "\"\\/bfnrt") refl)

long_told : ToldBy (Where (λ b. b == 117) true) (terminated_of bytes_model (char_of 117) (cut_of (tuple_of_four bytes_model hex_of hex_of hex_of hex_of)))
long_told = terminated_told (led_told (char_told 117)) (led_each _)
    (cut_told (tuple_told (pair_told hex_told each (pair_told hex_told each (pair_told hex_told each hex_told))) _))

escape_told : ToldBy (Where (λ b. b == 92) true) escape_of
escape_told = preceded_told (led_told (char_told 92)) (led_each _) (cut_told (alt_told long_by long_told code_told))

escapes_told : ToldBy Tells (many0_count_of bytes_model plain_errors (terminated_of bytes_model escape_of plain_of))
escapes_told = told (many0_count_worded bytes_model plain_errors refl) (many_blames
    (like_reads piece_by.meant (λ _. false) (λ i. Passes (λ n v o. o ≡ Accept n v)) (λ i. dropped_is))
    (like_blames (terminated_told escape_told (led_each _) plain_told).meant (λ _. false) (λ i. Passes (λ n v o. o ≡ Accept n v)) (λ i. dropped_is)))

-- the quote that closes a string is missing where no plain character and no escape stands
quote_told : (xs : List ℕ) (n : ℕ) (j : Bytes) (e : Error Bytes) → Passed xs n → j.now ≡ drop n xs → Refused (λ b. b == 34) Kind.Char j e → IsBlamed e
quote_told xs n j e p s r =
    subst IsBlamed (sym r.1) (ap (first_is is_plain_code) s ∙ p.no_plain, r.0, ap (begins 92) s ∙ p.no_backslash)

closed_told : ToldBy (Where is_plain_code false) (pair_of bytes_model (many0_count_of bytes_model plain_errors (terminated_of bytes_model escape_of plain_of))
    (char_of 34))
closed_told = told (pair_worded bytes_model refl refl) (
    then_blames (λ u v. (u, v)) (λ o. o) (λ o. o) escapes_told.meant (char_told 34).meant (λ i e b f. b)
    (λ i j n u e a s r first. quote_told i.now n j e ((escapes_read.meant.outcomes i _ a).1 first) s r))

pub string_told : ToldBy Tells string_of
string_told = recognize_told (tuple_told (told (pair_worded bytes_model refl refl) (
    then_blames (λ u v. (u, v)) (λ o. o) (λ o. o) (plain_told {Told = Tells}).meant closed_told.meant (λ i e b. b)
    (λ i j n u e a s b. b (ap (first_is is_plain_code) s ∙ (plain_past (plain_by.meant.outcomes i _ a).1).next)))) _)
