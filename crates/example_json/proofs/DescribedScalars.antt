-- Values without brackets, described: words and numbers. A number is broken off where a point or the mark of an exponent has no digits after it: it is
-- read up to there, and nothing of a JSON text can follow.
use Rattle.std.specs.Prelude.{◌≡◌, ℕ, ◌==◌, ◌<◌, ◌≤◌, ◌⊎◌, ◌||◌, Bool, true, false, if◌then◌else◌, List, [], ◌∷◌, Option, None, Some, codes}
use Rattle.std.proofs.Common.{arith, sym, ◌∙◌, ap, refl, subst, inl, inr}
use Rattle.nom_traits.specs.Classes.{is_dec_digit_code, is_listed, is_multispace_code}
use Rattle.nom_json_run.specs.Json.{JsonValue, after_all, after_byte, after_digits1, after_exponent, after_fraction, after_integer, after_number, after_one}
use Rattle.nom_json_run.specs.Json.{after_spaces, after_word, and_then, begins, first_is, rest}
use Rattle.nom_json_run.specs.Json.JsonValue.{null, truth, untruth, number}
use Rattle.nom_json_run.specs.Parts.{BeginsWord, is_mark}
use Rattle.nom_json_run.specs.Parts.BeginsWord.{as_null, as_true, as_false}
use Rattle.nom_json_run.proofs.Decisions.{if_some}
use Rattle.nom_json_run.proofs.Strings.{some_is}
use Rattle.nom_json_run.proofs.Values.{differ, head_is, number_same, word_begins, word_same}
use Rattle.nom.specs.Texts.{TextWord, or_of}
use Rattle.example_json.specs.Depths.{nesting}
use Rattle.example_json.specs.Scalars.{digits_of, number_of, word_of}
use Rattle.example_json.proofs.Described.{After, Described, Ending, Endings, Failing, Gives, Leaving, Refusing, alt_by, described_as, map_by, opt_gives, or_by}
use Rattle.example_json.proofs.Described.{or_else, or_gives, pair_gives, preceded_gives, recognize_by, tuple_by}
use Rattle.example_json.proofs.DescribedTokens.{char_by, digits_by, one_of_by, spaces_by, word_by}

abbrev pub is_mark_of_more : ℕ → Bool
is_mark_of_more b = b == 46 || is_listed (codes "eE") b

abbrev pub IsBrokenOff : List ℕ → Type 0
IsBrokenOff ys = first_is is_mark_of_more ys ≡ true

-- the first byte can't be one that fails a test, and pass it
pub apart : (c : ℕ) (test : ℕ → Bool) (xs : List ℕ) → test c ≡ false → begins c xs ≡ true → first_is test xs ≡ true → ⊥
apart c test xs n e h = differ (test c) (subst (λ zs. first_is test zs ≡ true) (head_is c xs e) h) n

pub first_left : (t u : ℕ → Bool) (xs : List ℕ) → first_is t xs ≡ true → first_is (λ b. t b || u b) xs ≡ true
first_left t u [] h = h
first_left t u (b ∷ bs) h = ap (λ x. x || u b) h

pub first_right : (t u : ℕ → Bool) (xs : List ℕ) → first_is u xs ≡ true → first_is (λ b. t b || u b) xs ≡ true
first_right t u [] h = h
first_right t u (b ∷ bs) h = either_true (t b) (u b) h where
  either_true : (x y : Bool) → y ≡ true → (x || y) ≡ true
  either_true true y h = refl
  either_true false y h = h

pub first_or : (t u : ℕ → Bool) (xs : List ℕ) → first_is (λ b. t b || u b) xs ≡ true → (first_is t xs ≡ true) ⊎ (first_is u xs ≡ true)
first_or t u [] h = inl h
first_or t u (b ∷ bs) h = which (t b) (u b) h where
  which : (x y : Bool) → (x || y) ≡ true → (x ≡ true) ⊎ (y ≡ true)
  which true y h = inl refl
  which false y h = inr h

-- results in turn
pub then_some : (o : Option (List ℕ)) (f : After) (r : List ℕ) → and_then o f ≡ Some r → (b : List ℕ) × (o ≡ Some b) × (f b ≡ Some r)
then_some (Some b) f r e = (b, refl, e)
then_some None f r e = absurd (cc (e))

pub then_none : (o : Option (List ℕ)) (f : List ℕ → List ℕ) → and_then o (λ b. Some (f b)) ≡ None → o ≡ None
then_none (Some b) f e = absurd (cc (e))
then_none None f e = refl

or_some : (o p : Option (List ℕ)) (r : List ℕ) → or_else o p ≡ Some r → (o ≡ Some r) ⊎ (p ≡ Some r)
or_some (Some b) p r e = inl e
or_some None p r e = inr e

or_none : (o p : Option (List ℕ)) → or_else o p ≡ None → (o ≡ None) × (p ≡ None)
or_none (Some b) p e = absurd (cc (e))
or_none None p e = (refl, e)

-- a JSON value with so few brackets in each other
abbrev pub Shallow : ℕ → List ℕ → List ℕ → Type 0
Shallow d xs ys = (v : JsonValue xs ys) × (nesting v ≤ d)

-- A value that begins so is read: it is one, or it is broken off; and no other is there.
pub record IsRead (test : ℕ → Bool) (d : ℕ) (xs ys : List ℕ) : Type 0 where
  pub starts : first_is test xs ≡ true
  pub found : Shallow d xs ys ⊎ IsBrokenOff ys
  pub only : (r : List ℕ) → JsonValue xs r → r ≡ ys

-- A branch for the values whose first byte passes a test, in which that many brackets lie in each other at most: it is refused where there is
-- none, and fails where all of them lie deeper.
abbrev pub Branch : (ℕ → Bool) → ℕ → Endings
Branch test d xs (Leaving ys) = IsRead test d xs ys
Branch test d xs Refusing = first_is test xs ≡ true → (r : List ℕ) → JsonValue xs r → ⊥
Branch test d xs Failing = (first_is test xs ≡ true) × ((r : List ℕ) (v : JsonValue xs r) → d < nesting v)

module _ (t u : ℕ → Bool) (d : ℕ) where
  either_next : (xs : List ℕ) (e : Ending) → Branch t d xs Refusing → Branch u d xs e → Branch (λ b. t b || u b) d xs e
  either_next xs (Leaving ys) n h = record { starts = first_right t u xs h.starts; found = h.found; only = h.only }
  either_next xs Refusing n h = λ s r v. elim (first_or t u xs s) [ inl x ↦ n x r v | inr y ↦ h y r v ]
  either_next xs Failing n h = (first_right t u xs h.0, h.1)

  pub branch_or : {O : Type 0} {g h : TextWord O} → Described (Branch t d) g → Described (Branch u d) h → Described (Branch (λ b. t b || u b) d) (or_of g h)
  branch_or a b = or_by (Branch (λ b. t b || u b) d) a b
      (λ xs ys h. record { starts = first_left t u xs h.starts; found = h.found; only = h.only }) either_next (λ xs h. (first_left t u xs h.0, h.1))

-- words
abbrev parsed_word : List ℕ → Option (List ℕ)
parsed_word xs = or_else (or_else (after_word (codes "null") xs) (after_word (codes "true") xs)) (after_word (codes "false") xs)

abbrev pub is_word : ℕ → Bool
is_word b = (b == 110 || b == 116) || b == 102

word_there : (xs j : List ℕ) → parsed_word xs ≡ Some j → (w : List ℕ) × BeginsWord w xs × (after_word w xs ≡ Some j)
word_there xs j e = elim (or_some (or_else (after_word (codes "null") xs) (after_word (codes "true") xs)) (after_word (codes "false") xs) j e) [
  | inl f ↦ elim (or_some (after_word (codes "null") xs) (after_word (codes "true") xs) j f) [
    | inl h ↦ (codes "null", as_null refl (word_begins 110 (codes "ull") xs j h), h)
    | inr h ↦ (codes "true", as_true refl (word_begins 116 (codes "rue") xs j h), h)
  ]
  | inr h ↦ (codes "false", as_false refl (word_begins 102 (codes "alse") xs j h), h)
]

word_missing : (xs w : List ℕ) → parsed_word xs ≡ None → BeginsWord w xs → after_word w xs ≡ None
word_missing xs w e b =
    let n = or_none (or_else (after_word (codes "null") xs) (after_word (codes "true") xs)) (after_word (codes "false") xs) e in
    let m = or_none (after_word (codes "null") xs) (after_word (codes "true") xs) n.0 in
    elim b [
      | as_null same h ↦ subst (λ u. after_word u xs ≡ None) (sym same) m.0
      | as_true same h ↦ subst (λ u. after_word u xs ≡ None) (sym same) m.1
      | as_false same h ↦ subst (λ u. after_word u xs ≡ None) (sym same) n.1
    ]

word_value : (d : ℕ) (w xs j : List ℕ) → BeginsWord w xs → after_word w xs ≡ Some j → Shallow d xs (after_spaces j)
word_value d w xs j (as_null same b) e = (null (j, subst (λ u. after_word u xs ≡ Some j) same e, refl), omega arith)
word_value d w xs j (as_true same b) e = (truth (j, subst (λ u. after_word u xs ≡ Some j) same e, refl), omega arith)
word_value d w xs j (as_false same b) e = (untruth (j, subst (λ u. after_word u xs ≡ Some j) same e, refl), omega arith)

pub word_starts : (w xs : List ℕ) → BeginsWord w xs → first_is is_word xs ≡ true
word_starts w xs (as_null same b) = first_left (λ c. c == 110 || c == 116) (λ c. c == 102) xs (first_left (λ c. c == 110) (λ c. c == 116) xs b)
word_starts w xs (as_true same b) = first_left (λ c. c == 110 || c == 116) (λ c. c == 102) xs (first_right (λ c. c == 110) (λ c. c == 116) xs b)
word_starts w xs (as_false same b) = first_right (λ c. c == 110 || c == 116) (λ c. c == 102) xs b

starts_word : (xs : List ℕ) → first_is is_word xs ≡ true → (w : List ℕ) × BeginsWord w xs
starts_word xs h = elim (first_or (λ c. c == 110 || c == 116) (λ c. c == 102) xs h) [
  | inl f ↦ elim (first_or (λ c. c == 110) (λ c. c == 116) xs f) [ inl b ↦ (codes "null", as_null refl b) | inr b ↦ (codes "true", as_true refl b) ]
  | inr b ↦ (codes "false", as_false refl b)
]

word_branch : (d : ℕ) (xs : List ℕ) (e : Ending) → Gives (λ zs. and_then (parsed_word zs) (λ j. Some (after_spaces j))) xs e → Branch is_word d xs e
word_branch d xs (Leaving ys) h =
    let j = then_some (parsed_word xs) (λ j. Some (after_spaces j)) ys h in
    let w = word_there xs j.0 j.1 in
    let end = some_is (after_spaces j.0) ys j.2 in
    record {
      starts = word_starts w.0 xs w.1;
      found = inl (subst (Shallow d xs) end (word_value d w.0 xs j.0 w.1 w.2));
      only = λ r v. let s = (word_same w.0 xs w.1 r).0 v in s.2 ∙ (ap after_spaces (some_is s.0 j.0 (sym s.1 ∙ w.2)) ∙ end);
    }
word_branch d xs Refusing h = λ s r v.
    let w = starts_word xs s in
    let t = (word_same w.0 xs w.1 r).0 v in
    let none = word_missing xs w.0 (then_none (parsed_word xs) after_spaces h) w.1 in
    cc (none, t.1)
word_branch d xs Failing h = absurd h

pub word_described : (d : ℕ) → Described (Branch is_word d) word_of
word_described d = map_by (tuple_by (described_as (word_branch d) (pair_gives
    (alt_by (or_gives (or_gives (map_by (word_by (codes "null") refl) _) (map_by (word_by (codes "true") refl) _)) (map_by (word_by (codes "false") refl) _)))
    spaces_by)) _) _

-- numbers: what is read, by what a number is
abbrev maybe : After → After
maybe f xs = or_else (f xs) (Some xs)

-- they are the same, or what is read is broken off, and no number is there
data Agrees (Broken : List ℕ → Type 0) (parsed is : Option (List ℕ)) : Type 0 where
  exact : parsed ≡ is → Agrees Broken parsed is
  broken : (ys : List ℕ) → parsed ≡ Some ys → Broken ys → is ≡ None → Agrees Broken parsed is

agrees_then : (Broken : List ℕ → Type 0) (o : Option (List ℕ)) (f g : After) → ((ys : List ℕ) → Agrees Broken (f ys) (g ys)) →
    Agrees Broken (and_then o f) (and_then o g)
agrees_then Broken (Some ys) f g h = h ys
agrees_then Broken None f g h = exact refl

-- what is missing after its mark
lacks : (Broken : List ℕ → Type 0) (xs : List ℕ) (o : Option (List ℕ)) → Broken xs → Agrees Broken (or_else o (Some xs)) o
lacks Broken xs (Some ys) b = exact refl
lacks Broken xs None b = broken xs refl b refl

marked : (Broken : List ℕ → Type 0) (t : Bool) (xs zs : List ℕ) (f : After) → (t ≡ true → Broken xs) →
    Agrees Broken (or_else (and_then (if t then Some zs else None) f) (Some xs)) (if t then f zs else Some xs)
marked Broken true xs zs f b = lacks Broken xs (f zs) (b refl)
marked Broken false xs zs f b = exact refl

one_or : (t : Bool) (zs ws : List ℕ) → or_else (if t then Some zs else None) (Some ws) ≡ Some (if t then zs else ws)
one_or true zs ws = refl
one_or false zs ws = refl

abbrev is_sign : ℕ → Bool
is_sign = is_listed (codes "+-")

abbrev parsed_fraction : After
parsed_fraction = maybe (λ xs. and_then (after_byte (λ b. b == 46) xs) after_digits1)

abbrev parsed_exponent : After
parsed_exponent = maybe (λ xs. and_then (and_then (after_byte (is_listed (codes "eE")) xs) (maybe (after_byte is_sign))) after_digits1)

fraction_agrees : (xs : List ℕ) → Agrees (λ ys. begins 46 ys ≡ true) (parsed_fraction xs) (after_fraction xs)
fraction_agrees xs = marked (λ ys. begins 46 ys ≡ true) (begins 46 xs) xs (rest xs) after_digits1 (λ h. h)

signed : (t : Bool) (zs ws : List ℕ) (f : After) → f zs ≡ Some ws → and_then (and_then (if t then Some zs else None) f) after_digits1 ≡
    and_then (if t then Some ws else None) after_digits1
signed true zs ws f e = ap (λ o. and_then o after_digits1) e
signed false zs ws f e = refl

exponent_agrees : (xs : List ℕ) → Agrees IsBrokenOff (parsed_exponent xs) (after_exponent xs)
exponent_agrees xs =
    let t = first_is (is_listed (codes "eE")) xs in
    let ws = after_one is_sign (rest xs) in
    let same = signed t (rest xs) ws (maybe (after_byte is_sign)) (one_or (first_is is_sign (rest xs)) (rest (rest xs)) (rest xs)) in
    subst (λ o. Agrees IsBrokenOff (or_else o (Some xs)) (after_exponent xs)) (sym same)
    (marked IsBrokenOff t xs ws after_digits1 (first_right (λ b. b == 46) (is_listed (codes "eE")) xs))

-- at a point no exponent begins
no_exponent : (xs : List ℕ) → begins 46 xs ≡ true → parsed_exponent xs ≡ Some xs
no_exponent xs h = subst (λ ys. parsed_exponent ys ≡ Some ys) (sym (head_is 46 xs h)) refl

abbrev parsed_more : After
parsed_more xs = and_then (parsed_fraction xs) parsed_exponent

abbrev after_more : After
after_more xs = and_then (after_fraction xs) after_exponent

more_by : (xs : List ℕ) → Agrees (λ ys. begins 46 ys ≡ true) (parsed_fraction xs) (after_fraction xs) → Agrees IsBrokenOff (parsed_more xs) (after_more xs)
more_by xs (exact e) = subst (λ o. Agrees IsBrokenOff (parsed_more xs) (and_then o after_exponent)) e
    (agrees_then IsBrokenOff (parsed_fraction xs) parsed_exponent after_exponent exponent_agrees)
more_by xs (broken ys p b n) = broken ys (ap (λ o. and_then o parsed_exponent) p ∙ no_exponent ys b)
    (first_left (λ c. c == 46) (is_listed (codes "eE")) ys b) (ap (λ o. and_then o after_exponent) n)

abbrev parsed_integer : After
parsed_integer xs = or_else (after_word (codes "0") xs) (after_digits1 xs)

abbrev parsed_number : After
parsed_number xs = and_then (maybe (after_byte (λ b. b == 45)) xs) (λ a. and_then (parsed_integer a) parsed_more)

zero_or : (t : Bool) (zs : List ℕ) (o : Option (List ℕ)) → or_else (if t then Some zs else None) o ≡ (if t then Some zs else o)
zero_or true zs o = refl
zero_or false zs o = refl

abbrev unsigned_from : List ℕ → List ℕ
unsigned_from xs = after_one (λ b. b == 45) xs

parsed_is : (xs : List ℕ) → parsed_number xs ≡ and_then (after_integer (unsigned_from xs)) parsed_more
parsed_is xs = ap (λ o. and_then o (λ a. and_then (parsed_integer a) parsed_more)) (one_or (begins 45 xs) (rest xs) xs)
    ∙ ap (λ o. and_then o parsed_more) (zero_or (begins 48 (unsigned_from xs)) (rest (unsigned_from xs)) (after_digits1 (unsigned_from xs)))

number_agrees : (xs : List ℕ) → Agrees IsBrokenOff (parsed_number xs) (after_number xs)
number_agrees xs = subst (λ o. Agrees IsBrokenOff o (after_number xs)) (sym (parsed_is xs))
    (agrees_then IsBrokenOff (after_integer (unsigned_from xs)) parsed_more after_more (λ ys. more_by ys (fraction_agrees ys)))

-- the first byte of a number
abbrev pub is_number : ℕ → Bool
is_number b = b == 45 || is_dec_digit_code b

digit_first : (t : Bool) (xs b : List ℕ) → begins 48 xs ≡ t → (if t then Some (rest xs) else after_digits1 xs) ≡ Some b → first_is is_dec_digit_code xs ≡ true
digit_first true xs b z e = subst (λ ys. first_is is_dec_digit_code ys ≡ true) (sym (head_is 48 xs z)) refl
digit_first false xs b z e = if_some (first_is is_dec_digit_code xs) (Some (after_all is_dec_digit_code (rest xs))) b e

sign_first : (t : Bool) (xs : List ℕ) → begins 45 xs ≡ t → first_is is_dec_digit_code (if t then rest xs else xs) ≡ true → first_is is_number xs ≡ true
sign_first true xs m h = first_left (λ b. b == 45) is_dec_digit_code xs m
sign_first false xs m h = first_right (λ b. b == 45) is_dec_digit_code xs h

pub number_starts : (xs : List ℕ) (f : After) (r : List ℕ) → and_then (after_integer (unsigned_from xs)) f ≡ Some r → first_is is_number xs ≡ true
number_starts xs f r e =
    let b = then_some (after_integer (unsigned_from xs)) f r e in
    sign_first (begins 45 xs) xs refl (digit_first (begins 48 (unsigned_from xs)) (unsigned_from xs) b.0 refl b.1)

unmarked : (xs : List ℕ) → first_is is_number xs ≡ true → first_is is_mark xs ≡ false
unmarked [] h = refl
unmarked (b ∷ bs) h = grind (arith, h)

-- white space doesn't stand where a number is broken off
still_broken : (ys : List ℕ) → IsBrokenOff ys → after_spaces ys ≡ ys
still_broken [] h = refl
still_broken (b ∷ bs) h = let none : is_multispace_code b ≡ false = grind (arith, h) in ap (λ t. if t then after_spaces bs else b ∷ bs) none

-- a number, by what is read of it, and white space after it
number_read : (d : ℕ) (xs j : List ℕ) → parsed_number xs ≡ Some j → Agrees IsBrokenOff (parsed_number xs) (after_number xs) →
    IsRead is_number d xs (after_spaces j)
number_read d xs j e (exact same) =
    let s = number_starts xs parsed_more j (sym (parsed_is xs) ∙ e) in
    let is : after_number xs ≡ Some j = sym same ∙ e in
    record {
      starts = s;
      found = inl (number (j, is, refl), omega arith);
      only = λ r v. let t = (number_same xs (unmarked xs s) r).0 v in t.2 ∙ ap after_spaces (some_is t.0 j (sym t.1 ∙ is));
    }
number_read d xs j e (broken ys p b n) =
    let s = number_starts xs parsed_more j (sym (parsed_is xs) ∙ e) in
    let there : IsBrokenOff j = subst IsBrokenOff (some_is ys j (sym p ∙ e)) b in
    record {
      starts = s;
      found = inr (subst IsBrokenOff (sym (still_broken j there)) there);
      only = λ r v. let t = (number_same xs (unmarked xs s) r).0 v in cc (n, t.1);
    }

no_number : (xs r : List ℕ) → parsed_number xs ≡ None → Agrees IsBrokenOff (parsed_number xs) (after_number xs) → after_number xs ≡ Some r → ⊥
no_number xs r e (exact same) h = cc (e, same, h)
no_number xs r e (broken ys p b n) h = cc (n, h)

number_branch : (d : ℕ) (xs : List ℕ) (e : Ending) → Gives (λ zs. and_then (parsed_number zs) (λ j. Some (after_spaces j))) xs e → Branch is_number d xs e
number_branch d xs (Leaving ys) h =
    let j = then_some (parsed_number xs) (λ j. Some (after_spaces j)) ys h in
    subst (IsRead is_number d xs) (some_is (after_spaces j.0) ys j.2) (number_read d xs j.0 j.1 (number_agrees xs))
number_branch d xs Refusing h = λ s r v.
    let t = (number_same xs (unmarked xs s) r).0 v in
    no_number xs t.0 (then_none (parsed_number xs) after_spaces h) (number_agrees xs) t.1
number_branch d xs Failing h = absurd h

digits_described : Described (Gives parsed_number) digits_of
digits_described = recognize_by (tuple_by (pair_gives (opt_gives (char_by 45 (omega arith))) (pair_gives
    (alt_by (or_gives (word_by (codes "0") refl) digits_by))
    (pair_gives (opt_gives (preceded_gives (char_by 46 (omega arith)) digits_by))
    (opt_gives (preceded_gives (pair_gives (one_of_by (codes "eE") refl) (opt_gives (one_of_by (codes "+-") refl))) digits_by))))) _)

pub number_described : (d : ℕ) → Described (Branch is_number d) number_of
number_described d = map_by (tuple_by (described_as (number_branch d) (pair_gives digits_described spaces_by)) _) _
