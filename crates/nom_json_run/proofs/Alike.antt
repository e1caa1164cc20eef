-- Bytes that begin alike.
use Rattle.std.proofs.Common.{arith, ◌≡◌, ◌∙◌, ℕ, ◌+◌, ◌==◌, ◌<◌, ◌≤◌, Bool, true}
use Rattle.std.proofs.Common.{List, [], ◌∷◌, length, take, drop, ap, sym, refl, subst}
use Rattle.std.proofs.lemmas.List.{drop-drop, drop-take, length-take, take-take}
use Rattle.std.specs.Prelude.{None, Result, Ok, Err, ◌↔◌}
use Rattle.std.specs.Borrow.{Bor}
use Rattle.nom_json_run.specs.Json.{Spaced, after_spaces, after_word, begins, first_is, rest}
use Rattle.nom_json_run.specs.Scans.{BeginsAs, EndsAt, EndsNowhere, FailsAt, FailsFor, SameEnds, Scans, ScansFor}
use Rattle.nom_json_run.specs.Parts.{BeginsWord, IsPart}
use Rattle.nom_json_run.specs.Parts.BeginsWord.{as_null, as_true, as_false}
use Rattle.nom_json_run.specs.declared.bracket.Fault.{Fault}
use Rattle.nom_json_run.specs.declared.bracket.Missing as Part
use Rattle.nom_json_run.specs.declared.bracket.Missing.TheVariants as Missing

pub both : {A B C : Type 0} → (A ↔ B) → (B ↔ C) → A ↔ C
both f g = (λ a. g.0 (f.0 a), λ c. f.1 (g.1 c))

-- up to an earlier place too
pub before : (bytes bs : List ℕ) (i j : ℕ) → i ≤ j → BeginsAs bytes j bs → BeginsAs bytes i bs
before bytes bs i j le a =
    let few : i + 1 ≤ j + 1 = omega (arith, le) in
    sym (take-take (i + 1) (j + 1) bs few) ∙ (ap (take (i + 1)) a ∙ take-take (i + 1) (j + 1) bytes few)

one_first : (test : ℕ → Bool) (xs : List ℕ) → first_is test (take 1 xs) ≡ first_is test xs
one_first test [] = refl
one_first test (x ∷ xs) = refl

first_same : (test : ℕ → Bool) (bytes bs : List ℕ) (i : ℕ) → BeginsAs bytes i bs → first_is test (drop i bs) ≡ first_is test (drop i bytes)
first_same test bytes bs i a =
    sym (one_first test (drop i bs)) ∙ (ap (first_is test) (sym (drop-take i 1 bs) ∙ (ap (drop i) a ∙ drop-take i 1 bytes))
    ∙ one_first test (drop i bytes))

-- what a test says of the byte at a place that isn't behind it
pub first_there : (test : ℕ → Bool) (bytes bs : List ℕ) (i j : ℕ) (t : Bool) → i ≤ j → BeginsAs bytes j bs → first_is test (drop i bytes) ≡ t →
    first_is test (drop i bs) ≡ t
first_there test bytes bs i j t le a e = first_same test bytes bs i (before bytes bs i j le a) ∙ e

pub rest_one : (xs : List ℕ) → rest xs ≡ drop 1 xs
rest_one [] = refl
rest_one (x ∷ xs) = refl

pub rest_at : (bs : List ℕ) (i : ℕ) → rest (drop i bs) ≡ drop (i + 1) bs
rest_at bs i = rest_one (drop i bs) ∙ drop-drop 1 i bs

-- from a place on, bytes begin as others do
pub later : (xs bs : List ℕ) (n m : ℕ) → BeginsAs xs (n + m) bs → BeginsAs (drop n xs) m (drop n bs)
later xs bs n m s =
    let e : n + (m + 1) ≡ (n + m) + 1 = omega arith in
    let s' = ap (λ k. take k bs) e ∙ (s ∙ ap (λ k. take k xs) (sym e)) in
    sym (drop-take n (m + 1) bs) ∙ (ap (drop n) s' ∙ drop-take n (m + 1) xs)

-- past a byte and the white space after it
pub byte_passed : (c : ℕ) (bytes : List ℕ) (at k : ℕ) → at + 1 ≤ k → begins c (drop at bytes) ≡ true →
    ((bs : List ℕ) → BeginsAs bytes k bs → drop k bs ≡ after_spaces (drop (at + 1) bs)) → (bs : List ℕ) → BeginsAs bytes k bs →
    (begins c (drop at bs) ≡ true) × (drop k bs ≡ after_spaces (rest (drop at bs)))
byte_passed c bytes at k le e follows bs s =
    let there = first_there (λ b. b == c) bytes bs at k true (omega (arith, le)) s e in
    (there, follows bs s ∙ ap after_spaces (sym (rest_at bs at)))

pub word_there : (bytes bs w : List ℕ) (i j : ℕ) → i ≤ j → BeginsAs bytes j bs → BeginsWord w (drop i bytes) → BeginsWord w (drop i bs)
word_there bytes bs w i j le a (as_null e b) = as_null e (first_there (λ b. b == 110) bytes bs i j true le a b)
word_there bytes bs w i j le a (as_true e b) = as_true e (first_there (λ b. b == 116) bytes bs i j true le a b)
word_there bytes bs w i j le a (as_false e b) = as_false e (first_there (λ b. b == 102) bytes bs i j true le a b)

-- whatever is missing
pub for_all : (bytes : List ℕ) (Fails : List ℕ → Type 0) (start : ℕ) (fault : Fault) → FailsAt bytes Fails start fault → FailsFor bytes Fails start fault
for_all bytes Fails start fault h = record {
  begins = h.begins;
  within = h.within;
  part = h.part;
  here = h.fails bytes refl;
  fails = λ bs s m. h.fails bs s;
}

pub scans_for_all : (bytes : List ℕ) (Ends : List ℕ → List ℕ → Type 0) (start : ℕ) (x : Result ℕ Fault) → Scans bytes Ends start x →
    ScansFor bytes Ends start x
scans_for_all bytes Ends start (Ok n) h = h
scans_for_all bytes Ends start (Err f) h = for_all bytes (λ i. EndsNowhere (Ends i)) start f h

-- another part is missing at the same place
pub same_place : (bytes : List ℕ) (Fails : List ℕ → Type 0) (start : ℕ) (fault other : Fault) → other.at ≡ fault.at →
    IsPart other.missing (drop other.at bytes) → FailsAt bytes Fails start fault → FailsFor bytes Fails start other
same_place bytes Fails start fault other e part h = for_all bytes Fails start other (record {
  part = part;
  begins = subst (λ n. start ≤ n) (sym e) h.begins;
  within = subst (λ n. n ≤ length bytes) (sym e) h.within;
  fails = λ bs s. h.fails bs (subst (λ n. BeginsAs bytes n bs) e s);
})

-- another part that fails with it
pub fails_map : (bytes : List ℕ) (Fails Others : List ℕ → Type 0) (i j : ℕ) (fault : Fault) → i ≤ j →
    ((bs : List ℕ) → BeginsAs bytes j bs → Fails (drop j bs) → Others (drop i bs)) → FailsAt bytes Fails j fault → FailsAt bytes Others i fault
fails_map bytes Fails Others i j fault le other h = record {
  begins = omega (arith, h.begins, le);
  within = h.within;
  part = h.part;
  fails = λ bs s. other bs (before bytes bs j fault.at h.begins s) (h.fails bs s);
}

-- a word is missing
pub word_missing : (bytes : List ℕ) (Fails : List ℕ → Type 0) (at : ℕ) (word : Bor (List ℕ)) (fault : Fault) → at ≤ length bytes → fault.at ≡ at →
    fault.missing ≡ Missing.Word word → BeginsWord word.now (drop at bytes) → after_word word.now (drop at bytes) ≡ None →
    ((bs : List ℕ) → BeginsAs bytes at bs → after_word word.now (drop at bs) ≡ None → Fails (drop at bs)) → FailsFor bytes Fails at fault
word_missing bytes Fails at word fault within there missing first none fails =
    let make : ℕ → Part.Missing → Fault = λ n m. record { at = n; missing = m } in
    let same : make at (Missing.Word word) ≡ fault = ap (λ n. make n (Missing.Word word)) (sym there) ∙ ap (make fault.at) (sym missing) in
    let here : at ≤ at = omega arith in
    subst (FailsFor bytes Fails at) same (record { begins = here; within = within; part = (first, none); here = fails bytes refl none; fails = fails })

-- a part that ends where another does, from a place on that isn't behind it
pub ends_map : (bytes : List ℕ) (Part Whole : List ℕ → List ℕ → Type 0) (i j n : ℕ) → i ≤ j →
    ((bs : List ℕ) → BeginsAs bytes j bs → SameEnds (Whole (drop i bs)) (Part (drop j bs))) → EndsAt bytes Part j n → EndsAt bytes Whole i n
ends_map bytes Part Whole i j n le same h = record {
  begins = omega (arith, h.begins, le);
  within = h.within;
  ends = λ bs s r. both (same bs (before bytes bs j n h.begins s) r) (h.ends bs s r);
}

pub scans_map : (bytes : List ℕ) (Part Whole : List ℕ → List ℕ → Type 0) (i j : ℕ) (x : Result ℕ Fault) → i ≤ j →
    ((bs : List ℕ) → BeginsAs bytes j bs → SameEnds (Whole (drop i bs)) (Part (drop j bs))) → Scans bytes Part j x → Scans bytes Whole i x
scans_map bytes Part Whole i j (Ok n) le same h = ends_map bytes Part Whole i j n le same h
scans_map bytes Part Whole i j (Err f) le same h =
    fails_map bytes (λ k. EndsNowhere (Part k)) (λ k. EndsNowhere (Whole k)) i j f le (λ bs s none r w. none r ((same bs s r).0 w)) h

-- a part, and the white space after it
pub spaced : (bytes : List ℕ) (Part : List ℕ → List ℕ → Type 0) (i j k : ℕ) → EndsAt bytes Part i j → j ≤ k → k ≤ length bytes →
    ((bs : List ℕ) → BeginsAs bytes k bs → drop k bs ≡ after_spaces (drop j bs)) → EndsAt bytes (Spaced Part) i k
spaced bytes Part i j k h le most follows = record {
  begins = omega (arith, h.begins, le);
  within = most;
  ends = λ bs s r.
      let only = h.ends bs (before bytes bs j k le s) in
      (λ t. t.2 ∙ (ap after_spaces ((only t.0).0 t.1) ∙ sym (follows bs s)), λ e. (drop j bs, (only (drop j bs)).1 refl, e ∙ follows bs s));
}

-- where there is a byte at the place, there is one
pub longer : (bytes bs : List ℕ) (at : ℕ) → at < length bytes → BeginsAs bytes at bs → at < length bs
longer bytes bs at h s = omega (arith, h, ap length s, length-take (at + 1) bs, length-take (at + 1) bytes)
