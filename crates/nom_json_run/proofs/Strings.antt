-- Characters of strings, by their first byte.
use Rattle.std.specs.Prelude.{◌≡◌, ℕ, ◌+◌, ◌==◌, ◌≤◌, ◌↔◌, Bool, true, false, if◌then◌else◌, List, [], ◌∷◌, Option, Some, None, length, drop, refl}
use Rattle.std.proofs.Common.{arith, sym, ◌∙◌, ap, subst, length-drop}
use Rattle.std.proofs.lemmas.List.{drop-drop}
use Rattle.nom_json_run.specs.Json.{JsonCharacters, after_all, after_escape, and_then, begins, first_is, is_plain_code, rest}
use Rattle.nom_json_run.specs.Json.JsonCharacters.{close, plain, escape}
use Rattle.nom_json_run.specs.Scans.{BeginsAs, EndsNowhere, SameEnds}
use Rattle.nom_json_run.proofs.Decisions.{Decides, EndsIf, Finds, if_not, if_some, led, left}
use Rattle.nom_json_run.proofs.Alike.{before, both, first_there, later}
use Rattle.nom_json_run.proofs.Values.{differ, one_head}

-- a byte is of one class alone
no_quote : (xs : List ℕ) → first_is is_plain_code xs ≡ true → begins 34 xs ≡ true → ⊥
no_quote [] p q = cc
no_quote (b ∷ bs) p q = grind (arith, p, q)

no_backslash : (xs : List ℕ) → first_is is_plain_code xs ≡ true → begins 92 xs ≡ true → ⊥
no_backslash [] p q = cc
no_backslash (b ∷ bs) p q = grind (arith, p, q)

plain_to : (xs r : List ℕ) → first_is is_plain_code xs ≡ true → JsonCharacters xs r → JsonCharacters (rest xs) r
plain_to xs r p (close q e) = absurd (no_quote xs p q)
plain_to xs r p (plain q h) = h
plain_to xs r p (escape j q e h) = absurd (no_backslash xs p q)

plain_over : (t : Bool) (b : ℕ) (bs r : List ℕ) → is_plain_code b ≡ t → (JsonCharacters bs r ↔ JsonCharacters (after_all is_plain_code bs) r) →
    JsonCharacters (b ∷ bs) r ↔ JsonCharacters (if t then after_all is_plain_code bs else b ∷ bs) r
plain_over true b bs r e k = both (λ h. plain_to (b ∷ bs) r e h, λ h. plain e h) k
plain_over false b bs r e k = (λ h. h, λ h. h)

pub plains : (xs r : List ℕ) → JsonCharacters xs r ↔ JsonCharacters (after_all is_plain_code xs) r
plains [] r = (λ h. h, λ h. h)
plains (b ∷ bs) r = plain_over (is_plain_code b) b bs r refl (plains bs r)

pub close_to : (xs r : List ℕ) → begins 34 xs ≡ true → JsonCharacters xs r → r ≡ rest xs
close_to xs r p (close q e) = e
close_to xs r p (plain q h) = absurd (no_quote xs q p)
close_to xs r p (escape j q e h) = absurd (one_head 34 92 xs refl p q)

escape_from : (xs r : List ℕ) → begins 92 xs ≡ true → JsonCharacters xs r → (k : List ℕ) × (after_escape (rest xs) ≡ Some k) × JsonCharacters k r
escape_from xs r p (close q e) = absurd (one_head 34 92 xs refl q p)
escape_from xs r p (plain q h) = absurd (no_backslash xs q p)
escape_from xs r p (escape k q e h) = (k, e, h)

no_character : (xs : List ℕ) → first_is is_plain_code xs ≡ false → begins 34 xs ≡ false → begins 92 xs ≡ false → EndsNowhere (JsonCharacters xs)
no_character xs p q s r (close e f) = differ (begins 34 xs) e q
no_character xs p q s r (plain e h) = differ (first_is is_plain_code xs) e p
no_character xs p q s r (escape j e f h) = differ (begins 92 xs) e s

-- Characters stand before a place, whatever follows the byte there.
pub record Passes (xs : List ℕ) (n : ℕ) : Type 0 where
  pub within : n ≤ length xs
  pub same : (bs : List ℕ) → BeginsAs xs n bs → SameEnds (JsonCharacters bs) (JsonCharacters (drop n bs))

pub passes_none : (xs : List ℕ) → Passes xs 0
passes_none xs = record { within = omega arith; same = λ bs s r. (λ h. h, λ h. h) }

ends_if : (t : Bool) (Ends Others : List ℕ → Type 0) (j : List ℕ) → SameEnds Ends Others → EndsIf t Others j → EndsIf t Ends j
ends_if true Ends Others j same h = λ r. both (same r) (h r)
ends_if false Ends Others j same h = λ r f. h r ((same r).0 f)

module _ {xs : List ℕ} {n : ℕ} (p : Passes xs n) where
  passed : (m : ℕ) (bs : List ℕ) → BeginsAs xs (n + m) bs → SameEnds (JsonCharacters bs) (JsonCharacters (drop n bs))
  passed m bs s = let le : n ≤ n + m = omega arith in p.same bs (before xs bs n (n + m) le s)

  pub passes_more : {m : ℕ} → Passes (drop n xs) m → Passes xs (n + m)
  passes_more {m} q = record {
    within = omega (arith, p.within, q.within, length-drop n xs);
    same = λ bs s r. both (passed m bs s r)
        (subst (λ cs. JsonCharacters (drop n bs) r ↔ JsonCharacters cs r) (drop-drop m n bs) (q.same (drop n bs) (later xs bs n m s) r));
  }

  pub passes_finds : {m : ℕ} {t : Bool} → Finds JsonCharacters t (drop n xs) m → Finds JsonCharacters t xs (n + m)
  passes_finds {m} {t} q = record {
    within = omega (arith, p.within, q.within, length-drop n xs);
    ends = λ bs s. ends_if t (JsonCharacters bs) (JsonCharacters (drop n bs)) (drop (n + m) bs) (passed m bs s)
        (subst (EndsIf t (JsonCharacters (drop n bs))) (drop-drop m n bs) (q.ends (drop n bs) (later xs bs n m s)));
  }

-- plain characters
abbrev pub after_plain : List ℕ → Option (List ℕ)
after_plain bs = Some (after_all is_plain_code bs)

stops_at : (test : ℕ → Bool) (b : ℕ) (bs : List ℕ) (t : Bool) → test b ≡ t → first_is test (after_all test bs) ≡ false →
    first_is test (if t then after_all test bs else b ∷ bs) ≡ false
stops_at test b bs true e f = f
stops_at test b bs false e f = e

pub stops_first : (test : ℕ → Bool) (xs : List ℕ) → first_is test (after_all test xs) ≡ false
stops_first test [] = refl
stops_first test (b ∷ bs) = stops_at test b bs (test b) refl (stops_first test bs)

pub some_is : (xs ys : List ℕ) → Some xs ≡ Some ys → xs ≡ ys
some_is xs ys e = cc (e)

-- past plain characters, or an escape and plain characters after it, no plain one stands
pub record Past (xs : List ℕ) (n : ℕ) : Type 0 where
  pub passes : Passes xs n
  pub next : first_is is_plain_code (drop n xs) ≡ false

pub plain_past : {xs : List ℕ} {n : ℕ} → Decides after_plain true xs n → Past xs n
plain_past {xs} {n} h = record {
  passes = record {
    within = h.within;
    same = λ bs s r. subst (λ cs. JsonCharacters bs r ↔ JsonCharacters cs r) (some_is (after_all is_plain_code bs) (drop n bs) (h.same bs s)) (plains bs r);
  };
  next = ap (first_is is_plain_code) (sym (some_is (after_all is_plain_code xs) (drop n xs) (h.same xs refl))) ∙ stops_first is_plain_code xs;
}

abbrev pub after_piece : List ℕ → Option (List ℕ)
after_piece bs = and_then (after_escape bs) after_plain

piece_some : (o : Option (List ℕ)) (j : List ℕ) → and_then o after_plain ≡ Some j → (k : List ℕ) × (o ≡ Some k) × (after_all is_plain_code k ≡ j)
piece_some (Some k) j e = (k, refl, some_is (after_all is_plain_code k) j e)
piece_some None j e = absurd (cc (e))

piece_none : (o : Option (List ℕ)) → and_then o after_plain ≡ None → o ≡ None
piece_none (Some k) e = absurd (cc (e))
piece_none None e = refl

-- what is left past a backslash, the rest of its escape, and plain characters
pub piece_left : (xs j : List ℕ) → led (λ b. b == 92) after_piece xs ≡ Some j →
    (begins 92 xs ≡ true) × ((k : List ℕ) × (after_escape (rest xs) ≡ Some k) × (after_all is_plain_code k ≡ j))
piece_left xs j e =
    let first = if_some (begins 92 xs) (after_piece (rest xs)) j e in
    (first, piece_some (after_escape (rest xs)) j (sym (ap (λ t. if t then after_piece (rest xs) else None) first) ∙ e))

pub piece_same : (xs j : List ℕ) → led (λ b. b == 92) after_piece xs ≡ Some j → SameEnds (JsonCharacters xs) (JsonCharacters j)
piece_same xs j e r =
    let f = piece_left xs j e in
    let k = f.1.0 in
    let same : JsonCharacters k r ↔ JsonCharacters j r = subst (λ cs. JsonCharacters k r ↔ JsonCharacters cs r) f.1.2 (plains k r) in
    both (
      λ h. let g = escape_from xs r f.0 h in subst (λ cs. JsonCharacters cs r) (some_is g.0 k (sym g.1 ∙ f.1.1)) g.2,
      λ h. escape k f.0 f.1.1 h,
    ) same

pub piece_past : {xs : List ℕ} {n : ℕ} → Decides (led (λ b. b == 92) after_piece) true xs n → Past xs n
piece_past {xs} {n} h =
    let f = piece_left xs (drop n xs) (h.same xs refl) in
    record {
      passes = record { within = h.within; same = λ bs s. piece_same bs (drop n bs) (h.same bs s) };
      next = ap (first_is is_plain_code) (sym f.1.2) ∙ stops_first is_plain_code f.1.0;
    }

pub piece_lacks : {xs : List ℕ} {n : ℕ} → begins 92 xs ≡ true → Decides (led (λ b. b == 92) after_piece) false xs n → Finds JsonCharacters false xs n
piece_lacks {xs} {n} e h = record {
  within = h.within;
  ends = λ bs s r j.
      let le : 0 ≤ n = omega arith in
      let first = first_there (λ b. b == 92) xs bs 0 n true le s e in
      let none = piece_none (after_escape (rest bs)) (sym (ap (λ t. if t then after_piece (rest bs) else None) first) ∙ h.same bs s) in
      let g = escape_from bs r first j in
      cc (none, g.1);
}

-- the quote that closes a string, where no other character stands
left_at : (t : Bool) (n : ℕ) (bs : List ℕ) → left t n bs ≡ left t 0 (drop n bs)
left_at true n bs = refl
left_at false n bs = refl

closes : (t : Bool) (xs j : List ℕ) → first_is is_plain_code xs ≡ false → begins 92 xs ≡ false → led (λ b. b == 34) Some xs ≡ left t 0 j →
    EndsIf t (JsonCharacters xs) j
closes true xs j p q e =
    let first = if_some (begins 34 xs) (Some (rest xs)) j e in
    let same = some_is (rest xs) j (sym (ap (λ t. if t then Some (rest xs) else None) first) ∙ e) in
    λ r. (λ h. close_to xs r first h ∙ same, λ f. close first (f ∙ sym same))
closes false xs j p q e = no_character xs p (if_not (begins 34 xs) (rest xs) e) q

pub quote_finds : {t : Bool} {xs : List ℕ} {n : ℕ} → first_is is_plain_code xs ≡ false → begins 92 xs ≡ false → Decides (led (λ b. b == 34) Some) t xs n →
    Finds JsonCharacters t xs n
quote_finds {t} {xs} {n} p q h = record {
  within = h.within;
  ends = λ bs s.
      let le : 0 ≤ n = omega arith in
      closes t bs (drop n bs) (first_there is_plain_code xs bs 0 n false le s p) (first_there (λ b. b == 92) xs bs 0 n false le s q)
      (h.same bs s ∙ left_at t n bs);
}
