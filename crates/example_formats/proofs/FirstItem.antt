-- Lemmas on the acceptances of a parser of one character, or of digits.
use Rattle.std.proofs.Common.{◌≡◌, ℕ, ◌<◌, ◌≤◌, Bool, true, false, List, [], ◌∷◌, ◌++◌, length, Ok, Bor, sym, ◌∙◌, ap, subst, arith, inl, inr, ◌⊎◌}
use Rattle.std.specs.Prelude.{◌==◌, chars, Some, None}
use Rattle.std.specs.Char.{len_utf8}
use Rattle.std.specs.List.{All}
use Rattle.std.proofs.lemmas.Bool.Decides.{nat_tests}
use Rattle.nom_internal.specs.Prelude.{IResult, IsSuffixOf, same_cut, Stops, Slice, IsModelledBy, text_model, text_lawful, Accept, Refuse, Stop, Fails, Needs}
use Rattle.nom_internal.specs.Prelude.{ParsesAnswer, ParseRanOut, Parsed, LeafAnswers}
use Rattle.nom_bytes.specs.ParsedRuns.{runs}
use Rattle.nom_character_first.specs.FirstItem.{heads}

abbrev Text : Type 0
Text = Bor (List ℕ)

abbrev CharAnswer : {E : Type 0} → (E → Type 0) → Type 0 → ℕ → Text → IResult Text ℕ E → Type 0
CharAnswer IsError RunsOut c i r = ParsesAnswer text_model (λ t x. x ≡ t) i
    (LeafAnswers (heads text_model (λ x. x) (λ x b. b ≡ (x == c)) (Some (len_utf8 c))) false i) IsError RunsOut r

same_code : (x c : ℕ) → true ≡ (x == c) → x ≡ c
same_code x c h = grind (arith, nat_tests)

-- after a front as long as the first character stands what follows it
pub after_head : (c x n : ℕ) (cs : List ℕ) (i j : Text) → chars i.now ≡ x ∷ cs → true ≡ (x == c) → n ≡ len_utf8 x → IsSuffixOf text_model i n j →
    chars i.now ≡ c ∷ chars j.now
after_head c x n cs i j e t l r =
    let cut = same_cut len_utf8 text_lawful.positive (x ∷ []) cs r.front (chars j.now) (sym e ∙ r.whole) (omega (arith, l, r.length_is)) in
    e ∙ (ap (λ ys. x ∷ ys) cut.1 ∙ ap (λ y. y ∷ chars j.now) (same_code x c t))

char_read : {E : Type 0} (IsError : E → Type 0) (RunsOut : Type 0) (c : ℕ) (i j : Text) (x : ℕ) → CharAnswer IsError RunsOut c i (Ok (j, x)) →
    chars i.now ≡ c ∷ chars j.now
char_read IsError RunsOut c i j x (ParseRanOut e h) = cc (e)
char_read IsError RunsOut c i j x (Parsed (Accept n t) a p) =
    let same : ◌≡◌ {A = Text × ℕ} (j, x) (p.0, p.1) = cc (p.4) in
    after_head c a.0 n a.1.rest i j a.1.whole a.2 a.3 (subst (λ k. IsSuffixOf text_model i n k) (sym (ap (λ q. q.0) same)) p.2)
char_read IsError RunsOut c i j x (Parsed Refuse a p) = cc (p.2)
char_read IsError RunsOut c i j x (Parsed (Stop (Fails cause)) a p) = absurd a
char_read IsError RunsOut c i j x (Parsed (Stop (Needs k)) a p) = cc (p.2)

pub char_taken : (k : ℕ) {E : Type 0} {IsError : E → Type 0} {RunsOut : Type 0} (c : ℕ) {i j : Text} {x : ℕ} → k ≡ c →
    CharAnswer IsError RunsOut k i (Ok (j, x)) → chars i.now ≡ c ∷ chars j.now
char_taken k {E} {IsError} {RunsOut} c {i} {j} {x} e h = subst (λ z. chars i.now ≡ z ∷ chars j.now) e (char_read IsError RunsOut k i j x h)

-- a run of characters that meet a test, one at least, and the rest after it
pub record IsRunRead (Test : ℕ → Bool → Type 0) (i d j : Text) : Type 0 where
  pub some : 0 < length (chars d.now)
  pub meets : All (λ c. Test c true) (chars d.now)
  pub stops : Stops (λ c. Test c false) (chars j.now)
  pub whole : chars i.now ≡ chars d.now ++ chars j.now

stops_at : (Test : ℕ → Bool → Type 0) (xs : List ℕ) → Stops (λ c. ⊥ ⊎ Test c false) xs → Stops (λ c. Test c false) xs
stops_at Test [] h = tt
stops_at Test (x ∷ xs) (inl h) = absurd h
stops_at Test (x ∷ xs) (inr h) = h

pub run_read : (Test : ℕ → Bool → Type 0) (i d j : Text) (n : ℕ) (t : Slice text_model) → LeafAnswers (runs text_model Test None 1) false i (Accept n t) →
    IsSuffixOf text_model i n j → IsModelledBy text_model t d → IsRunRead Test i d j
run_read Test i d j n t a r s =
    let cut = same_cut len_utf8 text_lawful.positive t.items a.0.first.rest r.front (chars j.now) (sym a.0.first.whole ∙ r.whole)
    (a.0.first.length_is ∙ sym r.length_is) in
    let enough : 1 ≤ length t.items = elim a.1 [ inl h ↦ h | inr h ↦ absurd h.0 ] in
    record {
      some = subst (λ xs. 0 < length xs) (sym s.elements_are) (omega (arith, enough));
      meets = subst (λ xs. All (λ c. Test c true) xs) (sym s.elements_are) a.0.meets;
      stops = subst (λ xs. Stops (λ c. Test c false) xs) cut.1 (stops_at Test a.0.first.rest a.0.stops);
      whole = a.0.first.whole ∙ (ap (λ ys. t.items ++ ys) cut.1 ∙ ap (λ xs. xs ++ chars j.now) (sym s.elements_are));
    }
