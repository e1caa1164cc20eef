-- Lemmas on the answers of a function of nested brackets, from what its parts answered.
use Rattle.std.proofs.Common.{◌≡◌, ℕ, ◌+◌, ◌≤◌, zero, suc, Bool, true, false, List, [], ◌∷◌, ◌++◌, drop, length, Ok, Err, Bor, refl, sym, ◌∙◌}
use Rattle.std.proofs.Common.{ap, subst, arith, inl, inr}
use Rattle.std.specs.Prelude.{◌==◌, cond}
use Rattle.std.specs.Result.{IsErrAnd, IsErr}
use Rattle.std.proofs.lemmas.Bool.Decides.{nat_tests}
use Rattle.std.proofs.Math.Seq.{drop-append_seam}
use Rattle.std.proofs.lemmas.List.{drop-drop}
use Rattle.nom_internal.specs.Prelude.{IResult, Needed, bytes_model, bytes_lawful, IsSuffixOf, items_len, rest_rest, items_len-ones, Accept, Refuse}
use Rattle.nom_internal.specs.Prelude.{Stop, Fails, Needs, ParseRanOut, Parsed, ParsesMeaning}
use Rattle.nom_error.specs.declared.answer.Err as Answer
use Rattle.nom_error.specs.declared.answer.Err.TheVariants as Answered
use Rattle.nom_error.specs.declared.kind.ErrorKind.TheVariants.{Char}
use Rattle.nom_error.specs.declared.value.Error.{Error}
use Rattle.nom_error.specs.PlainErrors.{plain_errors}
use Rattle.nom_internal.proofs.Consumed.{rest_self}
use Rattle.nom_internal.proofs.Shown.{err_from_residual}
use Rattle.nom_character_first.specs.FirstItem.{IsFirstItem, char_meaning}
use Rattle.example_grammars.specs.Brackets.{run_of, opened, closed, IsNested, IsOpen, MissesBracket, brackets_meaning}

abbrev Bytes : Type 0
Bytes = Bor (List ℕ)

abbrev Result_of : Type 0 → Type 0
Result_of T = IResult Bytes T (Error Bytes)

-- what the parser of one character answers at i
abbrev CharAnswer : ℕ → Bytes → Result_of ℕ → Type 0
CharAnswer c i r = ParsesMeaning bytes_model (λ t x. x ≡ t) (char_meaning bytes_model (λ b. b) plain_errors c) false i r

abbrev NestedAnswer : Bytes → Result_of ℕ → Type 0
NestedAnswer i r = ParsesMeaning bytes_model (λ t n. n ≡ t) brackets_meaning false i r

same_code : (x c : ℕ) → true ≡ (x == c) → x ≡ c
same_code x c h = grind (arith, nat_tests)

-- the items after the first one
after_one : (xs front ys : List ℕ) (x : ℕ) (rest : List ℕ) → xs ≡ front ++ ys → items_len (λ _. 1) front ≡ 1 → xs ≡ x ∷ rest → xs ≡ x ∷ ys
after_one xs [] ys x rest e h f = absurd (omega (arith, h))
after_one xs (y ∷ []) ys x rest e h f = let same : y ∷ ys ≡ x ∷ rest = sym e ∙ f in let head : y ≡ x = cc (same) in e ∙ ap (λ z. z ∷ ys) head
after_one xs (y ∷ (z ∷ zs)) ys x rest e h f = absurd (omega (arith, h))

-- a character that was read
pub record IsTaken (c : ℕ) (i j : Bytes) : Type 0 where
  pub whole : i.now ≡ c ∷ j.now
  pub rest : IsSuffixOf bytes_model i 1 j

taken_by : (c n x : ℕ) (i j : Bytes) → IsFirstItem bytes_model i x → true ≡ (x == c) → n ≡ 1 → IsSuffixOf bytes_model i n j → IsTaken c i j
taken_by c n x i j h t e p =
    let one = subst (λ m. IsSuffixOf bytes_model i m j) e p in
    record {
      whole = after_one i.now one.front j.now x h.rest one.whole one.length_is h.whole ∙ ap (λ z. z ∷ j.now) (same_code x c t);
      rest = one;
    }

taken : {c : ℕ} {i j : Bytes} {x : ℕ} → CharAnswer c i (Ok (j, x)) → IsTaken c i j
taken (ParseRanOut e h) = cc (e)
taken {c} {i} {j} {x} (Parsed (Accept n t) a p) =
    let same : ◌≡◌ {A = Bytes × ℕ} (j, x) (p.0, p.1) = cc (p.4) in
    taken_by c n a.0 i j a.1 a.2 a.3 (subst (λ k. IsSuffixOf bytes_model i n k) (sym (ap (λ q. q.0) same)) p.2)
taken (Parsed Refuse a p) = cc (p.2)
taken (Parsed (Stop (Fails cause)) a p) = absurd a
taken (Parsed (Stop (Needs k)) a p) = cc (p.2)

pub char_taken : (c k : ℕ) {i j : Bytes} {x : ℕ} → c ≡ k → CharAnswer c i (Ok (j, x)) → IsTaken k i j
char_taken c k {i} {j} e h = subst (λ z. IsTaken z i j) e (taken {c = c} h)

-- a character that doesn't stand first
pub record IsMissed (c : ℕ) (i : Bytes) (e : Answer.Err (Error Bytes) (Error Bytes) Needed) : Type 0 where
  pub none : run_of c i.now ≡ 0
  pub error : e ≡ Answered.Error (record { input = i; code = Char })

other_first : (c x : ℕ) (xs rest : List ℕ) → xs ≡ x ∷ rest → false ≡ (x == c) → run_of c xs ≡ 0
other_first c x xs rest e f = ap (run_of c) e ∙ ap (λ b. cond b (1 + run_of c rest) 0) (sym f)

error_by : {i : Bytes} {e : Answer.Err (Error Bytes) (Error Bytes) Needed} {x : Error Bytes} →
    (let r : Result_of ℕ = Err e in r ≡ Err (Answered.Error x)) → x ≡ record { input = i; code = Char } → e ≡ Answered.Error (record { input = i; code = Char })
error_by p q = cc (p, q)

missed : {c : ℕ} {i : Bytes} {e : Answer.Err (Error Bytes) (Error Bytes) Needed} → (let r : Result_of ℕ = Err e in CharAnswer c i r) → IsMissed c i e
missed (ParseRanOut e h) = absurd h.2
missed (Parsed (Accept n t) a p) = cc (p.4)
missed {c} {i} {e} (Parsed Refuse (inl a) p) = record { none = other_first c a.0 i.now a.1.rest a.1.whole a.2; error = error_by p.2 p.1 }
missed {c} {i} {e} (Parsed Refuse (inr a) p) = record { none = ap (run_of c) a.1; error = error_by p.2 p.1 }
missed (Parsed (Stop (Fails cause)) a p) = absurd a
missed (Parsed (Stop (Needs k)) a p) = cc (a.0)

pub char_missed : (c k : ℕ) {i : Bytes} {e : Answer.Err (Error Bytes) (Error Bytes) Needed} → c ≡ k →
    (let r : Result_of ℕ = Err e in CharAnswer c i r) → IsMissed k i e
char_missed c k {i} {e} q h = subst (λ z. IsMissed z i e) q (missed {c = c} h)

-- what a recursive call answered, accepting
pub record IsInner (i j : Bytes) (depth : ℕ) : Type 0 where
  pub deep : depth ≡ opened i.now
  pub closes : depth ≤ closed i.now
  pub rest : IsSuffixOf bytes_model i (depth + depth) j

inner_by : (i j : Bytes) (n d : ℕ) → IsNested i n d → IsSuffixOf bytes_model i n j → IsInner i j d
inner_by i j n d a p = record { deep = a.0; closes = a.1; rest = subst (λ m. IsSuffixOf bytes_model i m j) a.2 p }

pub inner_taken : {i j : Bytes} {d : ℕ} → NestedAnswer i (Ok (j, d)) → IsInner i j d
inner_taken (ParseRanOut e h) = cc (e)
inner_taken {i} {j} {d} (Parsed (Accept n t) a p) =
    let same : ◌≡◌ {A = Bytes × ℕ} (j, d) (p.0, p.1) = cc (p.4) in
    let depth : t ≡ d = sym p.3 ∙ sym (ap (λ q. q.1) same) in
    inner_by i j n d (subst (λ k. IsNested i n k) depth a) (subst (λ k. IsSuffixOf bytes_model i n k) (sym (ap (λ q. q.0) same)) p.2)
inner_taken (Parsed Refuse a p) = cc (p.2)
inner_taken (Parsed (Stop (Fails cause)) a p) = absurd a
inner_taken (Parsed (Stop (Needs k)) a p) = cc (p.2)

-- and refusing
pub record IsInnerOpen (i : Bytes) (e : Answer.Err (Error Bytes) (Error Bytes) Needed) : Type 0 where
  pub held : Error Bytes
  pub unclosed : IsOpen i
  pub misses : MissesBracket i held
  pub error : e ≡ Answered.Error held

pub inner_open : {i : Bytes} {e : Answer.Err (Error Bytes) (Error Bytes) Needed} → (let r : Result_of ℕ = Err e in NestedAnswer i r) → IsInnerOpen i e
inner_open (ParseRanOut e h) = absurd h.2
inner_open (Parsed (Accept n t) a p) = cc (p.4)
inner_open {i} {e} (Parsed Refuse a p) = record { held = p.0; unclosed = a; misses = p.1; error = cc (p.2) }
inner_open (Parsed (Stop (Fails cause)) a p) = absurd a
inner_open (Parsed (Stop (Needs k)) a p) = absurd (cc (a.0))

drop_next : (x n : ℕ) (xs : List ℕ) → drop (1 + n) (x ∷ xs) ≡ drop n xs
drop_next x n xs = let e : 1 + n ≡ suc n = omega arith in ap (λ k. drop k (x ∷ xs)) e

-- a bracket that opens before a list
opened_more : (xs ys : List ℕ) → xs ≡ 40 ∷ ys → opened xs ≡ 1 + opened ys
opened_more xs ys e = ap opened e

closed_more : (xs ys : List ℕ) → xs ≡ 40 ∷ ys → closed xs ≡ closed ys
closed_more xs ys e = ap closed e ∙ ap (run_of 41) (drop_next 40 (opened ys) ys)

past_head : (b : Bool) (k r s : ℕ) → suc k ≤ cond b (1 + r) 0 → (k ≤ r → r ≡ k + s) → cond b (1 + r) 0 ≡ suc k + s
past_head true k r s h f = let e = f (omega (arith, h)) in omega (arith, e)
past_head false k r s h f = absurd (omega (arith, h))

-- a run goes on after its first items
run_past : (byte k : ℕ) (zs : List ℕ) → k ≤ run_of byte zs → run_of byte zs ≡ k + run_of byte (drop k zs)
run_past byte zero zs h = omega arith
run_past byte (suc k) [] h = absurd (omega (arith, h))
run_past byte (suc k) (z ∷ zs) h = past_head (z == byte) k (run_of byte zs) (run_of byte (drop k zs)) h (run_past byte k zs)

-- how many close, where that many did and the others are after
closed_past : (ys front bs : List ℕ) (d : ℕ) → d ≡ opened ys → d ≤ closed ys → ys ≡ front ++ bs → items_len (λ _. 1) front ≡ d + d →
    closed ys ≡ d + run_of 41 bs
closed_past ys front bs d e h f l =
    let after : drop d (drop d ys) ≡ bs =
    drop-drop d d ys ∙ (ap (λ n. drop n ys) (sym l ∙ items_len-ones front) ∙ (ap (drop (length front)) f ∙ drop-append_seam front bs)) in
    run_past 41 d (drop (opened ys) ys) h ∙ ap (λ zs. d + run_of 41 zs) (ap (λ n. drop d (drop n ys)) (sym e) ∙ after)

-- nothing opens
pub nested_none : {i : Bytes} {e : Answer.Err (Error Bytes) (Error Bytes) Needed} → bytes_model.IsKnown i → IsMissed 40 i e → NestedAnswer i (Ok (i, 0))
nested_none {i} h m = Parsed (Accept 0 0) (sym m.none, omega arith, refl) (i, 0, rest_self bytes_model bytes_lawful i h, refl, refl)

-- as many close as opened
pub nested_taken : {i inside after rest : Bytes} {d : ℕ} → IsTaken 40 i inside → IsInner inside after d → IsTaken 41 after rest →
    NestedAnswer i (Ok (rest, d + 1))
nested_taken {i} {inside} {after} {rest} {d} o n c =
    let past = closed_past inside.now n.rest.front after.now d n.deep n.closes n.rest.whole n.rest.length_is in
    let one : run_of 41 after.now ≡ 1 + run_of 41 rest.now = ap (run_of 41) c.whole in
    let deep : d + 1 ≡ opened i.now = omega (arith, n.deep, opened_more i.now inside.now o.whole) in
    let closes : d + 1 ≤ closed i.now = omega (arith, past, one, closed_more i.now inside.now o.whole) in
    let after_all = rest_rest bytes_model bytes_lawful i 1 inside (d + d + 1) rest o.rest
    (rest_rest bytes_model bytes_lawful inside (d + d) after 1 rest n.rest c.rest) in
    Parsed (Accept (1 + (d + d + 1)) (d + 1)) (deep, closes, omega arith) (rest, d + 1, after_all, refl, refl)

-- an error at a rest, of what opened and closed before it
refused_at : {i : Bytes} {e : Answer.Err (Error Bytes) (Error Bytes) Needed} {r : Result_of ℕ} (x : Error Bytes) → IsOpen i → MissesBracket i x →
    e ≡ Answered.Error x → IsErr r × IsErrAnd r (λ y. y ≡ e) → NestedAnswer i r
refused_at x o m e q = Parsed Refuse o (x, m, err_from_residual q ∙ ap Err e)

-- one is missing inside
pub nested_inner : {i inside : Bytes} {e : Answer.Err (Error Bytes) (Error Bytes) Needed} {r : Result_of ℕ} → IsTaken 40 i inside →
    IsInnerOpen inside e → IsErr r × IsErrAnd r (λ y. y ≡ e) → NestedAnswer i r
nested_inner {i} {inside} o n q =
    let more = opened_more i.now inside.now o.whole in
    let same = closed_more i.now inside.now o.whole in
    let count : 1 + (opened inside.now + closed inside.now) ≡ opened i.now + closed i.now = omega (arith, more, same) in
    refused_at n.held (omega (arith, more, same, n.unclosed)) (
      subst (λ m. IsSuffixOf bytes_model i m n.held.input) count
          (rest_rest bytes_model bytes_lawful i 1 inside (opened inside.now + closed inside.now) n.held.input o.rest n.misses.0),
      n.misses.1,
    ) n.error q

-- the last one is missing
pub nested_missed : {i inside after : Bytes} {d : ℕ} {e : Answer.Err (Error Bytes) (Error Bytes) Needed} {r : Result_of ℕ} → IsTaken 40 i inside →
    IsInner inside after d → IsMissed 41 after e → IsErr r × IsErrAnd r (λ y. y ≡ e) → NestedAnswer i r
nested_missed {i} {inside} {after} {d} o n m q =
    let more = opened_more i.now inside.now o.whole in
    let same = closed_more i.now inside.now o.whole in
    let past = closed_past inside.now n.rest.front after.now d n.deep n.closes n.rest.whole n.rest.length_is in
    let count : 1 + (d + d) ≡ opened i.now + closed i.now = omega (arith, more, same, past, n.deep, m.none) in
    refused_at (record { input = after; code = Char }) (omega (arith, more, same, past, n.deep, m.none))
    (subst (λ k. IsSuffixOf bytes_model i k after) count (rest_rest bytes_model bytes_lawful i 1 inside (d + d) after o.rest n.rest), refl) m.error q
