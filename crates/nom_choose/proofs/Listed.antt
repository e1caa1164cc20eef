-- How choices among the parsers of a list show their answers.
use Rattle.std.specs.Prelude.{◌≡◌, ℕ, ◌+◌, ◌<◌, List, [], ◌∷◌, ◌++◌, length, map, Err, Option, refl}
use Rattle.std.proofs.Common.{sym, ap, subst, ◌∙◌, get_or, take, set, suc, zero, arith, add-one}
use Rattle.std.proofs.lemmas.List.{length-map}
use Rattle.std.proofs.Math.Seq.{take-suc, take-length, map-set_same}
use Rattle.std.proofs.Math.ListN.{get_or-map}
use Rattle.nom_internal.specs.Prelude.{Needed, PResult, Refuses, Errors, Modes, Model, Meaning, ShowsMeaning, or_meaning, OnError, ClosesResult, ShowsNext}
use Rattle.nom_internal.specs.Prelude.{Grammar, Shows}
use Rattle.nom_error.specs.declared.answer.Err as Answer
use Rattle.nom_error.specs.declared.kind.ErrorKind.TheVariants.{Alt}
use Rattle.nom_internal.proofs.Cased.{labelled_shown}
use Rattle.nom_internal.proofs.Choices.{next_labelled, on_error_map, or_shown, closed_shown}
use Rattle.nom_internal.proofs.Shown.{refused}
use Rattle.nom_choose.specs.Lists.{branch_meaning, others_meaning, any_branch_meaning, list_meaning, IsElementAt, ListOutput}
use Rattle.nom_choose.specs.Sound.{runs_at}

stands_at : {S : Type 0} (ss : List S) (k : ℕ) (d : S) → k < length ss → IsElementAt ss k (get_or ss k d)
stands_at [] k d h = absurd (omega (arith, h))
stands_at (s ∷ ss) zero d h = refl
stands_at (s ∷ ss) (suc k) d h = stands_at ss k d (omega (arith, h))

take_length : {S : Type 0} (ss : List S) (k : ℕ) → k < length ss → length (take k ss) ≡ k
take_length [] k h = absurd (omega (arith, h))
take_length (s ∷ ss) zero h = refl
take_length (s ∷ ss) (suc k) h = ap suc (take_length ss k (omega (arith, h)))

take_whole : {S : Type 0} (xs : List S) (k : ℕ) → k ≡ length xs → take k xs ≡ xs
take_whole xs k h = ap (λ j. take j xs) h ∙ take-length xs

-- the state of the branch at k
state_at : {P S : Type 0} (st : P → S) (bs : List P) (ss : List S) (k : ℕ) (x : P) → map st bs ≡ ss → st (get_or bs k x) ≡ get_or ss k (st x)
state_at st bs ss k x h = sym (get_or-map st bs k x) ∙ ap (λ l. get_or l k (st x)) h

module _ {S I V E : Type 0} (e : Errors I E) (part : S → Meaning I V E) where
  -- one more branch at the end
  others_append : (m : Meaning I (ℕ × V) E) (k : ℕ) (xs : List S) (s : S) →
      others_meaning e part m k (xs ++ (s ∷ [])) ≡ or_meaning e.joined e.grows (others_meaning e part m k xs) (branch_meaning (k + length xs) (part s))
  others_append m k [] s =
      let same : k ≡ k + 0 = omega arith in
      ap (λ n. or_meaning e.joined e.grows m (branch_meaning n (part s))) same
  others_append m k (x ∷ xs) s =
      let same : (k + 1) + length xs ≡ k + length (x ∷ xs) = omega arith in
      let n = or_meaning e.joined e.grows m (branch_meaning k (part x)) in
      others_append n (k + 1) xs s ∙ ap (λ j. or_meaning e.joined e.grows (others_meaning e part n (k + 1) xs) (branch_meaning j (part s))) same

  any_append : (xs : List S) (s : S) → 0 < length xs → any_branch_meaning e part (xs ++ (s ∷ [])) ≡ or_meaning e.joined e.grows (any_branch_meaning e part xs)
      (branch_meaning (length xs) (part s))
  any_append [] s h = absurd (omega (arith, h))
  any_append (x ∷ xs) s h =
      let same : 1 + length xs ≡ length (x ∷ xs) = omega arith in
      let m = branch_meaning 0 (part x) in
      others_append m 1 xs s ∙ ap (λ j. or_meaning e.joined e.grows (others_meaning e part m 1 xs) (branch_meaning j (part s))) same

  any_more : (ss : List S) (k : ℕ) (d : S) → 0 < k → k < length ss →
      any_branch_meaning e part (take (k + 1) ss) ≡ or_meaning e.joined e.grows (any_branch_meaning e part (take k ss))
      (branch_meaning k (part (get_or ss k d)))
  any_more ss k d p h =
      let n = take_length ss k h in
      let more : take (k + 1) ss ≡ take k ss ++ (get_or ss k d ∷ []) = rw (add-one, take-suc ss k d h) refl in
      let some : 0 < length (take k ss) = omega (arith, n, p) in
      ap (λ l. any_branch_meaning e part l) more ∙
      (any_append (take k ss) (get_or ss k d) some ∙
      ap (λ j. or_meaning e.joined e.grows (any_branch_meaning e part (take k ss)) (branch_meaning j (part (get_or ss k d)))) n)

module _ {B S I V E : Type 0} (e : Errors I E) (part : S → Meaning I V E) (st : B → S) where
  -- each branch runs, as the calls before kept their states
  pub branch_runs : (bs os : List B) (k : ℕ) (x : B) → map st bs ≡ map st os → k < length bs → (list_meaning e part (map st os)).Runs →
      (part (st (get_or bs k x))).Runs
  branch_runs bs os k x same h p =
      let there : k < length (map st os) = omega (arith, h, ap length same, length-map bs st) in
      rw (state_at st bs (map st os) k x same) (runs_at e part (map st os) k (get_or (map st os) k (st x)) (stands_at (map st os) k (st x) there) p)

module _ {B S I A V O E : Type 0} (w : Model I A) (e : Errors I E) (part : S → Grammar I V O E) (st : B → S) (mode : Modes) (i : I) where
  abbrev means : S → Meaning I V E
  means s = (part s).meaning

  -- which outputs a tree of one of the branches stands for
  abbrev AnyOutput : List S → ℕ × V → O → Type 0
  AnyOutput = ListOutput (λ s. (part s).IsOutput)

  -- what is shown of the branches before k
  abbrev pub ShowsBefore : List B → ℕ → PResult I O E → Type 0
  ShowsBefore os k r = ShowsMeaning w (AnyOutput (map st os)) (any_branch_meaning e means (take k (map st os))) mode i r

  pub branch_first : (os : List B) (x : B) (r : PResult I O E) → 0 < length os →
      Shows w (part (st (get_or os 0 x))) mode i r → ShowsBefore os 1 r
  branch_first [] x r h t = absurd (omega (arith, h))
  branch_first (o ∷ os) x r h t =
      labelled_shown w (λ t. (0, t)) (part (st o)).IsOutput (AnyOutput (map st (o ∷ os))) (λ t o' k. (st o, refl, k)) (means (st o)) mode i r t

  state_step : (ss : List S) (k : ℕ) (d : S) (before r : PResult I O E) → 0 < k → k < length ss →
      ShowsMeaning w (AnyOutput ss) (any_branch_meaning e means (take k ss)) mode i before →
      OnError (ShowsNext w (part (get_or ss k d)).IsOutput e.joined e.grows (means (get_or ss k d)) mode i) before r →
      ShowsMeaning w (AnyOutput ss) (any_branch_meaning e means (take (k + 1) ss)) mode i r
  state_step ss k d before r p h t q =
      let z = get_or ss k d in
      let label : V → ℕ × V = λ t. (k, t) in
      let out = AnyOutput ss in
      let m = any_branch_meaning e means (take k ss) in
      let next = on_error_map (ShowsNext w (part z).IsOutput e.joined e.grows (means z) mode i)
      (ShowsNext w out e.joined e.grows (branch_meaning k (means z)) mode i) before r
      (λ x u. next_labelled w label (part z).IsOutput out (λ t o u. (z, stands_at ss k d h, u)) e.joined e.grows (means z) mode i x r u) q in
      subst (λ n. ShowsMeaning w out n mode i r) (sym (any_more e means ss k d p h))
      (or_shown w out e.joined e.grows m (branch_meaning k (means z)) mode i before r t next)

  pub branch_step : (bs os : List B) (k : ℕ) (x : B) (before r : PResult I O E) → map st bs ≡ map st os →
      0 < k → k < length bs → ShowsBefore os k before →
      OnError (ShowsNext w (part (st (get_or bs k x))).IsOutput e.joined e.grows (means (st (get_or bs k x))) mode i) before r → ShowsBefore os (k + 1) r
  branch_step bs os k x before r same p h t q =
      state_step (map st os) k (st x) before r p (omega (arith, h, ap length same, length-map bs st)) t
      (subst (λ z. OnError (ShowsNext w (part z).IsOutput e.joined e.grows (means z) mode i) before r) (state_at st bs (map st os) k x same) q)

  pub branch_close : (os : List B) (k : ℕ) (before r : PResult I O E) → 0 < length os → k ≡ length os →
      ShowsBefore os k before → ClosesResult (e.appended i Alt) e.grows before r →
      ShowsMeaning w (AnyOutput (map st os)) (list_meaning e means (map st os)) mode i r
  branch_close [] k before r h n t q = absurd (omega (arith, h))
  branch_close (o ∷ os) k before r h n t q =
      let ss = map st (o ∷ os) in
      let whole = take_whole ss k (n ∙ sym (length-map (o ∷ os) st)) in
      closed_shown w (AnyOutput ss) mode i (any_branch_meaning e means ss)
      (λ j. e.appended j Alt) e.grows before r (subst (λ l. ShowsMeaning w (AnyOutput ss) (any_branch_meaning e means l) mode i before) whole t) q

  pub branch_none : (os : List B) (f : Answer.Err E (Option E) Needed) → length os ≡ 0 → Refuses (e.of_kind i Alt) e.grows mode.errors f →
      ShowsMeaning w (AnyOutput (map st os)) (list_meaning e means (map st os)) mode i (Err f)
  branch_none [] f h m = refused m tt
  branch_none (o ∷ os) f h m = absurd (omega (arith, h))

-- a branch after a call
pub branch_kept : {B S : Type 0} (st : B → S) (bs os : List B) (k : ℕ) (x y : B) → map st bs ≡ map st os → st y ≡ st (get_or bs k x) →
    map st (set bs k y) ≡ map st os
branch_kept st bs os k x y same h = map-set_same st bs k y x h ∙ same
