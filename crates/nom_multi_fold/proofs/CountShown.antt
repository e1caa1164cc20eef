-- Lemmas on the answers of counts of items: the number fits, since each item but a first one consumes.
use Rattle.std.proofs.Common.{◌≡◌, ℕ, ◌+◌, ◌-◌, ◌^◌, ◌<◌, ◌≤◌, Bool, true, false, Ok, Option, Some, ◌⊎◌, inl, inr, List, [], ◌∷◌, ◌++◌}
use Rattle.std.proofs.Common.{length, zero, suc, refl, arith, ap, subst}
use Rattle.nom_internal.specs.Prelude.{PResult, Errors, ErrorKind, Built, Modes, Model, InputLaws, IsSuffixOf, input_len, same_self, rest_related, Outcome}
use Rattle.nom_internal.specs.Prelude.{Accept, Refuse, Stop, GoesOn, after}
use Rattle.nom_internal.specs.Prelude.{Meaning, IsLawful, ShowsMeaning}
use Rattle.nom_error.specs.declared.kind.ErrorKind.TheVariants as Kind
use Rattle.nom_internal.proofs.Consumed.{rest_self, rest_length}
use Rattle.nom_internal.proofs.Shown.{Accepts, accepts, next_shown}
use Rattle.nom_repeat.specs.Repeat.{Pieces, Replies, TurnsBy}
use Rattle.nom_repeat.specs.Items.{item_turn, items_meaning}
use Rattle.nom_repeat.specs.Accumulated.{Accumulated}
use Rattle.nom_repeat.proofs.CountAccumulated.{CountPushes, count_of_none}
use Rattle.nom_repeat.proofs.Few.{taken_accepted, taken_consumes, accepted_tree, taken_within, few_accepted}
use Rattle.nom_repeat.proofs.Accumulating.{kept_both}
use Rattle.nom_repeat.proofs.Parts.{shown_by}
use Rattle.nom_multi_fold.specs.Counts.{IsCounted, IsNumber, many1_count_meaning}
use Rattle.nom_multi_fold.specs.Dropped.{dropped_meaning}
use Rattle.nom_multi_fold.specs.laws.DroppedLaws.{dropped_lawful}
use Rattle.nom_repeat.specs.Bounds.{any_limits, one_limits}
use Rattle.nom_repeat.specs.declared.items.Limits.{Limits}
use Rattle.nom_repeat.specs.declared.items.TooFew.TheVariants.{Fresh}

-- an accumulator of items, of which nothing is built
abbrev pub CountAccumulated : {V : Type 0} → Option ℕ → List V → ℕ → Type 0
CountAccumulated before vs n = Accumulated {T = Unit {0}} CountPushes (λ _. Unit {0}) (λ _ _. Unit {0}) before vs n

module _ {I A V E : Type 0} {w : Model I A} (errs : Errors I E) (m : Meaning I V E) {mode : Modes} {i : I} (fits : input_len w i < 2 ^ 64)
    {before : Option ℕ} (none : Built mode.outputs (λ n. n ≡ 0) before) where
  -- where each item consumes
  pub counted_shown : (b : Limits) (kind : ErrorKind) → b.empty ≡ Some kind → {r : PResult I ℕ E} →
      ShowsMeaning w (CountAccumulated before) (items_meaning w errs b ⊥ (dropped_meaning m)) mode i r →
      ShowsMeaning w IsNumber (items_meaning w errs b ⊥ (dropped_meaning m)) mode i r
  counted_shown b kind is h = shown_by (λ n vs x a k. omega (
    arith,
    fits,
    few_accepted w errs b ⊥ (dropped_meaning m) kind is mode.streaming i n vs a,
    count_of_none (λ _ _. Unit {0}) mode.outputs none vs x k,
  )) h

module _ {I A V : Type 0} (w : Model I A) (Item : I → Outcome V → Type 0) where
  -- a first item, or none
  first_piece : (Fact : ℕ → I → Type 0) (i : I) (vs : List V) (n : ℕ) →
      Pieces w (TurnsBy (Some 1) (item_turn (one_limits (Fresh Kind.Many1Count) true)) (λ _. Item)) Fact 0 i vs n → (vs ≡ []) ⊎
      ((a : ℕ) × (v : V) × (vs ≡ v ∷ []) × Item i (Accept a v) × (a ≤ n))
  first_piece Fact i [] n p = inl refl
  first_piece Fact i (v ∷ []) n p =
      let turn = p.3 in
      let reply = taken_accepted (one_limits (Fresh Kind.Many1Count) true) 0 turn.reply p.0 v turn.fact in
      inr (p.0, v, refl, answered turn.reply reply turn.replied, omega (arith, p.6))
    where
      answered : (r : Option (Outcome V)) → r ≡ Some (Accept p.0 v) → Replies (Some 1) (λ _. Item) 0 i r → Item i (Accept p.0 v)
      answered r e h = (subst (λ z. Replies (Some 1) (λ _. Item) 0 i z) e h).1
  first_piece Fact i (v ∷ u ∷ vs) n p =
      let turn = (p.5).3 in
      let reply = taken_accepted (one_limits (Fresh Kind.Many1Count) true) 1 turn.reply (p.5).0 u turn.fact in
      let below = (subst (λ z. Replies (Some 1) (λ _. Item) 1 p.2 z) reply turn.replied).0 in
      absurd (omega (arith, below))

accept_length : {V : Type 0} (n m : ℕ) (u v : V) → Accept n u ≡ Accept m v → n ≡ m
accept_length n m u v e = cc (e)

append_length : {V : Type 0} (vs us : List V) → length (vs ++ us) ≡ length vs + length us
append_length [] us = omega arith
append_length (v ∷ vs) us = omega (arith, append_length vs us)

module _ {I A V E : Type 0} (w : Model I A) (l : InputLaws w) (errs : Errors I E) (m : Meaning I V E) (lawful : IsLawful w m) (s : Bool) where
  -- after a first item that consumes nothing there is no other
  none_later : (Fact : ℕ → I → Type 0) (i j : I) (v : V) (us : List V) (n : ℕ) → w.IsKnown i → IsSuffixOf w i 0 j →
      (dropped_meaning m).answers s i (Accept 0 v) →
      Pieces w (TurnsBy (any_limits Kind.Many1Count).most (item_turn (any_limits Kind.Many1Count)) (λ _. (dropped_meaning m).answers s)) Fact 0 j us n →
      length us ≤ 0
  none_later Fact i j v [] n known r a p = omega arith
  none_later Fact i j v (u ∷ us) n known r a p =
      let turn = p.3 in
      let reply = taken_accepted (any_limits Kind.Many1Count) 0 turn.reply p.0 u turn.fact in
      let moves = taken_consumes (any_limits Kind.Many1Count) Kind.Many1Count refl 0 turn.reply p.0 u turn.fact in
      let again = (subst (λ z. Replies (any_limits Kind.Many1Count).most (λ _. (dropped_meaning m).answers s) 0 j z) reply turn.replied).1 in
      let same = rest_related w l false i i 0 i j (same_self w i) (rest_self w l i known) r in
      let one = (dropped_lawful lawful).one_outcome s i j (Accept 0 v) (Accept p.0 u) known r.known same a tt again in
      absurd (omega (arith, moves, accept_length 0 p.0 v u one))

  -- a first item and the later ones fit
  both_fit : (i j : I) (n : ℕ) (vs : List V) (k : ℕ) (us : List V) → input_len w i < 2 ^ 64 → w.IsKnown i →
      (items_meaning w errs (one_limits (Fresh Kind.Many1Count) true) ⊥ (dropped_meaning m)).answers s i (Accept n vs) → IsSuffixOf w i n j →
      (items_meaning w errs (any_limits Kind.Many1Count) ⊥ (dropped_meaning m)).answers s j (Accept k us) → length (vs ++ us) ≤ 2 ^ 64 - 1
  both_fit i j n vs k us fits known a r b =
      let first : vs ≡ a.trees = accepted_tree n a.taken a.trees vs a.ending a.outcome_is in
      let later : us ≡ b.trees = accepted_tree k b.taken b.trees us b.ending b.outcome_is in
      let few = few_accepted w errs (any_limits Kind.Many1Count) ⊥ (dropped_meaning m) Kind.Many1Count refl s j k us b in
      let within = taken_within n a.taken a.trees vs a.ending a.outcome_is in
      by n r (first_piece w ((dropped_meaning m).answers s) _ i a.trees a.taken a.pieces) within (ap length first) (ap length later) few
    where
      by : (n : ℕ) → IsSuffixOf w i n j → (a.trees ≡ []) ⊎
          ((c : ℕ) × (v : V) × (a.trees ≡ v ∷ []) × (dropped_meaning m).answers s i (Accept c v) × (c ≤ a.taken)) → a.taken ≤ n →
          length vs ≡ length a.trees → length us ≡ length b.trees → length us ≤ input_len w j → length (vs ++ us) ≤ 2 ^ 64 - 1
      by n r (inl e) within first later few = omega (arith, append_length vs us, ap length e, first, few, fits, rest_length r)
      by (suc n) r (inr h) within first later few = omega (arith, append_length vs us, ap length h.2, first, few, fits, rest_length r)
      by zero r (inr h) within first later few =
          let none : h.0 ≡ 0 = omega (arith, h.4, within) in
          let stays = subst (λ z. (dropped_meaning m).answers s i (Accept z h.1)) none h.3 in
          let end = none_later _ i j h.1 b.trees b.taken known r stays b.pieces in
          omega (arith, append_length vs us, ap length h.2, first, later, end)

  abbrev First : I → Outcome (List V) → Type 0
  First = (items_meaning w errs (one_limits (Fresh Kind.Many1Count) true) ⊥ (dropped_meaning m)).answers s

  abbrev Later : I → Outcome (List V) → Type 0
  Later = (items_meaning w errs (any_limits Kind.Many1Count) ⊥ (dropped_meaning m)).answers s

  -- so what is accepted of an input whose length fits are items whose number does
  module _ (i : I) (n : ℕ) (ts : List V) (known : w.IsKnown i) (fits : input_len w i < 2 ^ 64) where
    by_later : (c : ℕ) (vs : List V) → First i (Accept c vs) → (j : I) → IsSuffixOf w i c j → (p : Outcome (List V)) → Later j p →
        Accept n ts ≡ after c (λ us. vs ++ us) p → length ts < 2 ^ 64
    by_later c vs x j r (Accept k us) y e = let same : ts ≡ vs ++ us = cc (e) in omega (arith, ap length same, both_fit i j c vs k us fits known x r y)
    by_later c vs x j r Refuse y e = cc (e)
    by_later c vs x j r (Stop why) y e = cc (e)

    by_first : (o : Outcome (List V)) → First i o → GoesOn w (λ vs us. vs ++ us) (λ _. Later) i o (Accept n ts) → length ts < 2 ^ 64
    by_first (Accept c vs) x g = by_later c vs x g.0 g.2 g.1 g.3 g.4
    by_first Refuse x g = cc (g)
    by_first (Stop why) x g = cc (g)

  pub few : (i : I) (n : ℕ) (ts : List V) → w.IsKnown i → input_len w i < 2 ^ 64 → (many1_count_meaning w errs m).answers s i (Accept n ts) → length ts < 2 ^ 64
  few i n ts known fits a = by_first i n ts known fits a.first a.answered a.goes_on

module _ {I A V E : Type 0} {w : Model I A} (l : InputLaws w) (errs : Errors I E) (m : Meaning I V E) (lawful : m.IsSound → IsLawful w m) {mode : Modes}
    {i : I} (known : w.IsKnown i) (fits : input_len w i < 2 ^ 64) {before : Option ℕ} (none : Built mode.outputs (λ n. n ≡ 0) before) where
  pub count1_shown : {j : I} {x : Option ℕ} {r : PResult I ℕ E} →
      ShowsMeaning w (CountAccumulated before) (items_meaning w errs (one_limits (Fresh Kind.Many1Count) true) ⊥ (dropped_meaning m)) mode i (Ok (j, x)) →
      ShowsMeaning w (CountAccumulated x) (items_meaning w errs (any_limits Kind.Many1Count) ⊥ (dropped_meaning m)) mode j r →
      ShowsMeaning w (IsCounted m.IsSound) (many1_count_meaning w errs m) mode i r
  count1_shown {j = j} {x = x} {r = r} h more =
      let a : Accepts w (CountAccumulated before) mode.outputs i
      ((items_meaning w errs (one_limits (Fresh Kind.Many1Count) true) ⊥ (dropped_meaning m)).answers mode.streaming i) j x = accepts h in
      next_shown w l (λ vs us. vs ++ us) _ _ _ _ _ _ (IsCounted m.IsSound) mode i j a.length a.tree a.answered a.rest_is r
      (shown_by (λ n us y b k.
      let number = count_of_none (λ _ _. Unit {0}) mode.outputs none (a.tree ++ us) y
      (kept_both CountPushes (λ _. Unit {0}) (λ _ _. Unit {0}) mode.outputs before x a.tree us y a.built_is k) in (
        (λ sound. omega (arith, number, both_fit w l errs m (lawful sound) mode.streaming i j a.length a.tree n us fits known a.answered a.rest_is b)),
        number,
      )) more)
