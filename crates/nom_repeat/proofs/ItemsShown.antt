-- Lemmas on the answers of items within limits.
use Rattle.std.proofs.Common.{◌≡◌, ℕ, ◌<◌, Bool, true, false, Ok, Err, Option, Some, None, ◌⊎◌, List, ◌∷◌, [], ◌++◌, length, refl, zero, suc}
use Rattle.std.proofs.Common.{arith, inl, inr, ap, subst, sym}
use Rattle.std.specs.Prelude.{ltb, if◌then◌else◌}
use Rattle.nom_internal.specs.Prelude.{Errors, Needed, Error, OutOfMemory, ErrorKind, Built, Modes, modes, PResult, Refuses}
use Rattle.nom_internal.specs.Prelude.{Grammar, Shows}
use Rattle.nom_internal.specs.Prelude.{Model, InputLaws, IsSuffixOf, input_len, Outcome, Accept, Refuse, Meaning}
use Rattle.nom_internal.specs.Prelude.{ShowsMeaning, always, ClosesError}
use Rattle.nom_error.specs.declared.answer.Err as Answer
use Rattle.nom_internal.proofs.Shown.{Accepts, built_error}
use Rattle.nom_internal.proofs.Choices.{closes_built}
use Rattle.nom_repeat.specs.Repeat.{IsBelow, TurnsBy}
use Rattle.nom_repeat.specs.Repeat.Turn.{Takes, Ends}
use Rattle.nom_repeat.specs.Items.{empty_turn, refused_turn, item_turn, item_errors, AreLimits, NeverFew, IsNever, items_rule, items_meaning, OfKind}
use Rattle.nom_repeat.specs.Items.{FewBlames, MakesError, GivesFew, ItemBlames, EmptyAsks, ItemAsks}
use Rattle.nom_repeat.specs.declared.items.Limits.{Limits}
use Rattle.nom_repeat.specs.declared.items.TooFew.{TooFew}
use Rattle.nom_repeat.specs.declared.items.TooFew.TheVariants.{Never, Passed, Added, Fresh}
use Rattle.nom_repeat.proofs.Parts.{shown_at, part_refused, part_refusal}
use Rattle.nom_repeat.proofs.Repeated.{IsNoRefusal, Collected, collected_more, ended, may_ask, refused, ran_out, stopped, consumes}

-- an item is taken where it may be empty, and where it consumes
pub taken_turn : {V : Type 0} (b : Limits) (k n : ℕ) (v : V) → (b.empty ≡ None) ⊎ (0 < n) → Takes n v ≡ item_turn b k (Some (Accept n v))
taken_turn b k zero v (inl e) = ap (λ z. empty_turn z v) (sym e)
taken_turn b k zero v (inr p) = absurd (omega (arith, p))
taken_turn b k (suc n) v h = refl

taken_asks : {V : Type 0} (b : Limits) (Refused Keeps : Type 0) (k n : ℕ) (v : V) → (b.empty ≡ None) ⊎ (0 < n) → Keeps →
    ItemAsks b Refused Keeps k (Some (Accept n v))
taken_asks b Refused Keeps k zero v (inl e) h = subst (λ z. EmptyAsks z Refused Keeps) (sym e) h
taken_asks b Refused Keeps k zero v (inr p) h = absurd (omega (arith, p))
taken_asks b Refused Keeps k (suc n) v p h = h

-- and refused where it is empty and may not be
stuck_turn : {V : Type 0} (b : Limits) (k n : ℕ) (v : V) (kind : ErrorKind) → b.empty ≡ Some kind → n ≡ 0 → Ends Refuse ≡ item_turn b k (Some (Accept n v))
stuck_turn b k n v kind e z = subst (λ m. Ends Refuse ≡ item_turn b k (Some (Accept m v))) (sym z) (ap (λ x. empty_turn x v) (sym e))

stuck_asks : {V : Type 0} (b : Limits) (Refused Keeps : Type 0) (k n : ℕ) (v : V) (kind : ErrorKind) → b.empty ≡ Some kind → n ≡ 0 → Refused →
    ItemAsks b Refused Keeps k (Some (Accept n v))
stuck_asks b Refused Keeps k n v kind e z h =
    subst (λ m. ItemAsks b Refused Keeps k (Some (Accept m v))) (sym z) (subst (λ x. EmptyAsks x Refused Keeps) (sym e) h)

stuck_blames : {I V E : Type 0} (errs : Errors I E) (b : Limits) (i j : I) (n : ℕ) (v : V) (P : E → Type 0) (kind : ErrorKind) → b.empty ≡ Some kind →
    n ≡ 0 → (e : E) → errs.of_kind j kind e → ItemBlames errs b i j (Some (Accept n v)) P e
stuck_blames errs b i j n v P kind is z e h =
    subst (λ m. ItemBlames errs b i j (Some (Accept m v)) P e) (sym z) (subst (λ x. OfKind x (λ k. errs.of_kind j k e)) (sym is) h)

-- what items show, and what their part does
abbrev pub ShowsItems : {I A V E O : Type 0} (w : Model I A) (errs : Errors I E) (b : Limits) (Grows : Type 0) (m : Meaning I V E)
    (IsOutput : List V → O → Type 0) (mode : Modes) (i : I) → PResult I O E → Type 0
ShowsItems w errs b Grows m IsOutput mode i r = ShowsMeaning w IsOutput (items_meaning w errs b Grows m) mode i r

abbrev pub ShowsItem : {I A V E X : Type 0} (w : Model I A) (b : Limits) (m : Meaning I V E) (IsItem : V → X → Type 0) (mode : Modes) (j : I) →
    PResult I X E → Type 0
ShowsItem w b m IsItem mode j r = ShowsMeaning w IsItem m (modes mode.outputs (item_errors b.too_few mode.errors) mode.streaming) j r

module _ {I A V E O : Type 0} {w : Model I A} (errs : Errors I E) (b : Limits) (Grows : Type 0) (m : Meaning I V E) {IsOutput : List V → O → Type 0}
    {mode : Modes} {Held : List V → Type 0} {i j : I} (c : Collected w (TurnsBy b.most (item_turn b) (λ _. m.answers mode.streaming)) Held i j) where
  -- at the bound the items end
  pub items_full : (IsBelow b.most (length c.trees) → ⊥) → {x : Option O} → Built mode.outputs (IsOutput c.trees) x →
      ShowsItems w errs b Grows m IsOutput mode i (Ok (j, x))
  items_full h q = ended (items_rule errs b Grows) (λ vs _. vs) (always m) c None h tt refl q

  module _ (below : IsBelow b.most (length c.trees)) where
    too_few_shown : ltb (length c.trees) b.least ≡ true → m.answers mode.streaming j Refuse → (Gives : E → Type 0) →
        ((e : E) → Gives e → FewBlames errs b.too_few (if b.at_start then i else j) (m.blames mode.streaming j) e) → MakesError b.too_few →
        {g : Answer.Err E (Option E) Needed} → Refuses Gives errs.grows mode.errors g → ShowsItems w errs b Grows m IsOutput mode i (Err g)
    too_few_shown z a Gives f k (inl r) =
        subst (λ y. ShowsItems w errs b Grows m IsOutput mode i (Err y)) (sym r.0)
        (ran_out (items_rule errs b Grows) (λ vs _. vs) (always m) c (Some Refuse) (below, a) (z, k, (r.1, r.2)))
    too_few_shown z a Gives f k (inr r) =
        subst (λ y. ShowsItems w errs b Grows m IsOutput mode i (Err y)) (sym r.2)
        (refused (items_rule errs b Grows) (λ vs _. vs) (always m) c (Some Refuse) (below, a)
        (ap (λ n. refused_turn n) (sym z)) r.0 (built_error mode.errors _ _ r.0 f r.1))

    module _ {X : Type 0} {IsItem : V → X → Type 0} where
      -- a refusal ends the items, where there are enough
      pub items_refused : ltb (length c.trees) b.least ≡ false → {f : Answer.Err E (Option E) Needed} {x : Option E} → f ≡ Error x →
          ShowsItem w b m IsItem mode j (Err f) → {y : Option O} → Built mode.outputs (IsOutput c.trees) y →
          ShowsItems w errs b Grows m IsOutput mode i (Ok (j, y))
      items_refused z e h q = ended (items_rule errs b Grows) (λ vs _. vs) (always m) c (Some Refuse)
          (below, part_refused e h) tt (ap (λ n. refused_turn n) (sym z)) q

      -- and else refuses them all
      pub items_too_few : ltb (length c.trees) b.least ≡ true → (few : TooFew) → b.too_few ≡ few →
          {f g : Answer.Err E (Option E) Needed} {x : Option E} → f ≡ Error x → ShowsItem w b m IsItem mode j (Err f) → {at : I} →
          at ≡ (if b.at_start then i else j) → GivesFew errs few at mode.errors x g → ShowsItems w errs b Grows m IsOutput mode i (Err g)
      items_too_few z Never is e h here q = absurd q
      items_too_few z Passed is {f} {g} {x} e h {at} here q =
          let p = part_refusal e h in
          subst (λ y. ShowsItems w errs b Grows m IsOutput mode i (Err y)) (sym q)
          (refused (items_rule errs b Grows) (λ vs _. vs) (always m) c (Some Refuse) (below, p.0)
          (ap (λ n. refused_turn n) (sym z)) x
          (built_error mode.errors _ _ x (λ y k. subst (λ t. FewBlames errs t (if b.at_start then i else j) (m.blames mode.streaming j) y) (sym is) k)
          (subst (λ y. Built (item_errors y mode.errors) (m.blames mode.streaming j) x) is p.1)))
      items_too_few z (Added kind) is {f} {g} {x} e h {at} here q =
          let p = part_refusal e h in
          too_few_shown z p.0 (λ y. (a : E) × m.blames mode.streaming j a × errs.appended (if b.at_start then i else j) kind a y)
          (λ y k. subst (λ t. FewBlames errs t (if b.at_start then i else j) (m.blames mode.streaming j) y) (sym is) k)
          (subst (λ t. MakesError t) (sym is) tt)
          (closes_built errs.grows (errs.appended (if b.at_start then i else j) kind)
          (m.blames mode.streaming j) mode.errors x g (subst (λ y. Built (item_errors y mode.errors) (m.blames mode.streaming j) x) is p.1)
          (subst (λ y. ClosesError (errs.appended y kind) errs.grows x g) here q))
      items_too_few z (Fresh kind) is {f} {g} {x} e h {at} here q =
          let p = part_refusal e h in
          too_few_shown z p.0 (errs.of_kind (if b.at_start then i else j) kind)
          (λ y k. subst (λ t. FewBlames errs t (if b.at_start then i else j) (m.blames mode.streaming j) y) (sym is) k)
          (subst (λ t. MakesError t) (sym is) tt) (subst (λ y. Refuses (errs.of_kind y kind) errs.grows mode.errors g) here q)

      module _ {h : I} {x : Option X} (a : Accepts w IsItem mode.outputs j (m.answers mode.streaming j) h x) where
        -- an item that consumes nothing is refused
        pub items_stuck : (kind : ErrorKind) → b.empty ≡ Some kind → a.length ≡ 0 → {f : Answer.Err E (Option E) Needed} →
            Refuses (errs.of_kind j kind) errs.grows mode.errors f → ShowsItems w errs b Grows m IsOutput mode i (Err f)
        items_stuck kind is z (inl g) =
            subst (λ y. ShowsItems w errs b Grows m IsOutput mode i (Err y)) (sym g.0)
            (ran_out (items_rule errs b Grows) (λ vs _. vs) (always m) c (Some (Accept a.length a.tree)) (below, a.answered)
            (stuck_asks b ((mode.errors ≡ true) × errs.grows) ((mode.outputs ≡ true) × Grows) (length c.trees) a.length a.tree kind is z (g.1, g.2)))
        items_stuck kind is z (inr g) =
            subst (λ y. ShowsItems w errs b Grows m IsOutput mode i (Err y)) (sym g.2)
            (refused (items_rule errs b Grows) (λ vs _. vs) (always m) c (Some (Accept a.length a.tree)) (below, a.answered)
            (stuck_turn b (length c.trees) a.length a.tree kind is z) g.0
            (built_error mode.errors _ _ g.0 (stuck_blames errs b i j a.length a.tree (m.blames mode.streaming j) kind is z) g.1))

        -- there is no memory to keep an item
        pub items_lack_room : (b.empty ≡ None) ⊎ (0 < a.length) → mode.outputs ≡ true → Grows → ShowsItems w errs b Grows m IsOutput mode i (Err OutOfMemory)
        items_lack_room p o t = ran_out (items_rule errs b Grows) (λ vs _. vs) (always m) c (Some (Accept a.length a.tree)) (below, a.answered)
            (taken_asks b ((mode.errors ≡ true) × errs.grows) ((mode.outputs ≡ true) × Grows) (length c.trees) a.length a.tree p (o, t))

-- nor for the first item, which consumes
pub first_asks : {I A V E : Type 0} {w : Model I A} (l : InputLaws w) (errs : Errors I E) (b : Limits) (m : Meaning I V E) {mode : Modes} {i : I} →
    w.IsKnown i → IsBelow b.most 0 → mode.outputs ≡ true → {n : ℕ} {v : V} → 0 < n → m.answers mode.streaming i (Accept n v) →
    (items_meaning w errs b (Unit {0}) m).may_run_out mode i
first_asks {w = w} l errs b m {mode} {i} known below o {n} {v} p a =
    let none : Collected w (TurnsBy b.most (item_turn b) (λ _. m.answers mode.streaming)) (λ _. Unit {0}) i i = record {
      trees = [];
      taken = 0;
      pieces = (refl, refl);
      rest_is = record { known = known; front = []; whole = refl; length_is = refl; mark_is = sym (l.mark_none (w.mark i)) };
      held = tt;
    } in
    may_ask (items_rule errs b (Unit {0})) (λ vs _. vs) (always m) none (Some (Accept n v)) (below, a)
    (taken_asks b ((mode.errors ≡ true) × errs.grows) ((mode.outputs ≡ true) × Unit {0}) 0 n v (inr p) (o, tt))

-- all else is passed on
pub items_stopped : {I A V X E O : Type 0} {w : Model I A} (errs : Errors I E) (b : Limits) {Grows : Type 0} (m : Meaning I V E) {IsItem : V → X → Type 0}
    {IsOutput : List V → O → Type 0} {mode : Modes} {Held : List V → Type 0} {i j : I}
    (c : Collected w (TurnsBy b.most (item_turn b) (λ _. m.answers mode.streaming)) Held i j) → IsBelow b.most (length c.trees) →
    {f g : Answer.Err E (Option E) Needed} → f ≡ g → IsNoRefusal g → ShowsItem w b m IsItem mode j (Err f) → ShowsItems w errs b Grows m IsOutput mode i (Err g)
items_stopped errs b {Grows} m c below is other h =
    stopped (items_rule errs b Grows) (λ vs _. vs) (always m) c (record { ends = λ k why. refl; blames = λ i k j cause P e z. z }) below is other h

-- an item is taken
pub items_more : {I A V X : Type 0} {w : Model I A} (l : InputLaws w) (b : Limits) {Item : I → Outcome V → Type 0} {IsItem : V → X → Type 0}
    {builds : Bool} {Held More : List V → Type 0} {i j : I} (c : Collected w (TurnsBy b.most (item_turn b) (λ _. Item)) Held i j) →
    IsBelow b.most (length c.trees) → {h : I} {x : Option X} (a : Accepts w IsItem builds j (Item j) h x) → (b.empty ≡ None) ⊎ (0 < a.length) →
    More (c.trees ++ a.tree ∷ []) → Collected w (TurnsBy b.most (item_turn b) (λ _. Item)) More i h
items_more l b {Item = Item} c below a p z =
    collected_more l (TurnsBy b.most (item_turn b) (λ _. Item)) a.tree c
    (record { reply = Some (Accept a.length a.tree); replied = (below, a.answered); fact = taken_turn b (length c.trees) a.length a.tree p }) a.rest_is z

-- the part's answer, at the state before and in the mode in which it ran
pub part_at : {S I A V E O : Type 0} {w : Model I A} (grammar : S → Grammar I V O E)
    {outputs errors asked streaming : Bool} {i : I} {r : PResult I O E} {a b : S} → errors ≡ asked → a ≡ b →
    Shows w (grammar a) (modes outputs errors streaming) i r → Shows w (grammar b) (modes outputs asked streaming) i r
part_at {w = w} grammar {outputs} {errors} {asked} {streaming} {i} {r} {a} {b} e h s =
    subst (λ z. Shows w (grammar b) (modes outputs z streaming) i r) e (shown_at grammar h s)

-- an item consumes, where it must
pub moves : {I A : Type 0} {w : Model I A} {i j : I} {n a b : ℕ} {kind : Option ErrorKind} → IsSuffixOf w i n j → a ≡ input_len w i → b ≡ input_len w j →
    (kind ≡ None) ⊎ (b ≡ a → ⊥) → (kind ≡ None) ⊎ (0 < n)
moves r x y (inl e) = inl e
moves r x y (inr h) = inr (consumes r y x h)

-- where there may be too few, there is an error for it
pub some_few : (b : Limits) (count : ℕ) → AreLimits b → count < b.least → IsNever b.too_few → ⊥
some_few b count l h n = by b.too_few l.has_error n
  where
    by : (few : TooFew) → NeverFew few b.least → IsNever few → ⊥
    by Never z n = absurd (omega (arith, z, h))
    by Passed z n = n
    by (Added kind) z n = n
    by (Fresh kind) z n = n
