-- Lemmas on the answers of items until an end.
use Rattle.std.proofs.Common.{◌≡◌, ℕ, ◌<◌, Bool, true, false, Ok, Err, Option, Some, None, ◌⊎◌, List, [], ◌∷◌, ◌++◌, inl, inr, refl, sym}
use Rattle.std.proofs.Common.{subst}
use Rattle.std.specs.Prelude.{IsSome}
use Rattle.std.specs.List.{AllZip}
use Rattle.std.specs.declared.vec.Vec.{Vec}
use Rattle.nom_internal.specs.Prelude.{Errors, PResult, Refuses, Needed, Error, OutOfMemory, Built, Modes, modes, Model, Grammar}
use Rattle.nom_internal.specs.Prelude.{InputLaws, IsSuffixOf, Outcome, Accept, Refuse, ShowsAnswer, Meaning}
use Rattle.nom_internal.specs.Prelude.{ShowsMeaning, labelled_meaning, ClosesError, always}
use Rattle.nom_error.specs.declared.answer.Err as Answer
use Rattle.nom_error.specs.declared.kind.ErrorKind.TheVariants as Kind
use Rattle.nom_internal.proofs.Cased.{here, labels_err, labels_ok}
use Rattle.nom_internal.proofs.Choices.{otherwise_first, otherwise_next, closes_built}
use Rattle.nom_internal.proofs.Shown.{built_error}
use Rattle.nom_repeat.specs.Accumulated.{PushesBoth}
use Rattle.nom_repeat.specs.Repeat.{TurnsBy}
use Rattle.nom_repeat.specs.Repeat.Turn.{Takes, Ends}
use Rattle.nom_repeat.proofs.Accumulating.{zip_push}
use Rattle.nom_repeat.proofs.Parts.{part_refused, part_refusal}
use Rattle.nom_repeat.proofs.Repeated.{IsNoRefusal, Collected, collected_more, ended_after, refused, ran_out, stopped, where_some}
use Rattle.nom_multi.specs.Till.{end_or_item, step_turn, till_turn, OnItem, till_rule, many_till_meaning, with_end, IsStep}
use Rattle.nom_multi.specs.declared.till.Step.{Step}
use Rattle.nom_multi.specs.declared.till.Step.TheVariants.{End, Item}

-- what is told of an end or an item
abbrev pub ShowsStep : {I A T V O P E : Type 0} (w : Model I A) (IsEnd : T → O → Type 0) (IsItem : V → P → Type 0) (end : Meaning I T E)
    (m : Meaning I V E) (outputs errors streaming : Bool) (i : I) → PResult I (Step (Option O) (Option P)) E → Type 0
ShowsStep w IsEnd IsItem end m outputs errors streaming i r =
    ShowsAnswer w (IsStep outputs IsEnd IsItem) (modes true errors streaming) i ((end_or_item end m).answers streaming i)
    ((end_or_item end m).blames streaming i) ((end_or_item end m).may_run_out (modes outputs errors streaming) i) r

module _ {I A T V O P E : Type 0} (w : Model I A) (IsEnd : T → O → Type 0) (IsItem : V → P → Type 0) (end : Meaning I T E) (m : Meaning I V E)
    (outputs errors streaming : Bool) (i : I) where
  -- whatever the end answers but a refusal
  first : (r : PResult I (Step (Option O) (Option P)) E) → ((x : Option E) → r ≡ Err (Error x) → ⊥) →
      ShowsAnswer w (IsStep outputs IsEnd IsItem) (modes true false streaming) i ((labelled_meaning {T = T ⊎ V} inl end).answers streaming i)
      ((labelled_meaning {T = T ⊎ V} inl end).blames streaming i) ((labelled_meaning {T = T ⊎ V} inl end).may_run_out (modes outputs false streaming) i)
      r → ShowsStep w IsEnd IsItem end m outputs errors streaming i r
  first r f h = otherwise_first w (IsStep outputs IsEnd IsItem) (labelled_meaning inl end)
      (labelled_meaning inr m) true (modes outputs errors streaming) i r f h

  pub end_stands : (j : I) (x : Option O) → ShowsMeaning w IsEnd end (modes outputs false streaming) i (Ok (j, x)) →
      ShowsStep w IsEnd IsItem end m outputs errors streaming i (Ok (j, Some (End x)))
  end_stands j x h = first (Ok (j, Some (End x))) (λ y q. cc (q))
      (labels_ok w inl IsEnd (IsStep outputs IsEnd IsItem) end true (modes outputs false streaming) i j x (Some (End x)) h (λ u b. (End x, refl, b)))

  pub end_stops : (f k : Answer.Err E (Option E) Needed) → f ≡ k → ((x : Option E) → k ≡ Error x → ⊥) →
      ShowsMeaning w IsEnd end (modes outputs false streaming) i (Err f) → ShowsStep w IsEnd IsItem end m outputs errors streaming i (Err k)
  end_stops f k q other h = first (Err k) (λ x p. other x (cc (p)))
      (labels_err w inl IsEnd (IsStep outputs IsEnd IsItem) end true (modes outputs false streaming) i k
      (subst (λ y. ShowsMeaning w IsEnd end (modes outputs false streaming) i (Err y)) q h))

  -- the end is refused
  module _ (f : Answer.Err E (Option E) Needed) (b : Option E) (is : f ≡ Error b) (h : ShowsMeaning w IsEnd end (modes outputs false streaming) i (Err f)) where
    next : (r : PResult I (Step (Option O) (Option P)) E) →
        ShowsAnswer w (IsStep outputs IsEnd IsItem) (modes true errors streaming) i ((labelled_meaning {T = T ⊎ V} inr m).answers streaming i)
        ((labelled_meaning {T = T ⊎ V} inr m).blames streaming i) ((labelled_meaning {T = T ⊎ V} inr m).may_run_out (modes outputs errors streaming) i) r →
        ShowsStep w IsEnd IsItem end m outputs errors streaming i r
    next r k = otherwise_next w (IsStep outputs IsEnd IsItem) (labelled_meaning inl end)
        (labelled_meaning inr m) true (modes outputs errors streaming) i (here Refuse (part_refused is h) refl) r k

    pub item_stands : (j : I) (x : Option P) → ShowsMeaning w IsItem m (modes outputs errors streaming) i (Ok (j, x)) →
        ShowsStep w IsEnd IsItem end m outputs errors streaming i (Ok (j, Some (Item x)))
    item_stands j x k = next (Ok (j, Some (Item x)))
        (labels_ok w inr IsItem (IsStep outputs IsEnd IsItem) m true (modes outputs errors streaming) i j x (Some (Item x)) k (λ u b. (Item x, refl, b)))

    pub item_stops : (e : Answer.Err E (Option E) Needed) (r : PResult I (Step (Option O) (Option P)) E) →
        ShowsMeaning w IsItem m (modes outputs errors streaming) i (Err e) → r ≡ Err e → ShowsStep w IsEnd IsItem end m outputs errors streaming i r
    item_stops e r k y = subst (λ q. ShowsStep w IsEnd IsItem end m outputs errors streaming i q) (sym y)
        (next (Err e) (labels_err w inr IsItem (IsStep outputs IsEnd IsItem) m true (modes outputs errors streaming) i e k))

-- what is told, is told
pub is_told : {X : Type 0} (P : X → Type 0) (x : Option X) → Built true P x → IsSome x
is_told P x b = subst (λ z. IsSome z) (sym b.1) refl

module _ {T V O P : Type 0} (outputs : Bool) (IsEnd : T → O → Type 0) (IsItem : V → P → Type 0) where
  -- the tree of an end, and what is built of it
  pub is_end : (u : T ⊎ V) {stands : Option (Step (Option O) (Option P))} {s : Step (Option O) (Option P)} {x : Option O} → stands ≡ Some s →
      s ≡ End x → Built true (IsStep outputs IsEnd IsItem u) stands → (t : T) × (u ≡ inl t) × Built outputs (IsEnd t) x
  is_end (inl t) {x = x} p q b = let same : b.0 ≡ End x = cc (p, q, b.1) in (t, refl, subst (λ z. IsStep outputs IsEnd IsItem (inl t) z) same b.2)
  is_end (inr v) {x = x} p q b = let same : b.0 ≡ End x = cc (p, q, b.1) in absurd (subst (λ z. IsStep outputs IsEnd IsItem (inr v) z) same b.2)

  -- of an item
  pub is_item : (u : T ⊎ V) {stands : Option (Step (Option O) (Option P))} {s : Step (Option O) (Option P)} {x : Option P} → stands ≡ Some s →
      s ≡ Item x → Built true (IsStep outputs IsEnd IsItem u) stands → (v : V) × (u ≡ inr v) × Built outputs (IsItem v) x
  is_item (inl t) {x = x} p q b = let same : b.0 ≡ Item x = cc (p, q, b.1) in absurd (subst (λ z. IsStep outputs IsEnd IsItem (inl t) z) same b.2)
  is_item (inr v) {x = x} p q b = let same : b.0 ≡ Item x = cc (p, q, b.1) in (v, refl, subst (λ z. IsStep outputs IsEnd IsItem (inr v) z) same b.2)

-- items were taken, and no end was found
abbrev pub Till : {I A T V : Type 0} (w : Model I A) (Part : I → Outcome (T ⊎ V) → Type 0) (Held : List V → Type 0) (i j : I) → Type 0
Till w Part Held i j = Collected w (TurnsBy None (λ _ a. till_turn a) (λ _. Part)) Held i j

-- what items until an end show
abbrev pub ShowsTill : {I A T V O E : Type 0} (w : Model I A) (errs : Errors I E) (m : Meaning I V E) (end : Meaning I T E)
    (IsOutput : List V × T → O → Type 0) (mode : Modes) (i : I) → PResult I O E → Type 0
ShowsTill w errs m end IsOutput mode i r = ShowsMeaning w IsOutput (many_till_meaning w errs m end) mode i r

module _ {I A T V O E : Type 0} {w : Model I A} (errs : Errors I E) (m : Meaning I V E) (end : Meaning I T E) {IsOutput : List V × T → O → Type 0}
    {mode : Modes} {Held : List V → Type 0} {i j : I} (c : Till w ((end_or_item end m).answers mode.streaming) Held i j) where
  pub till_ended : InputLaws w → {n : ℕ} {u : T ⊎ V} (t : T) → (end_or_item end m).answers mode.streaming j (Accept n u) → u ≡ inl t → {h : I} →
      IsSuffixOf w j n h → (x : Option O) → Built mode.outputs (IsOutput (c.trees, t)) x → ShowsTill w errs m end IsOutput mode i (Ok (h, x))
  till_ended l {n} {u} t a is q x z =
      ended_after (till_rule errs) with_end (always (end_or_item end m)) c (Some (Accept n (inl t)))
      (tt, subst (λ y. (end_or_item end m).answers mode.streaming j (Accept n y)) is a) l n t q refl z

  pub till_stuck : {n : ℕ} {u : T ⊎ V} (v : V) → (end_or_item end m).answers mode.streaming j (Accept n u) → u ≡ inr v → n ≡ 0 →
      (f : Answer.Err E (Option E) Needed) → Refuses (errs.of_kind j Kind.Many0) errs.grows mode.errors f → ShowsTill w errs m end IsOutput mode i (Err f)
  till_stuck {n} {u} v a is z f (inl g) =
      subst (λ y. ShowsTill w errs m end IsOutput mode i (Err y)) (sym g.0)
      (ran_out (till_rule errs) with_end (always (end_or_item end m)) c (Some (Accept n (inr v)))
      (tt, subst (λ y. (end_or_item end m).answers mode.streaming j (Accept n y)) is a)
      (subst (OnItem {T = T} ((mode.errors ≡ true) × errs.grows) (mode.outputs ≡ true) (inr v)) (sym z) (g.1, g.2)))
  till_stuck {n} {u} v a is z f (inr g) =
      subst (λ y. ShowsTill w errs m end IsOutput mode i (Err y)) (sym g.2)
      (refused (till_rule errs) with_end (always (end_or_item end m)) c (Some (Accept n (inr v)))
      (tt, subst (λ y. (end_or_item end m).answers mode.streaming j (Accept n y)) is a)
      (subst (λ m. Ends Refuse ≡ step_turn {T = T} (inr v) m) (sym z) refl) g.0
      (built_error mode.errors _ _ g.0 (λ e h. subst (OnItem {T = T} (errs.of_kind j Kind.Many0 e) ⊥ (inr v)) (sym z) h) g.1))

  pub till_lacks_room : {n : ℕ} {u : T ⊎ V} (v : V) → (end_or_item end m).answers mode.streaming j (Accept n u) → u ≡ inr v → 0 < n →
      mode.outputs ≡ true → ShowsTill w errs m end IsOutput mode i (Err OutOfMemory)
  till_lacks_room {n} {u} v a is z o =
      ran_out (till_rule errs) with_end (always (end_or_item end m)) c (Some (Accept n (inr v)))
      (tt, subst (λ y. (end_or_item end m).answers mode.streaming j (Accept n y)) is a)
      (where_some (OnItem {T = T} ((mode.errors ≡ true) × errs.grows) (mode.outputs ≡ true) (inr v)) (λ m. o) z)

  module _ {X : Type 0} {IsResult : T ⊎ V → X → Type 0} {f : Answer.Err E (Option E) Needed}
      (h : ShowsAnswer w IsResult (modes true mode.errors mode.streaming) j ((end_or_item end m).answers mode.streaming j)
      ((end_or_item end m).blames mode.streaming j) ((end_or_item end m).may_run_out mode j) (Err f)) where
    pub till_refused : {x : Option E} → f ≡ Error x → (g : Answer.Err E (Option E) Needed) →
        ClosesError (errs.appended j Kind.ManyTill) errs.grows x g → ShowsTill w errs m end IsOutput mode i (Err g)
    till_refused {x} e g q =
        let p = part_refusal e h in
        by p.0 (closes_built errs.grows (errs.appended j Kind.ManyTill) ((end_or_item end m).blames mode.streaming j) mode.errors x g p.1 q)
      where
        by : (end_or_item end m).answers mode.streaming j Refuse →
            Refuses (λ e. (a : E) × (end_or_item end m).blames mode.streaming j a × errs.appended j Kind.ManyTill a e) errs.grows mode.errors g →
            ShowsTill w errs m end IsOutput mode i (Err g)
        by a (inl y) = subst (λ z. ShowsTill w errs m end IsOutput mode i (Err z)) (sym y.0)
            (ran_out (till_rule errs) with_end (always (end_or_item end m)) c (Some Refuse) (tt, a) (y.1, y.2))
        by a (inr y) = subst (λ z. ShowsTill w errs m end IsOutput mode i (Err z)) (sym y.2)
            (refused (till_rule errs) with_end (always (end_or_item end m)) c (Some Refuse) (tt, a) refl y.0 y.1)

    -- all else is passed on
    pub till_stopped : {g : Answer.Err E (Option E) Needed} → f ≡ g → IsNoRefusal g → ShowsTill w errs m end IsOutput mode i (Err g)
    till_stopped is other = stopped (till_rule errs) with_end (always (end_or_item end m)) c
        (record { ends = λ k why. refl; blames = λ i k j cause P e z. z }) tt is other h

-- one item more
pub till_more : {I A T V : Type 0} {w : Model I A} (l : InputLaws w) (Part : I → Outcome (T ⊎ V) → Type 0) {Held More : List V → Type 0} {i j h : I}
    (c : Till w Part Held i j) {n : ℕ} {u : T ⊎ V} (v : V) → Part j (Accept n u) → u ≡ inr v → 0 < n → IsSuffixOf w j n h → More (c.trees ++ v ∷ []) →
    Till w Part More i h
till_more {T = T} l Part {i = i} {j = j} c {n} v a is p q z =
    collected_more l (TurnsBy None (λ _ x. till_turn x) (λ _. Part)) v c
    (record {
      reply = Some (Accept n (inr v));
      replied = (tt, subst (λ y. Part j (Accept n y)) is a);
      fact = where_some (λ m. Takes m v ≡ step_turn {T = T} (inr v) m) (λ m. refl) p;
    }) q z

-- the list grows by what is built
pub list_pushed : {V O A : Type 0} (P : V → O → Type 0) (builds : Bool) (vs : List V) (v : V) (old new : Option (Vec O A)) (item : Option O) →
    PushesBoth (λ (k : Vec O A) x (n : Vec O A). n.items ≡ k.items ++ x ∷ []) (λ _. Unit {0}) old item new →
    Built builds (λ (k : Vec O A). AllZip P vs k.items) old → Built builds (P v) item → Built builds (λ (k : Vec O A). AllZip P (vs ++ v ∷ []) k.items) new
list_pushed P true vs v (Some k) (Some n) (Some x) g b c =
    let list : k ≡ b.0 = cc (b.1) in
    let one : x ≡ c.0 = cc (c.1) in (
      n,
      refl,
      subst (λ z. AllZip P (vs ++ v ∷ []) z) (sym g.0)
          (zip_push P vs k.items v x (subst (λ z. AllZip P vs z.items) (sym list) b.2) (subst (λ z. P v z) (sym one) c.2)),
    )
list_pushed P true vs v (Some k) None (Some x) g b c = absurd g
list_pushed P true vs v (Some k) n None g b c = absurd (cc (c.1))
list_pushed P true vs v None n x g b c = absurd (cc (b.1))
list_pushed P false vs v (Some k) n x g b c = absurd (cc (b))
list_pushed P false vs v None n x g b c = g

-- what is told, at the states before
pub stands_at : {S R I A T V O P E : Type 0} {w : Model I A} (end : S → Grammar I T O E) (item : R → Grammar I V P E)
    {outputs errors streaming : Bool} {i : I}
    {r : PResult I (Step (Option O) (Option P)) E} {a b : S} {x y : R} → a ≡ b → x ≡ y →
    ShowsStep w (end a).IsOutput (item x).IsOutput (end a).meaning (item x).meaning outputs errors streaming i r →
    ShowsStep w (end b).IsOutput (item y).IsOutput (end b).meaning (item y).meaning outputs errors streaming i r
stands_at {w = w} end item {outputs} {errors} {streaming} {i} {r} {a} {b} {x} {y} e f h =
    subst (λ z. ShowsStep w (end b).IsOutput (item z).IsOutput (end b).meaning (item z).meaning outputs errors streaming i r) f
    (subst (λ z. ShowsStep w (end z).IsOutput (item x).IsOutput (end z).meaning (item x).meaning outputs errors streaming i r) e h)
