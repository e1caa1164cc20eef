-- Lemmas on the answers of a fold whose closures may take memory.
use Rattle.std.proofs.Common.{◌≡◌, ℕ, ◌+◌, ◌<◌, Bool, true, false, Result, Ok, Err, Option, Some, None, List, [], ◌∷◌, ◌++◌, ◌⊎◌, inl, inr, refl, subst}
use Rattle.std.proofs.Common.{length, arith, sym, ◌∙◌, ap}
use Rattle.std.specs.Prelude.{ltb}
use Rattle.std.specs.List.{AllZip, FoldsTo}
use Rattle.std.specs.Result.{IsErr, IsErrAnd}
use Rattle.std.proofs.lemmas.Bool.{le-ltb}
use Rattle.std.proofs.lemmas.Fn.{FoldsTo-push}
use Rattle.nom_error.specs.declared.answer.OutOfMemory.{OutOfMemory}
use Rattle.nom_error.specs.declared.answer.Err as Answer
use Rattle.nom_internal.specs.Prelude.{PResult, Needed, Built, Modes, Model, Errors, RanOut, Shown, Meaning, ShowsMeaning, Outcome, Accept}
use Rattle.nom_internal.proofs.Shown.{Accepts, err_from_residual}
use Rattle.nom_repeat.specs.Items.{item_turn, items_meaning}
use Rattle.nom_repeat.specs.Repeat.{IsBelow, Pieces, TurnsBy}
use Rattle.nom_repeat.specs.declared.items.Limits.{Limits}
use Rattle.nom_repeat.proofs.Accumulating.{zip_push}
use Rattle.nom_repeat.proofs.ItemsShown.{ShowsItem, items_stopped, taken_turn}
use Rattle.nom_repeat.proofs.Parts.{shown_as}
use Rattle.nom_repeat.proofs.Repeated.{IsNoRefusal, Collected, pieces_end}
use Rattle.nom_multi_fold.specs.Folds.{Folds}
use Rattle.nom_multi_fold.specs.FoldAlloc.{IsPresent, Starts, FoldsItem, LacksFirst, LacksAt, LacksMemory, begun_meaning, folded_meaning}

none_some : {X : Type 0} (x : X) → None ≡ Some x → ⊥
none_some x e = absurd (cc (e))

some_same : {X : Type 0} (x y : X) → Some x ≡ Some y → x ≡ y
some_same x y e = cc (e)

-- a value that is there is one of those of which the fact holds
pub value_of : {R : Type 0} (builds : Bool) (P : R → Type 0) (x : Option R) → Built builds P x → (r : R) → IsPresent x r → P r
value_of true P x h r e = subst P (some_same h.0 r (sym h.1 ∙ e)) h.2
value_of false P x h r e = absurd (none_some r (sym h ∙ e))

pub value_itself : {R : Type 0} (builds : Bool) (P : R → Type 0) (x : Option R) → Built builds P x → Built builds (IsPresent x) x
value_itself true P x h = (h.0, h.1, h.1)
value_itself false P x h = h

module _ {V T R : Type 0} (IsOutput : V → T → Type 0) (Inits : R → Type 0) (Gives : R → T → Result R OutOfMemory → Type 0) where
  abbrev pub Reached : List V → R → Type 0
  Reached = Folds IsOutput Inits (λ r x y. Gives r x (Ok y))

  -- the first value is the fold of no items
  pub folds_none : (builds : Bool) (first : Option R) → Built builds Inits first → Built builds (Reached []) first
  folds_none true first h = (h.0, h.1, record { first = h.0; is_first = h.2; outputs = []; are_outputs = tt; folded = refl })
  folds_none false first h = h

  folds_next : (vs : List V) (v : V) (r : R) (x : T) (y : R) → Reached vs r → IsOutput v x → Gives r x (Ok y) → Reached (vs ++ v ∷ []) y
  folds_next vs v r x y h o g = record {
    first = h.first;
    is_first = h.is_first;
    outputs = h.outputs ++ x ∷ [];
    are_outputs = zip_push IsOutput vs h.outputs v x h.are_outputs o;
    folded = FoldsTo-push (λ a b c. Gives a b (Ok c)) h.first h.outputs r x y h.folded g;
  }

  item_folded : (a : Option R) (x : Option T) (q : Result (Option R) OutOfMemory) (r : R) (y : T) → a ≡ Some r → x ≡ Some y → FoldsItem Gives a x q →
      FoldsItem Gives (Some r) (Some y) q
  item_folded a x q r y e f h = subst (λ z. FoldsItem Gives (Some r) z q) f (subst (λ z. FoldsItem Gives z x q) e h)

  no_value : (a : Option R) (x : Option T) (q : Result (Option R) OutOfMemory) → a ≡ None → FoldsItem Gives a x q → q ≡ Ok None
  no_value a x q e h = subst (λ z. FoldsItem Gives z x q) e h

  -- one item more
  pub folds_more : (builds : Bool) (vs : List V) (v : V) (a : Option R) (x : Option T) (b : Option R) → FoldsItem Gives a x (Ok b) →
      Built builds (Reached vs) a → Built builds (IsOutput v) x → Built builds (Reached (vs ++ v ∷ [])) b
  folds_more true vs v a x b f h o =
      let g = item_folded a x (Ok b) h.0 o.0 h.1 o.1 f in
      (g.0, g.1, folds_next vs v h.0 o.0 g.0 h.2 o.2 g.2)
  folds_more false vs v a x b f h o = cc (no_value a x (Ok b) h f)

  -- the closure finds no memory for the value reached and an item's output
  lack_at : {I : Type 0} (b : Limits) (Item : I → Outcome V → Type 0) (k : ℕ) (j : I) (n : ℕ) (v : V) → IsBelow b.most k → Item j (Accept n v) →
      (b.empty ≡ None) ⊎ (0 < n) → (builds : Bool) (vs : List V) (a : Option R) (x : Option T) (e : OutOfMemory) → FoldsItem Gives a x (Err e) →
      Built builds (Reached vs) a → Built builds (IsOutput v) x → (builds ≡ true) × LacksAt IsOutput Inits Gives b Item vs k j
  lack_at b Item k j n v below accepted moves true vs a x e f h o =
      let g = item_folded a x (Err e) h.0 o.0 h.1 o.1 f in (
        refl,
        record {
          length = n;
          tree = v;
          taken = record { reply = Some (Accept n v); replied = (below, accepted); fact = taken_turn b k n v moves };
          value = h.0;
          reached = h.2;
          output = o.0;
          is_output = o.2;
          lacking = g.0;
          lacks = g.1;
        },
      )
  lack_at b Item k j n v below accepted moves false vs a x e f h o = absurd (cc (no_value a x (Err e) h f))

abbrev pub FoldShown : {I A V T R E : Type 0} (w : Model I A) (errs : Errors I E) (IsOutput : V → T → Type 0)
    (Gives : R → T → Result R OutOfMemory → Type 0) (m : Meaning I V E) (mode : Modes) (b : Limits) (Inits : R → Type 0) (i : I) → PResult I R E → Type 0
FoldShown w errs IsOutput Gives m mode b Inits i r = ShowsMeaning w (Reached IsOutput Inits Gives) (folded_meaning w errs IsOutput Gives m b Inits) mode i r

module _ {I A V T R E : Type 0} {w : Model I A} (errs : Errors I E) (IsOutput : V → T → Type 0) (Gives : R → T → Result R OutOfMemory → Type 0)
    (m : Meaning I V E) (mode : Modes) (b : Limits) where
  module _ (Inits : R → Type 0) {i : I} where
    -- what the items show, where the closure lacks nothing
    pub folds_by : {r : PResult I R E} → ShowsMeaning w (Reached IsOutput Inits Gives) (items_meaning w errs b ⊥ m) mode i r →
        FoldShown w errs IsOutput Gives m mode b Inits i r
    folds_by (RanOut e h) = RanOut e (inl h)
    folds_by (Shown o a s) = Shown o a s

    -- the closure found no memory for an item
    pub folds_lack : {Held : List V → Type 0} {j h : I} (a : Option R) {x : Option T} {e : OutOfMemory}
        (c : Collected w (TurnsBy b.most (item_turn b) (λ _. m.answers mode.streaming)) Held i j) → IsBelow b.most (length c.trees) →
        (item : Accepts w IsOutput mode.outputs j (m.answers mode.streaming j) h x) → (b.empty ≡ None) ⊎ (0 < item.length) →
        Built mode.outputs (Reached IsOutput Inits Gives c.trees) a → FoldsItem Gives a x (Err e) →
        FoldShown w errs IsOutput Gives m mode b Inits i (Err Answer.Err.OutOfMemory)
    folds_lack {j = j} a {x = x} {e = e} c below item moves held f =
        let lack = lack_at IsOutput Inits Gives b (m.answers mode.streaming) (length c.trees) j item.length item.tree below item.answered moves mode.outputs
        c.trees a x e f held item.built_is in
        RanOut refl (inr (
          lack.0,
          record {
            trees = c.trees;
            taken = c.taken;
            pieces = pieces_end w (TurnsBy b.most (item_turn b) (λ _. m.answers mode.streaming))
                (LacksAt IsOutput Inits Gives b (m.answers mode.streaming) c.trees) j (length c.trees) lack.1 0 i c.trees c.taken (omega arith) c.pieces;
          },
        ))

-- what the part answers is passed on, but for its refusal
pub folds_stopped : {I A V T R E X : Type 0} {w : Model I A} (errs : Errors I E) {IsOutput : V → T → Type 0}
    {Gives : R → T → Result R OutOfMemory → Type 0} (m : Meaning I V E) {mode : Modes} (b : Limits) {Inits : R → Type 0} {IsItem : V → X → Type 0}
    {Held : List V → Type 0} {i j : I} (c : Collected w (TurnsBy b.most (item_turn b) (λ _. m.answers mode.streaming)) Held i j) →
    IsBelow b.most (length c.trees) → {f g : Answer.Err E (Option E) Needed} → f ≡ g → IsNoRefusal g →
    ShowsItem w b m IsItem mode j (Err f) → FoldShown w errs IsOutput Gives m mode b Inits i (Err g)
folds_stopped errs {IsOutput} {Gives} m {mode} b {Inits} c below is other h =
    folds_by errs IsOutput Gives m mode b Inits (items_stopped errs b m c below is other h)

-- a fold from one value is one from any of which the same holds
module _ {V T R : Type 0} (IsOutput : V → T → Type 0) (P Q : R → Type 0) (Gives : R → T → Result R OutOfMemory → Type 0) (f : (r : R) → P r → Q r) where
  from_other : (vs : List V) (r : R) → Reached IsOutput P Gives vs r → Reached IsOutput Q Gives vs r
  from_other vs r h = record { first = h.first; is_first = f h.first h.is_first; outputs = h.outputs; are_outputs = h.are_outputs; folded = h.folded }

  module _ {I A : Type 0} (w : Model I A) (b : Limits) (Item : I → Outcome V → Type 0) where
    lacks_other : (vs : List V) (k : ℕ) (j : I) → LacksAt IsOutput P Gives b Item vs k j → LacksAt IsOutput Q Gives b Item vs k j
    lacks_other vs k j h = record {
      length = h.length;
      tree = h.tree;
      taken = h.taken;
      value = h.value;
      reached = from_other vs h.value h.reached;
      output = h.output;
      is_output = h.is_output;
      lacking = h.lacking;
      lacks = h.lacks;
    }

    pieces_other : (vs : List V) (k : ℕ) (i : I) (us : List V) (n : ℕ) →
        Pieces w (TurnsBy b.most (item_turn b) (λ _. Item)) (LacksAt IsOutput P Gives b Item vs) k i us n →
        Pieces w (TurnsBy b.most (item_turn b) (λ _. Item)) (LacksAt IsOutput Q Gives b Item vs) k i us n
    pieces_other vs k i [] n p = (p.0, lacks_other vs k i p.1)
    pieces_other vs k i (u ∷ us) n p = (p.0, p.1, p.2, p.3, p.4, pieces_other vs (k + 1) p.2 us p.1 p.5, p.6)

    memory_other : (i : I) → LacksMemory IsOutput P Gives b Item w i → LacksMemory IsOutput Q Gives b Item w i
    memory_other i h = record { trees = h.trees; taken = h.taken; pieces = pieces_other h.trees 0 i h.trees h.taken h.pieces }

module _ {I A V T R E : Type 0} {w : Model I A} (errs : Errors I E) (IsOutput : V → T → Type 0) (Gives : R → T → Result R OutOfMemory → Type 0)
    (m : Meaning I V E) (mode : Modes) (b : Limits) (P Q : R → Type 0) (f : (r : R) → P r → Q r) {i : I} where
  other_ran_out : {r : PResult I R E} → FoldShown w errs IsOutput Gives m mode b P i r →
      ShowsMeaning w (Reached IsOutput P Gives) (folded_meaning w errs IsOutput Gives m b Q) mode i r
  other_ran_out (RanOut e (inl h)) = RanOut e (inl h)
  other_ran_out (RanOut e (inr h)) = RanOut e (inr (h.0, memory_other IsOutput P Q Gives f w b (m.answers mode.streaming) i h.1))
  other_ran_out (Shown o a s) = Shown o a s

  pub shown_from : {r : PResult I R E} → FoldShown w errs IsOutput Gives m mode b P i r → FoldShown w errs IsOutput Gives m mode b Q i r
  shown_from h = shown_as (λ vs r. from_other IsOutput P Q Gives f vs r) (other_ran_out h)

-- items, and then more of them
module _ {V T R : Type 0} (IsOutput : V → T → Type 0) (Inits : R → Type 0) (Gives : R → T → Result R OutOfMemory → Type 0) where
  zip_both : (vs us : List V) (xs ys : List T) → AllZip IsOutput vs xs → AllZip IsOutput us ys → AllZip IsOutput (vs ++ us) (xs ++ ys)
  zip_both [] us [] ys h p = p
  zip_both [] us (x ∷ xs) ys h p = absurd h
  zip_both (v ∷ vs) us [] ys h p = absurd h
  zip_both (v ∷ vs) us (x ∷ xs) ys h p = (h.0, zip_both vs us xs ys h.1 p)

  folds_both : (a : R) (xs ys : List T) (b c : R) → FoldsTo (λ r x y. Gives r x (Ok y)) a xs b → FoldsTo (λ r x y. Gives r x (Ok y)) b ys c →
      FoldsTo (λ r x y. Gives r x (Ok y)) a (xs ++ ys) c
  folds_both a [] ys b c f g = subst (λ z. FoldsTo (λ r x y. Gives r x (Ok y)) z ys c) (sym f) g
  folds_both a (x ∷ xs) ys b c f g = (f.0, f.1, folds_both f.0 xs ys b c f.2 g)

  pub folds_after : (vs us : List V) (r : R) → Reached IsOutput (Reached IsOutput Inits Gives vs) Gives us r → Reached IsOutput Inits Gives (vs ++ us) r
  folds_after vs us r h =
      let before = h.is_first in
      record {
        first = before.first;
        is_first = before.is_first;
        outputs = before.outputs ++ h.outputs;
        are_outputs = zip_both vs us before.outputs h.outputs before.are_outputs h.are_outputs;
        folded = folds_both before.first before.outputs h.outputs h.first r before.folded h.folded;
      }

-- a first value was made, or there was no memory for it
module _ {R : Type 0} (Inits : Result R OutOfMemory → Type 0) where
  module _ (E : Type 0) where
    pub first_made : (builds : Bool) (x : Option R) → Starts {E = E} builds Inits (Ok x) → Built builds (λ r. Inits (Ok r)) x
    first_made true x h = h
    first_made false x h = cc (h)

    first_lacks : (builds : Bool) (e : Answer.Err E (Option E) Needed) → Starts builds Inits (Err e) →
        (builds ≡ true) × LacksFirst Inits × (e ≡ Answer.Err.OutOfMemory)
    first_lacks true e h = (refl, record { lacking = h.0; lacks = h.1 }, h.2)
    first_lacks false e h = absurd (cc (h))

  module _ {I A V O E : Type 0} {w : Model I A} {IsOutput : V → O → Type 0} (m : Meaning I V E) (mode : Modes) {i : I} where
    pub begun_shown : {r : PResult I O E} → ShowsMeaning w IsOutput m mode i r → ShowsMeaning w IsOutput (begun_meaning Inits m) mode i r
    begun_shown (RanOut e h) = RanOut e (inl h)
    begun_shown (Shown o a s) = Shown o a s

    pub begun_lacks : (e : Answer.Err E (Option E) Needed) {r : PResult I O E} → Starts mode.outputs Inits (Err e) → IsErr r × IsErrAnd r (λ y. y ≡ e) →
        ShowsMeaning w IsOutput (begun_meaning Inits m) mode i r
    begun_lacks e h q =
        let lack = first_lacks E mode.outputs e h in
        RanOut (err_from_residual q ∙ ap Err lack.2) (inr (lack.0, lack.1))

-- no list is shorter than none
pub none_below : {V : Type 0} (vs : List V) → ltb (length vs) 0 ≡ false
none_below vs = le-ltb (length vs) 0 (omega arith)
