-- Lemmas on the answers of a first item that may be missing.
use Rattle.std.proofs.Common.{◌≡◌, ◌<◌, Bool, true, false, Ok, Err, Option, Some, None, List, [], ◌∷◌, ◌++◌, length, inl, refl, sym, ap, subst, arith}
use Rattle.std.specs.Prelude.{ltb}
use Rattle.std.proofs.lemmas.Bool.{le-ltb}
use Rattle.nom_internal.specs.Prelude.{PResult, Errors, Needed, Error, OutOfMemory, Built, Modes, modes, Model, InputLaws, Outcome, Accept}
use Rattle.nom_internal.specs.Prelude.{Refuse, ShowsAnswer, Shown, Meaning, ShowsMeaning, always}
use Rattle.nom_error.specs.declared.answer.Err as Answer
use Rattle.nom_internal.proofs.Shown.{Accepts, output_err}
use Rattle.nom_repeat.specs.Repeat.{TurnsBy}
use Rattle.nom_repeat.specs.Items.{item_turn, refused_turn, items_rule}
use Rattle.nom_repeat.specs.Accumulated.{Accumulated}
use Rattle.nom_repeat.proofs.Parts.{part_refused}
use Rattle.nom_repeat.proofs.Repeated.{IsNoRefusal, Collected, collected_none, ended, stopped}
use Rattle.nom_repeat.proofs.ItemsShown.{items_more, items_lack_room}
use Rattle.nom_separated.specs.Separated.{optional_limits, optional_meaning, Found, HasFirstItem, follows, further_meaning}

-- what is shown of the first item, as it is told
abbrev pub ShowsFirst : {I A V T K E : Type 0} (w : Model I A) (errs : Errors I E) (Grows : Type 0) (m : Meaning I V E) (Pushes : K → T → K → Type 0)
    (CanPush : K → Type 0) (IsItem : V → T → Type 0) (before : Option K) (outputs errors streaming : Bool) (i : I) →
    PResult I (Bool × Option K) E → Type 0
ShowsFirst w errs Grows m Pushes CanPush IsItem before outputs errors streaming i r =
    ShowsAnswer w (Found Pushes CanPush IsItem outputs before) (modes true errors streaming) i ((optional_meaning w errs Grows m).answers streaming i)
    ((optional_meaning w errs Grows m).blames streaming i) ((optional_meaning w errs Grows m).may_run_out (modes outputs errors streaming) i) r

-- no item was taken yet
abbrev pub NoneYet : {I A V : Type 0} → Model I A → (I → Outcome V → Type 0) → I → Type 0
NoneYet w Item i = Collected w (TurnsBy (Some 1) (item_turn optional_limits) (λ _. Item)) (λ vs. vs ≡ []) i i

pub nothing_yet : {I A V : Type 0} {w : Model I A} (l : InputLaws w) (Item : I → Outcome V → Type 0) {i : I} → w.IsKnown i → NoneYet w Item i
nothing_yet l Item known = collected_none l known refl

one_may_come : {V : Type 0} (vs : List V) → vs ≡ [] → length vs < 1
one_may_come vs h = omega (arith, ap length h)

enough : {V : Type 0} (vs : List V) → ltb (length vs) 0 ≡ false
enough vs = le-ltb (length vs) 0 (omega arith)

module _ {I A V T K E : Type 0} {w : Model I A} (l : InputLaws w) (errs : Errors I E) (Grows : Type 0) (m : Meaning I V E) (Pushes : K → T → K → Type 0)
    (CanPush : K → Type 0) (IsItem : V → T → Type 0) (before : Option K) (outputs errors streaming : Bool) {i : I} (c : NoneYet w (m.answers streaming) i) where
  abbrev First : PResult I (Bool × Option K) E → Type 0
  First r = ShowsFirst w errs Grows m Pushes CanPush IsItem before outputs errors streaming i r

  pub first_missing : {f : Answer.Err E (Option E) Needed} {x : Option E} → f ≡ Error x →
      ShowsMeaning w IsItem m (modes outputs false streaming) i (Err f) → (k : Option K) → Built outputs (Accumulated Pushes CanPush IsItem before []) k →
      First (Ok (i, Some (false, k)))
  first_missing e h k built =
      ended (items_rule errs optional_limits Grows) (λ vs _. vs) (always m) {IsOutput = Found Pushes CanPush IsItem outputs before}
      {mode = modes true errors streaming} c (Some Refuse)
      (one_may_come c.trees c.held, part_refused e h) tt (ap (λ z. refused_turn z) (sym (enough c.trees)))
      ((false, k), refl, (c.held, subst (λ vs. Built outputs (Accumulated Pushes CanPush IsItem before vs) k) (sym c.held) built))

  pub first_found : {j : I} {x : Option T} (a : Accepts w IsItem outputs i (m.answers streaming i) j x) (k : Option K) →
      Built outputs (Accumulated Pushes CanPush IsItem before (a.tree ∷ [])) k → First (Ok (j, Some (true, k)))
  first_found a k built =
      let one = items_more l optional_limits {More = λ vs. vs ≡ a.tree ∷ []} c (one_may_come c.trees c.held) a (inl refl)
      (ap (λ vs. vs ++ a.tree ∷ []) c.held) in
      ended (items_rule errs optional_limits Grows) (λ vs _. vs) (always m) {IsOutput = Found Pushes CanPush IsItem outputs before}
      {mode = modes true errors streaming} one None (λ z. omega (arith, z, ap length one.held)) tt refl
      ((true, k), refl, ((a.tree, one.held), subst (λ vs. Built outputs (Accumulated Pushes CanPush IsItem before vs) k) (sym one.held) built))

  pub first_lacks_room : {j : I} {x : Option T} (a : Accepts w IsItem outputs i (m.answers streaming i) j x) → outputs ≡ true → Grows → First (Err OutOfMemory)
  first_lacks_room a o t = output_err {IsOutput = λ vs (_ : K). Unit {0}} {built = outputs} {mode = modes true errors streaming} {r = Err OutOfMemory}
      (items_lack_room errs optional_limits Grows m c (one_may_come c.trees c.held) a (inl refl) o t) (refl, refl)

-- All else is passed on, whatever is told of the items.
pub first_stopped : {I A V T O E : Type 0} {w : Model I A} (l : InputLaws w) (errs : Errors I E) {Grows : Type 0} (m : Meaning I V E)
    {IsItem : V → T → Type 0} {IsOutput : List V → O → Type 0} {asked told : Modes} {outputs errors streaming : Bool} {i : I} → w.IsKnown i →
    {f g : Answer.Err E (Option E) Needed} → f ≡ g → IsNoRefusal g →
    ShowsAnswer w IsItem asked i (m.answers streaming i) (m.blames streaming i) (m.may_run_out (modes outputs false streaming) i) (Err f) →
    ShowsAnswer w IsOutput told i ((optional_meaning w errs Grows m).answers streaming i) ((optional_meaning w errs Grows m).blames streaming i)
    ((optional_meaning w errs Grows m).may_run_out (modes outputs errors streaming) i) (Err g)
first_stopped l errs {Grows} m {outputs = outputs} {errors} {streaming} known is other h =
    let none = nothing_yet l (m.answers streaming) known in
    stopped (items_rule errs optional_limits Grows) (λ vs _. vs) (always m) {mode = modes outputs errors streaming} none
    (record { ends = λ k why. refl; blames = λ i k j cause P e z. z }) (one_may_come none.trees none.held) is other h

-- what was told of the first item
pub told : {V T K : Type 0} (Pushes : K → T → K → Type 0) (CanPush : K → Type 0) (IsItem : V → T → Type 0) (builds : Bool) (before : Option K)
    (vs : List V) {first : Option (Bool × Option K)} {found : Bool} {list : Option K} → first ≡ Some (found, list) →
    Built true (Found Pushes CanPush IsItem builds before vs) first → Found Pushes CanPush IsItem builds before vs (found, list)
told {K = K} Pushes CanPush IsItem builds before vs {first} {found} {list} is b =
    let same : ◌≡◌ {A = Bool × Option K} (found, list) b.0 = cc (is, b.1) in
    subst (λ x. Found Pushes CanPush IsItem builds before vs x) (sym same) b.2

module _ {I A P V O E : Type 0} {w : Model I A} (l : InputLaws w) (errs : Errors I E) (separator : Meaning I P E) (m : Meaning I V E)
    (IsResult : List V → O → Type 0) {mode : Modes} {j : I} where
  -- after no item nothing follows
  pub nothing_follows : w.IsKnown j → (vs : List V) → vs ≡ [] → (list : Option O) → Built mode.outputs (IsResult vs) list →
      ShowsMeaning w (λ us. IsResult (vs ++ us)) (follows w errs separator m vs) mode j (Ok (j, list))
  nothing_follows known [] h list built =
      Shown (Accept 0 []) (refl, refl)
      (j, list, record { known = known; front = []; whole = refl; length_is = refl; mark_is = sym (l.mark_none (w.mark j)) }, built, refl)
  nothing_follows known (v ∷ vs) h list built = absurd (cc (h))

  -- after one item the further ones follow
  pub items_follow : (vs : List V) → HasFirstItem true vs → {r : PResult I O E} →
      ShowsMeaning w (λ us. IsResult (vs ++ us)) (further_meaning w errs separator m) mode j r →
      ShowsMeaning w (λ us. IsResult (vs ++ us)) (follows w errs separator m vs) mode j r
  items_follow [] f h = absurd (cc (f.1))
  items_follow (v ∷ vs) f h = h
