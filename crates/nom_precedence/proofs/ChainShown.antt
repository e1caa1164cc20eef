-- Lemmas on the answers of items in turn, of which one may be stuck.
use Rattle.std.proofs.Common.{◌≡◌, ℕ, ◌<◌, Bool, true, Ok, Err, Option, Some, None, List, [], ◌∷◌, ◌++◌, refl, subst, sym}
use Rattle.nom.specs.Prelude.{PResult, Needed, Error, OutOfMemory, Built, modes, Model, InputLaws, Outcome, Accept, Refuse}
use Rattle.nom.specs.Prelude.{ShowsAnswer, always, input_len}
use Rattle.nom.specs.Err as Answer
use Rattle.nom.specs.Repeat.{TurnsBy}
use Rattle.nom.specs.Repeat.Turn.{Takes, Ends}
use Rattle.nom.proofs.Parts.{part_refused}
use Rattle.nom.proofs.Repeated.{IsNoRefusal, Collected, collected_more, consumes, ended, ended_after, is_empty, ran_out, stopped, where_some}
use Rattle.nom_precedence.specs.Chains.{read_turn, chain_turn, IfTakes, chain_rule, chained, chain_meaning}
use Rattle.nom_precedence.specs.Readings.{IsRead, ShowsBuilt}
use Rattle.nom_precedence.specs.Readings.IsRead.{IsWhole, IsStuck}
use Rattle.nom_precedence.specs.declared.read.Read.{Read}
use Rattle.nom_precedence.specs.declared.read.Read.TheVariants.{Whole, Stuck}
use Rattle.nom_precedence.proofs.ReadShown.{Item, of_answers, stuck_of}

-- a turn at an item
taken_turn : {V : Type 0} (v : V) (n : ℕ) → 0 < n → Takes n v ≡ read_turn (Whole v) n
taken_turn v n p = where_some (λ m. Takes m v ≡ read_turn (Whole v) m) (λ m. refl) p

-- items were taken, and none was stuck
abbrev pub Chain : {I A V : Type 0} (w : Model I A) (Part : I → Outcome (Read V) → Type 0) (Held : List V → Type 0) (i j : I) → Type 0
Chain w Part Held i j = Collected w (TurnsBy None (λ _ a. chain_turn a) (λ _. Part)) Held i j

-- what a chain of a part shows that answers so
abbrev pub ShowsChain : {I A V X E : Type 0} (w : Model I A) (Grows : Type 0) (Part : I → Outcome (Read V) → Type 0) (Blames : I → E → Type 0)
    (RunsOut : I → Type 0) (IsOutput : List V → X → Type 0) (outputs errors streaming : Bool) (i : I) → PResult I (Read (Option X)) E → Type 0
ShowsChain w Grows Part Blames RunsOut IsOutput outputs errors streaming i r =
    ShowsBuilt w (IsRead outputs IsOutput) (chain_meaning w Grows (of_answers Part Blames RunsOut)) (modes outputs errors streaming) i r

module _ {I A V X E : Type 0} {w : Model I A} {Grows : Type 0} {Part : I → Outcome (Read V) → Type 0} {Blames : I → E → Type 0} {RunsOut : I → Type 0}
    {IsOutput : List V → X → Type 0} {outputs errors streaming : Bool} {Held : List V → Type 0} {i j : I} (c : Chain w Part Held i j) where
  module _ {Y : Type 0} {IsItem : V → Y → Type 0} {h : I} {y : Option Y} {a b : ℕ} (item : Item w (Part j) IsItem outputs j h y) where
    -- the next one consumes nothing
    pub chain_stuck : InputLaws w → b ≡ input_len w h → a ≡ input_len w j → b ≡ a →
        ShowsChain w Grows Part Blames RunsOut IsOutput outputs errors streaming i (Ok (h, Some Stuck))
    chain_stuck l p q e = ended_after (chain_rule Grows) chained (always (of_answers Part Blames RunsOut))
        {IsOutput = IsRead outputs IsOutput} {mode = modes true errors streaming} c (Some (Accept item.length (Whole item.tree))) (tt, item.answered) l
        item.length Stuck item.rest_is (subst (λ m. Ends (Accept m Stuck) ≡ read_turn (Whole item.tree) m) (sym (is_empty item.rest_is p q e)) refl)
        {b = Some Stuck} (Stuck, refl, IsStuck refl refl)

    -- there is no memory to keep it
    pub chain_lacks_room : b ≡ input_len w h → a ≡ input_len w j → (b ≡ a → ⊥) → outputs ≡ true → Grows →
        ShowsChain w Grows Part Blames RunsOut IsOutput outputs errors streaming i (Err OutOfMemory)
    chain_lacks_room p q e o g = ran_out (chain_rule Grows) chained (always (of_answers Part Blames RunsOut))
        {IsOutput = IsRead outputs IsOutput} {mode = modes outputs errors streaming} c (Some (Accept item.length (Whole item.tree))) (tt, item.answered)
        (subst (IfTakes ((outputs ≡ true) × Grows)) (taken_turn item.tree item.length (consumes item.rest_is p q e)) (o, g))

  module _ {Y : Type 0} {IsResult : Read V → Y → Type 0} {built told : Bool} {f : Answer.Err E (Option E) Needed} where
    -- the next one is refused
    pub chain_ended : {b : Option E} → f ≡ Error b → ShowsAnswer w IsResult (modes built told streaming) j (Part j) (Blames j) (RunsOut j) (Err f) →
        {x : Option X} → Built outputs (IsOutput c.trees) x →
        ShowsChain w Grows Part Blames RunsOut IsOutput outputs errors streaming i (Ok (j, Some (Whole x)))
    chain_ended e s {x} h = ended (chain_rule Grows) chained (always (of_answers Part Blames RunsOut))
        {IsOutput = IsRead outputs IsOutput} {mode = modes true errors streaming} c (Some Refuse) (tt, part_refused e s) (Whole tt) refl
        {b = Some (Whole x)} (Whole x, refl, IsWhole c.trees x refl refl h)

    -- all else is passed on
    pub chain_stopped : {g : Answer.Err E (Option E) Needed} → f ≡ g → IsNoRefusal g →
        ShowsAnswer w IsResult (modes built told streaming) j (Part j) (Blames j) (RunsOut j) (Err f) →
        ShowsChain w Grows Part Blames RunsOut IsOutput outputs errors streaming i (Err g)
    chain_stopped is other s = stopped (chain_rule Grows) chained (always (of_answers Part Blames RunsOut)) {IsOutput = IsRead outputs IsOutput}
        {mode = modes outputs errors streaming} c (record { ends = λ k why. refl; blames = λ i k j cause P e z. (tt, z) }) tt is other s

  -- it is stuck itself
  pub chain_stuck_within : {Y : Type 0} {IsItem : V → Y → Type 0} {told : Bool} {IsError : E → Type 0} {Lacks : Type 0} → InputLaws w → {h : I} →
      ShowsAnswer w (IsRead outputs IsItem) (modes true told streaming) j (Part j) IsError Lacks (Ok (h, Some Stuck)) →
      ShowsChain w Grows Part Blames RunsOut IsOutput outputs errors streaming i (Ok (h, Some Stuck))
  chain_stuck_within l s = let p = stuck_of s in
      ended_after (chain_rule Grows) chained (always (of_answers Part Blames RunsOut)) {IsOutput = IsRead outputs IsOutput}
      {mode = modes true errors streaming} c (Some (Accept p.0 Stuck)) (tt, p.1) l p.0 Stuck p.2 refl {b = Some Stuck} (Stuck, refl, IsStuck refl refl)

-- one item more
pub chain_more : {I A V Y : Type 0} {w : Model I A} {Part : I → Outcome (Read V) → Type 0} {Held More : List V → Type 0} {i j h : I}
    {IsItem : V → Y → Type 0} {outputs : Bool} {y : Option Y} {a b : ℕ} (l : InputLaws w) (c : Chain w Part Held i j)
    (item : Item w (Part j) IsItem outputs j h y) → b ≡ input_len w h → a ≡ input_len w j → (b ≡ a → ⊥) → More (c.trees ++ item.tree ∷ []) →
    Chain w Part More i h
chain_more {w = w} {Part = Part} l c item p q e z =
    let taken = taken_turn item.tree item.length (consumes item.rest_is p q e) in
    collected_more l (TurnsBy None (λ _ x. chain_turn x) (λ _. Part)) item.tree c
    (record { reply = Some (Accept item.length (Whole item.tree)); replied = (tt, item.answered); fact = taken }) item.rest_is z
