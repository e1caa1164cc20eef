-- Items of one part, one after another, between a least and a greatest number of them, until one is refused.
use Rattle.std.specs.Prelude.{◌≡◌, ℕ, ◌+◌, ◌⊎◌, Bool, true, false, ltb, if◌then◌else◌, Option, Some, None, List, zero, suc}
use Rattle.nom_internal.specs.Prelude.{Errors, ErrorKind, Needed, Error, Refuses, modes, Model, Outcome, Accept, Refuse, Stop, Fails, Needs, Meaning, always}
use Rattle.nom_internal.specs.Prelude.{ClosesError}
use Rattle.nom_error.specs.declared.answer.Err as Answer
use Rattle.nom_repeat.specs.Repeat.{Turn, Rule, repeat_meaning}
use Rattle.nom_repeat.specs.Repeat.Turn.{Takes, Ends}
use Rattle.nom_repeat.specs.declared.items.Limits.{Limits}
use Rattle.nom_repeat.specs.declared.items.TooFew.{TooFew}
use Rattle.nom_repeat.specs.declared.items.TooFew.TheVariants.{Never, Passed, Added, Fresh}

-- an item that consumes nothing is refused, where there is a kind for it, and else taken
abbrev pub empty_turn : {V : Type 0} → Option ErrorKind → V → Turn V (Unit {0})
empty_turn (Some kind) v = Ends Refuse
empty_turn None v = Takes 0 v

-- a refusal ends with success, but where there are too few items
abbrev pub refused_turn : {V : Type 0} → Bool → Turn V (Unit {0})
refused_turn true = Ends Refuse
refused_turn false = Ends (Accept 0 tt)

-- An item is taken. A refusal ends with success, before what was refused, but where there are too few items. So does the
-- bound. All else is passed on.
abbrev pub item_turn : {V : Type 0} → Limits → ℕ → Option (Outcome V) → Turn V (Unit {0})
item_turn b k (Some (Accept zero v)) = empty_turn b.empty v
item_turn b k (Some (Accept (suc n) v)) = Takes (suc n) v
item_turn b k (Some Refuse) = refused_turn (ltb k b.least)
item_turn b k (Some (Stop why)) = Ends (Stop why)
item_turn b k None = Ends (Accept 0 tt)

-- the fact of a kind, where there is one
abbrev pub OfKind : Option ErrorKind → (ErrorKind → Type 0) → Type 0
OfKind (Some kind) Fact = Fact kind
OfKind None Fact = ⊥

-- the error of too few items: the item's, to which a kind may be added at a place, or a new one of that kind
abbrev pub FewBlames : {I E : Type 0} → Errors I E → TooFew → I → (E → Type 0) → E → Type 0
FewBlames errs Never place P e = ⊥
FewBlames errs Passed place P e = P e
FewBlames {E = E} errs (Added kind) place P e = (x : E) × P x × errs.appended place kind x e
FewBlames errs (Fresh kind) place P e = errs.of_kind place kind e

-- the error of a refusal: of an empty item its own kind; of too few items theirs, at the start or at the item
abbrev pub ItemBlames : {I V E : Type 0} → Errors I E → Limits → I → I → Option (Outcome V) → (E → Type 0) → E → Type 0
ItemBlames errs b i j (Some (Accept zero v)) P e = OfKind b.empty (λ kind. errs.of_kind j kind e)
ItemBlames errs b i j (Some (Accept (suc n) v)) P e = ⊥
ItemBlames errs b i j (Some Refuse) P e = FewBlames errs b.too_few (if b.at_start then i else j) P e
ItemBlames errs b i j (Some (Stop (Fails cause))) P e = P e
ItemBlames errs b i j (Some (Stop (Needs n))) P e = ⊥
ItemBlames errs b i j None P e = ⊥

-- an empty item needs memory for its error, or is kept
abbrev pub EmptyAsks : Option ErrorKind → Type 0 → Type 0 → Type 0
EmptyAsks (Some kind) Refused Accumulated = Refused
EmptyAsks None Refused Accumulated = Accumulated

-- an error is made where there are too few items
abbrev pub MakesError : TooFew → Type 0
MakesError Never = ⊥
MakesError Passed = ⊥
MakesError (Added kind) = Unit {0}
MakesError (Fresh kind) = Unit {0}

-- where memory is needed: for an error, or to keep an item
abbrev pub ItemAsks : {V : Type 0} → Limits → Type 0 → Type 0 → ℕ → Option (Outcome V) → Type 0
ItemAsks b Refused Accumulated k (Some (Accept zero v)) = EmptyAsks b.empty Refused Accumulated
ItemAsks b Refused Accumulated k (Some (Accept (suc n) v)) = Accumulated
ItemAsks b Refused Accumulated k (Some Refuse) = (ltb k b.least ≡ true) × MakesError b.too_few × Refused
ItemAsks b Refused Accumulated k (Some (Stop why)) = ⊥
ItemAsks b Refused Accumulated k None = ⊥

-- an item's error is built where that of too few is made of it, and errors are built at all
abbrev pub item_errors : TooFew → Bool → Bool
item_errors Never errors = false
item_errors Passed errors = errors
item_errors (Added kind) errors = errors
item_errors (Fresh kind) errors = false

-- of what is kept: it may need memory
abbrev pub items_rule : {I V E : Type 0} → Errors I E → Limits → Type 0 → Rule I V V (Unit {0}) E
items_rule errs b Grows = record {
  bound = b.most;
  turn = item_turn b;
  Blames = λ i _ j a P e. ItemBlames errs b i j a P e;
  part = λ _ mode. modes mode.outputs (item_errors b.too_few mode.errors) mode.streaming;
  Asks = λ mode k a. ItemAsks b ((mode.errors ≡ true) × errs.grows) ((mode.outputs ≡ true) × Grows) k a;
  Runs = λ Part. Part;
  IsSound = λ Part. Part;
  IsFrugal = λ PartIs mode. PartIs (modes mode.outputs (item_errors b.too_few mode.errors) mode.streaming) × (mode.outputs ≡ true → Grows → ⊥) ×
      (mode.errors ≡ true → errs.grows → ⊥);
  NeverFails = λ Part. Part;
}

-- the items, with the list of their trees
abbrev pub items_meaning : {I A V E : Type 0} → Model I A → Errors I E → Limits → Type 0 → Meaning I V E → Meaning I (List V) E
items_meaning w errs b Grows m = repeat_meaning w (items_rule errs b Grows) (λ vs _. vs) (always m)

-- a number of items is given as the most, where empty ones are taken
abbrev pub IsBounded : Option ErrorKind → Option ℕ → Type 0
IsBounded (Some kind) most = Unit {0}
IsBounded None (Some most) = Unit {0}
IsBounded None None = ⊥

-- where there is no bound, none is needed
abbrev pub NeedsNone : Option ℕ → ℕ → Type 0
NeedsNone (Some most) least = Unit {0}
NeedsNone None least = least ≡ 0

-- there are never too few
abbrev pub NeverFew : TooFew → ℕ → Type 0
NeverFew Never least = least ≡ 0
NeverFew Passed least = Unit {0}
NeverFew (Added kind) least = Unit {0}
NeverFew (Fresh kind) least = Unit {0}

-- The limits fit each other: the items end, there is an error for too few, and where there is no bound none is needed.
pub record AreLimits (b : Limits) : Type 0 where
  pub ends : IsBounded b.empty b.most
  pub has_error : NeverFew b.too_few b.least
  pub has_bound : NeedsNone b.most b.least

-- the kind of an item that consumed nothing, by the lengths of what is left before and after it
abbrev pub IsStuck : Option ErrorKind → ℕ → ℕ → Option ErrorKind → Type 0
IsStuck empty before after (Some kind) = (empty ≡ Some kind) × (after ≡ before)
IsStuck empty before after None = (empty ≡ None) ⊎ (after ≡ before → ⊥)

-- one item more, where there is a bound; else none is counted
abbrev pub IsOneMore : Option ℕ → ℕ → ℕ → Type 0
IsOneMore (Some most) count more = more ≡ count + 1
IsOneMore None count more = Unit {0}

-- what is answered for too few items: the item's error, that with a kind added at a place, or a new one of that kind
abbrev pub GivesFew : {I E : Type 0} → Errors I E → TooFew → I → Bool → Option E → Answer.Err E (Option E) Needed → Type 0
GivesFew errs Never place errors x r = ⊥
GivesFew errs Passed place errors x r = r ≡ Error x
GivesFew errs (Added kind) place errors x r = ClosesError (errs.appended place kind) errs.grows x r
GivesFew errs (Fresh kind) place errors x r = Refuses (errs.of_kind place kind) errs.grows errors r

abbrev pub IsNever : TooFew → Type 0
IsNever Never = Unit {0}
IsNever Passed = ⊥
IsNever (Added kind) = ⊥
IsNever (Fresh kind) = ⊥
