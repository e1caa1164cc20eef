-- Items until an end.
use Rattle.std.specs.Prelude.{◌≡◌, ℕ, ◌⊎◌, Bool, true, Option, Some, None, List, zero, suc, Vec}
use Rattle.std.proofs.Common.{inl, inr}
use Rattle.nom_internal.specs.Prelude.{Errors, Built, Model, Outcome, Accept, Refuse, Stop, Fails, Needs, Meaning, labelled_meaning, otherwise_meaning}
use Rattle.nom_internal.specs.Prelude.{always, Grammar}
use Rattle.nom_error.specs.declared.kind.ErrorKind.TheVariants as Kind
use Rattle.nom_repeat.specs.Repeat.{Turn, Rule, repeat_meaning}
use Rattle.nom_repeat.specs.Repeat.Turn.{Takes, Ends}
use Rattle.nom_multi.specs.declared.till.Step.{Step}
use Rattle.nom_multi.specs.declared.till.Step.TheVariants.{End, Item}
use Rattle.std.specs.List.{AllZip}

-- an end, which is tried first, or else an item
abbrev pub end_or_item : {I T V E : Type 0} → Meaning I T E → Meaning I V E → Meaning I (T ⊎ V) E
end_or_item end m = otherwise_meaning (labelled_meaning inl end) (labelled_meaning inr m)

-- An end ends the list, with its tree. An item is taken; one that consumes nothing is refused.
abbrev pub step_turn : {T V : Type 0} → T ⊎ V → ℕ → Turn V T
step_turn (inl t) n = Ends (Accept n t)
step_turn (inr v) zero = Ends Refuse
step_turn (inr v) (suc n) = Takes (suc n) v

-- all that isn't accepted is passed on
abbrev pub till_turn : {T V : Type 0} → Option (Outcome (T ⊎ V)) → Turn V T
till_turn (Some (Accept n u)) = step_turn u n
till_turn (Some Refuse) = Ends Refuse
till_turn (Some (Stop why)) = Ends (Stop why)
till_turn None = Ends Refuse

-- the first where it is an item that consumes nothing, and the second where it is another item
abbrev pub OnItem : {T V : Type 0} → Type 0 → Type 0 → T ⊎ V → ℕ → Type 0
OnItem Empty Taken (inl t) n = ⊥
OnItem Empty Taken (inr v) zero = Empty
OnItem Empty Taken (inr v) (suc n) = Taken

-- the error: of an empty item a new one, of a refused item its own, to which a kind is added; both at its place
abbrev pub TillBlames : {I T V E : Type 0} → Errors I E → I → Option (Outcome (T ⊎ V)) → (E → Type 0) → E → Type 0
TillBlames errs j (Some (Accept n u)) P e = OnItem (errs.of_kind j Kind.Many0 e) ⊥ u n
TillBlames {E = E} errs j (Some Refuse) P e = (x : E) × P x × errs.appended j Kind.ManyTill x e
TillBlames errs j (Some (Stop (Fails cause))) P e = P e
TillBlames errs j (Some (Stop (Needs n))) P e = ⊥
TillBlames errs j None P e = ⊥

-- where memory is needed: for an error, or to keep an item
abbrev pub TillAsks : {T V : Type 0} → Type 0 → Type 0 → Option (Outcome (T ⊎ V)) → Type 0
TillAsks Refused Accumulated (Some (Accept n u)) = OnItem Refused Accumulated u n
TillAsks Refused Accumulated (Some Refuse) = Refused
TillAsks Refused Accumulated (Some (Stop why)) = ⊥
TillAsks Refused Accumulated None = ⊥

abbrev pub till_rule : {I T V E : Type 0} → Errors I E → Rule I (T ⊎ V) V T E
till_rule errs = record {
  bound = None;
  turn = λ _ a. till_turn a;
  Blames = λ _ _ j a P e. TillBlames errs j a P e;
  part = λ _ mode. mode;
  Asks = λ mode _ a. TillAsks ((mode.errors ≡ true) × errs.grows) (mode.outputs ≡ true) a;
  Runs = λ Part. Part;
  IsSound = λ Part. Part;
  IsFrugal = λ PartIs mode. PartIs mode × (mode.outputs ≡ true → ⊥) × (mode.errors ≡ true → errs.grows → ⊥);
  NeverFails = λ Part. Part;
}

-- the list of the items' trees, with the end's
abbrev pub with_end : {T V : Type 0} → List V → T → List V × T
with_end vs t = (vs, t)

-- items until an end, with the list of their trees and the end's tree
abbrev pub many_till_meaning : {I A T V E : Type 0} → Model I A → Errors I E → Meaning I V E → Meaning I T E → Meaning I (List V × T) E
many_till_meaning w errs m end = repeat_meaning w (till_rule errs) with_end (always (end_or_item end m))

-- what is told of an end or an item: what is built of it
abbrev pub IsStep : {T V O P : Type 0} → Bool → (T → O → Type 0) → (V → P → Type 0) → T ⊎ V → Step (Option O) (Option P) → Type 0
IsStep builds IsEnd IsItem (inl t) (End x) = Built builds (IsEnd t) x
IsStep builds IsEnd IsItem (inl t) (Item x) = ⊥
IsStep builds IsEnd IsItem (inr v) (End x) = ⊥
IsStep builds IsEnd IsItem (inr v) (Item x) = Built builds (IsItem v) x

-- items of a grammar until an end
abbrev pub many_till_of : {I A V T O P M E : Type 0} → Model I A → Errors I E → Grammar I V O E → Grammar I T P E →
    Grammar I (List V × T) (Vec O M × P) E
many_till_of w errs g end = record {
  meaning = many_till_meaning w errs g.meaning end.meaning;
  IsOutput = λ t o. AllZip g.IsOutput t.0 o.0.items × end.IsOutput t.1 o.1;
}
