-- Items that are written to a pipe are those that are read from it.
use Rattle.std.specs.Prelude.{◌≡◌, ℕ, ◌<◌, true, List, [], ◌∷◌, ◌++◌, Option, Some, None, Ok, Err}
use Rattle.nom_error.specs.declared.value.Error.{Error}
use Rattle.nom_internal.specs.Prelude.{bytes_model, Grammar, Outcome, View}
use Rattle.nom_stream.specs.declared.stream.Stop.TheVariants as Stopped
use Rattle.nom_stream.specs.declared.stream.Stream.{Stream}
use Rattle.nom_stream.specs.Items.{Bytes}
use Rattle.nom_stream.specs.Streams.{ItemResult}
use Rattle.nom_stream.specs.Wholes.{Calls, HasLeft}
use Rattle.nom_sink.specs.Lists.{EachForm}
use Rattle.nom_write_stream.specs.declared.outgoing.Outgoing.{Outgoing}
use Rattle.nom_write_stream.specs.Outgoing.{held_of, IsItem, Sends}

-- every input of bytes has an outcome
pub record HasOutcome {V : Type 0} (P : Bytes → Outcome V → Type 0) : Type 0 where
  pub outcome : (i : Bytes) → bytes_model.IsKnown i → (o : Outcome V) × P i o

abbrev pub HasOutcomes : {V O : Type 0} → Grammar Bytes V O (Error Bytes) → Type 0
HasOutcomes g = HasOutcome (g.meaning.answers true)

module _ {O : Type 0} (view : View O) (Pins : Type 0) (Short : Type 0) where
  -- Answers of `next_item` tell these values, in order, and then the end: equal as viewed, where outputs are pinned. A read that
  -- failed and want of memory lose none of them; nor does a limit, which is told only where it is too short.
  abbrev pub TellsItems : List O → List (ItemResult O) → Type 0
  TellsItems vs [] = Unit {0}
  TellsItems [] (Ok None ∷ rs) = TellsItems [] rs
  TellsItems (v ∷ vs) (Ok None ∷ rs) = ⊥
  TellsItems [] (Ok (Some p) ∷ rs) = ⊥
  TellsItems (v ∷ vs) (Ok (Some (n, o)) ∷ rs) = (Pins → view.value o ≡ view.value v) × TellsItems vs rs
  TellsItems vs (Err (Stopped.Refused e at) ∷ rs) = ⊥
  TellsItems vs (Err (Stopped.Failed e at) ∷ rs) = ⊥
  TellsItems vs (Err Stopped.Nothing ∷ rs) = ⊥
  TellsItems vs (Err (Stopped.Incomplete k) ∷ rs) = ⊥
  TellsItems vs (Err Stopped.TooLong ∷ rs) = Short × TellsItems vs rs
  TellsItems vs (Err (Stopped.Fault e) ∷ rs) = TellsItems vs rs
  TellsItems vs (Err Stopped.OutOfMemory ∷ rs) = TellsItems vs rs

module _ (A : Type 0) {R V O : Type 0} (left : R → Option (List ℕ)) (view : View O) (Pins : Type 0) (g : Grammar Bytes V O (Error Bytes))
    (Form : O → List ℕ → Type 0) where
  -- A stream reads forms of items, none of more than so many bytes. Its answers tell these items. There is one that has a form, so
  -- that no item is where there are no bytes.
  abbrev pub ItemsOfForms : Type 0
  ItemsOfForms = (most : ℕ) (first : O) (form : List ℕ) → IsItem (Form first) most form → (vs : List O) (xs : List ℕ) →
      EachForm (λ v. IsItem (Form v) most) vs xs → (s t : Stream R A) (rs : List (ItemResult O)) → HasLeft left s xs → Calls left g rs s t →
      TellsItems view Pins (s.settings.most < most) vs rs

-- Items were written, and then all that was held; a stream reads just what the writer took. Its answers tell these items.
abbrev pub ItemsOfPipe : (A B : Type 0) {R W V O : Type 0} → (R → Option (List ℕ)) → (W → Option (List ℕ)) → View O → (Pins : Type 0) →
    Grammar Bytes V O (Error Bytes) → (O → List ℕ → Type 0) → Type 0
ItemsOfPipe A B {R} {W} {V} {O} left contents view Pins g Form =
    (a b : Outgoing W B) (v : O) (vs : List O) (xs before taken : List ℕ) → EachForm (λ v. IsItem (Form v) a.most) (v ∷ vs) xs →
    held_of a ≡ [] → Sends contents a b xs → held_of b ≡ [] → contents a.target.inner ≡ Some before → contents b.target.inner ≡ Some
    (before ++ taken) →
    (s t : Stream R A) (rs : List (ItemResult O)) → HasLeft left s taken → Calls left g rs s t →
    TellsItems view Pins (s.settings.most < a.most) (v ∷ vs) rs
