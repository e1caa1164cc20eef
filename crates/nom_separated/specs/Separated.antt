-- Items with a separator between them.
use Rattle.std.specs.Prelude.{◌≡◌, Bool, true, false, Option, Some, None, List, [], ◌∷◌, ◌++◌, Vec}
use Rattle.nom_internal.specs.Prelude.{Errors, Built, Model, Meaning, Family, then_meaning, sequence_meaning, success_meaning, Grammar}
use Rattle.nom_error.specs.declared.kind.ErrorKind.TheVariants as Kind
use Rattle.nom_repeat.specs.Accumulated.{Accumulated}
use Rattle.nom_repeat.specs.Items.{items_meaning}
use Rattle.nom_repeat.specs.declared.items.Limits.{Limits}
use Rattle.nom_repeat.specs.declared.items.TooFew.TheVariants.{Never, Passed}
use Rattle.nom_sequence.specs.Sequences.{preceded_meaning}
use Rattle.nom_repeat.specs.Bounds.{any_limits, one_limits}
use Rattle.std.specs.List.{AllZip}

-- Any number of further items, each after a separator. Where either is refused, the list ends before the separator. Both
-- together may not be empty.
abbrev pub further_meaning : {I A P V E : Type 0} → Model I A → Errors I E → Meaning I P E → Meaning I V E → Meaning I (List V) E
further_meaning w errs separator m = items_meaning w errs (any_limits Kind.SeparatedList) (Unit {0}) (preceded_meaning w separator m)

-- one item at least: a first one, whose refusal is passed on, and which may be empty; and then the further ones
abbrev pub separated1_meaning : {I A P V E : Type 0} → Model I A → Errors I E → Meaning I P E → Meaning I V E → Meaning I (List V) E
separated1_meaning w errs separator m =
    sequence_meaning w (λ vs us. vs ++ us) (λ o. o) (λ o. o) (items_meaning w errs (one_limits Passed false) (Unit {0}) m) (further_meaning w errs separator m)

-- the first item, if it isn't refused, and which may be empty
abbrev pub optional_limits : Limits
optional_limits = record { least = 0; most = Some 1; too_few = Never; at_start = false; empty = None }

abbrev pub optional_meaning : {I A V E : Type 0} → Model I A → Errors I E → Type 0 → Meaning I V E → Meaning I (List V) E
optional_meaning w errs Grows m = items_meaning w errs optional_limits Grows m

-- what follows a first item, or none: nothing where there is none, and else the further items
abbrev pub follows : {I A P V E : Type 0} → Model I A → Errors I E → Meaning I P E → Meaning I V E → List V → Meaning I (List V) E
follows w errs separator m [] = success_meaning []
follows w errs separator m (v ∷ vs) = further_meaning w errs separator m

abbrev pub following : {I A P V E : Type 0} → Model I A → Errors I E → Meaning I P E → Meaning I V E → Family (List V) I (List V) E
following w errs separator m = record {
  at = follows w errs separator m;
  Runs = (further_meaning w errs separator m).Runs;
  IsSound = (further_meaning w errs separator m).IsSound;
  IsFrugal = (further_meaning w errs separator m).IsFrugal;
  Settles = (further_meaning w errs separator m).Settles;
  NeverFails = (further_meaning w errs separator m).NeverFails;
}

-- any number of items, none too
abbrev pub separated0_meaning : {I A P V E : Type 0} → Model I A → Errors I E → Meaning I P E → Meaning I V E → Meaning I (List V) E
separated0_meaning w errs separator m =
    then_meaning w (λ vs us. vs ++ us) (λ o. o) (λ o. o) (optional_meaning w errs (Unit {0}) m) (following w errs separator m)

-- whether there is a first item
abbrev pub HasFirstItem : {V : Type 0} → Bool → List V → Type 0
HasFirstItem {V} true vs = (v : V) × (vs ≡ v ∷ [])
HasFirstItem false vs = vs ≡ []

-- what is told of it: whether there is one, and what is kept, where outputs are built
abbrev pub Found : {V T K : Type 0} → (K → T → K → Type 0) → (K → Type 0) → (V → T → Type 0) → Bool → Option K → List V → Bool × Option K → Type 0
Found Pushes CanPush IsOutput builds before vs x = HasFirstItem x.0 vs × Built builds (Accumulated Pushes CanPush IsOutput before vs) x.1

-- items of a grammar with another's between them, any number or one at least
abbrev pub separated_list0_of : {I A P Q V O M E : Type 0} → Model I A → Errors I E → Grammar I P Q E → Grammar I V O E →
    Grammar I (List V) (Vec O M) E
separated_list0_of w errs sep g = record {
  meaning = separated0_meaning w errs sep.meaning g.meaning;
  IsOutput = λ ts o. AllZip g.IsOutput ts o.items;
}

abbrev pub separated_list1_of : {I A P Q V O M E : Type 0} → Model I A → Errors I E → Grammar I P Q E → Grammar I V O E →
    Grammar I (List V) (Vec O M) E
separated_list1_of w errs sep g = record {
  meaning = separated1_meaning w errs sep.meaning g.meaning;
  IsOutput = λ ts o. AllZip g.IsOutput ts o.items;
}
