-- As many items as a range of counts says.
use Rattle.std.specs.Prelude.{◌≡◌, ℕ, ◌++◌, ◌∷◌, [], true, Some, None, Option, List, ◌⊎◌}
use Rattle.std.specs.declared.ops.Bound.{Bound}
use Rattle.nom_error.specs.declared.kind.ErrorKind.TheVariants as Kind
use Rattle.nom_internal.specs.Prelude.{Errors, ErrorKind, Model, Meaning, Grammar}
use Rattle.nom_repeat.specs.Items.{items_meaning}
use Rattle.nom_repeat.specs.declared.items.Limits.{Limits}
use Rattle.nom_values.specs.Ranges.{IsInverted, fewest, most_items, limit}
use Rattle.nom_multi_fold.specs.Unfit.{unfit}
use Rattle.nom_repeat.specs.Bounds.{bounded_limits}
use Rattle.std.specs.List.{AllZip}
use Rattle.nom_multi_fold.specs.Folds.{Folds}
use Rattle.nom_multi_fold.specs.Under.{under}

-- The items that a range with these two ends allows. Before as many as it allows at most, a count is outside the range just
-- where it is below the fewest. With no second end, as many are taken as a `usize` can count.
abbrev pub range_limits : ErrorKind → Bound ℕ → Bound ℕ → Limits
range_limits kind lower upper = bounded_limits kind (fewest lower) (limit (most_items upper))

-- the range has nothing in it: it was iterated to its end, or its two ends have nothing between them
abbrev pub IsEmpty : Type 0 → Bound ℕ → Bound ℕ → Type 0
IsEmpty IsSpent lower upper = IsSpent ⊎ IsInverted lower upper

-- a range with nothing between its two ends is a failure
abbrev pub range_meaning : {I A V E : Type 0} → Model I A → Errors I E → ErrorKind → Type 0 → Bound ℕ → Bound ℕ → Type 0 → Meaning I V E → Meaning I (List V) E
range_meaning w errs kind IsSpent lower upper Grows m =
    unfit errs kind true (IsEmpty IsSpent lower upper) (items_meaning w errs (range_limits kind lower upper) Grows m)

-- a collection gained an item at its end
abbrev pub Gathers : {K T : Type 0} → (K → List T) → K → T → K → Type 0
Gathers items old x new = items new ≡ items old ++ x ∷ []

-- the collection, where there is one
abbrev pub IsGathered : {K C : Type 0} → (K → C) → Option K → Option C → Type 0
IsGathered collection (Some k) r = r ≡ Some (collection k)
IsGathered collection None r = r ≡ None

-- items of a grammar, as many as a range says, in a collection
abbrev pub many_of : {I A V O C E : Type 0} → Model I A → Errors I E → Type 0 → Bound ℕ → Bound ℕ → (C → List O) → Grammar I V O E →
    Grammar I (List V) C E
many_of w errs IsSpent lower upper items g = record {
  meaning = range_meaning w errs Kind.Many IsSpent lower upper (Unit {0}) g.meaning;
  IsOutput = λ ts o. AllZip g.IsOutput ts (items o);
}

-- and folded by closures
abbrev pub fold_by : {I A V O R E : Type 0} → Model I A → Errors I E → Type 0 → Bound ℕ → Bound ℕ → (Premise : Type 0) → (R → Type 0) →
    (R → O → R → Type 0) → Grammar I V O E → Grammar I (List V) R E
fold_by w errs IsSpent lower upper Premise Inits Gives g = record {
  meaning = under Premise (range_meaning w errs Kind.Fold IsSpent lower upper ⊥ g.meaning);
  IsOutput = Folds g.IsOutput Inits Gives;
}
