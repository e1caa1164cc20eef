-- The words of parsers whose closures may take memory.
use Rattle.std.specs.Prelude.{◌≡◌, Result}
use Rattle.std.proofs.Common.{ap, ap₂}
use Rattle.nom_error.specs.declared.answer.OutOfMemory.{OutOfMemory}
use Rattle.nom_internal.specs.Word.{Word, word}
use Rattle.nom_internal.specs.Words.{Mapping, mapping, mapping_is}
use Rattle.nom_combinator.specs.MapAlloc as MapAlloc
use Rattle.nom_combinator.specs.ValueAlloc as ValueAlloc

module _ {I O P E : Type 0} where
  pub map_alloc_of : Mapping O (Result P OutOfMemory) → Word I O E → Word I P E
  map_alloc_of m g = word (MapAlloc.map_alloc_by m.Takes m.Gives g.grammar)

  module _ {g h : Word I O E} where
    pub map_alloc_worded : (Takes : O → Type 0) (Gives : O → Result P OutOfMemory → Type 0) → g ≡ h → map_alloc_of (mapping Takes Gives) g ≡
        word (MapAlloc.map_alloc_by Takes Gives h.grammar)
    unfolding map_alloc_of
    map_alloc_worded Takes Gives p = ap₂ map_alloc_of (mapping_is Takes Gives) p

    pub map_alloc_same : {m n : Mapping O (Result P OutOfMemory)} → m ≡ n → g ≡ h → map_alloc_of m g ≡ map_alloc_of n h
    map_alloc_same q p = ap₂ map_alloc_of q p

  pub value_alloc_of : Type 0 → (Result P OutOfMemory → Type 0) → Word I O E → Word I P E
  value_alloc_of CanMake Makes g = word (ValueAlloc.value_alloc_by CanMake Makes g.grammar)

  module _ {g h : Word I O E} where
    pub value_alloc_worded : (CanMake : Type 0) (Makes : Result P OutOfMemory → Type 0) → g ≡ h → value_alloc_of CanMake Makes g ≡
        word (ValueAlloc.value_alloc_by CanMake Makes h.grammar)
    unfolding value_alloc_of
    value_alloc_worded CanMake Makes p = ap (value_alloc_of CanMake Makes) p

    pub value_alloc_same : {CanMake CanMake' : Type 0} {Makes Makes' : Result P OutOfMemory → Type 0} → CanMake ≡ CanMake' → Makes ≡ Makes' → g ≡ h →
        value_alloc_of CanMake Makes g ≡ value_alloc_of CanMake' Makes' h
    value_alloc_same a b p = λ i. value_alloc_of (a i) (b i) (p i)
