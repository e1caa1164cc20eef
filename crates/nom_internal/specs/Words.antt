-- The words of this crate's parsers. `cut_worded` says of a word which grammar it is; `cut_same`, that words of equal parts are equal.
use Rattle.std.specs.Prelude.{◌≡◌, Bool, Option, Result}
use Rattle.std.proofs.Common.{refl, ap, ap₂}
use Rattle.nom_error.specs.Errors.{Errors, Externals}
use Rattle.nom_traits.specs.Input.{Model}
use Rattle.nom_internal.specs.Bounded as Bounded
use Rattle.nom_internal.specs.Cases as Cases
use Rattle.nom_internal.specs.Choice as Choice
use Rattle.nom_internal.specs.FlatMap as FlatMap
use Rattle.nom_internal.specs.FlatMap.{Maker}
use Rattle.nom_internal.specs.Judged as Judged
use Rattle.nom_internal.specs.Mapped as Mapped
use Rattle.nom_internal.specs.Sequence as Sequence
use Rattle.nom_internal.specs.Tuples as Tuples
use Rattle.nom_internal.specs.Word.{Word, Words, word}

module _ {I A E : Type 0} (w : Model I A) {O P : Type 0} where
  pub pair_of : Word I O E → Word I P E → Word I (O × P) E
  pair_of g h = word (Sequence.pair_of w g.grammar h.grammar)

  module _ {g h : Word I O E} {k l : Word I P E} where
    pub pair_worded : g ≡ h → k ≡ l → pair_of g k ≡ word (Sequence.pair_of w h.grammar l.grammar)
    unfolding pair_of
    pair_worded p q = ap₂ pair_of p q

    pub pair_same : g ≡ h → k ≡ l → pair_of g k ≡ pair_of h l
    pair_same p q = ap₂ pair_of p q

-- a tuple, by the nested pairs of its outputs
module _ {I E F O : Type 0} (pairs : F → O) where
  pub tuple_of : Word I O E → Word I F E
  tuple_of g = word (Tuples.tuple_of pairs g.grammar)

  module _ {g h : Word I O E} where
    pub tuple_worded : g ≡ h → tuple_of g ≡ word (Tuples.tuple_of pairs h.grammar)
    unfolding tuple_of
    tuple_worded p = ap tuple_of p

    pub tuple_same : g ≡ h → tuple_of g ≡ tuple_of h
    tuple_same p = ap tuple_of p

-- `or`, as a method
module _ {I E : Type 0} (Joins : E → E → E → Type 0) (Grows : Type 0) {O : Type 0} where
  pub either_of : Word I O E → Word I O E → Word I O E
  either_of g h = word (Choice.either_of Joins Grows g.grammar h.grammar)

  module _ {g h k l : Word I O E} where
    pub either_worded : g ≡ h → k ≡ l → either_of g k ≡ word (Choice.either_of Joins Grows h.grammar l.grammar)
    unfolding either_of
    either_worded p q = ap₂ either_of p q

    pub either_same : g ≡ h → k ≡ l → either_of g k ≡ either_of h l
    either_same p q = ap₂ either_of p q

-- a parser in one mode
module _ {I O E : Type 0} (mode : Bool) where
  pub fixed_of : Word I O E → Word I O E
  fixed_of g = word (Cases.fixed_of mode g.grammar)

  module _ {g h : Word I O E} where
    pub fixed_worded : g ≡ h → fixed_of g ≡ word (Cases.fixed_of mode h.grammar)
    unfolding fixed_of
    fixed_worded p = ap fixed_of p

    pub fixed_same : g ≡ h → fixed_of g ≡ fixed_of h
    fixed_same p = ap fixed_of p

-- a part on the output of another
module _ {I A J B E : Type 0} (w : Model I A) (v : Model J B) {O : Type 0} where
  pub and_then_of : Word I J E → Word J O E → Word I O E
  and_then_of g h = word (Bounded.and_then_of w v g.grammar h.grammar)

  module _ {g h : Word I J E} {k l : Word J O E} where
    pub and_then_worded : g ≡ h → k ≡ l → and_then_of g k ≡ word (Bounded.and_then_of w v h.grammar l.grammar)
    unfolding and_then_of
    and_then_worded p q = ap₂ and_then_of p q

    pub and_then_same : g ≡ h → k ≡ l → and_then_of g k ≡ and_then_of h l
    and_then_same p q = ap₂ and_then_of p q

-- the parser that a closure returns for an output, by its state
module _ {I A O H S E X : Type 0} (w : Model I A) (give : Maker O H S) (k : Words S I X E) where
  pub flat_map_of : Word I O E → Word I X E
  flat_map_of g = word (FlatMap.flat_map_by w give g.grammar k.grammar)

  module _ {g h : Word I O E} where
    pub flat_map_worded : g ≡ h → flat_map_of g ≡ word (FlatMap.flat_map_by w give h.grammar k.grammar)
    unfolding flat_map_of
    flat_map_worded p = ap flat_map_of p

    pub flat_map_same : g ≡ h → flat_map_of g ≡ flat_map_of h
    flat_map_same p = ap flat_map_of p

-- What a closure takes, and what it gives for it. As one closed term it is compared by itself, beside parts that are rewritten.
pub record Mapping (O P : Type 0) : Type 1 where
  pub Takes : O → Type 0
  pub Gives : O → P → Type 0

module _ {O P : Type 0} where
  pub mapping : (O → Type 0) → (O → P → Type 0) → Mapping O P
  mapping Takes Gives = record { Takes = Takes; Gives = Gives }

  pub mapping_is : (Takes : O → Type 0) (Gives : O → P → Type 0) → mapping Takes Gives ≡ record { Takes = Takes; Gives = Gives }
  unfolding mapping
  mapping_is Takes Gives = refl

-- outputs that a closure maps
module _ {I O P E : Type 0} where
  pub map_of : Mapping O P → Word I O E → Word I P E
  map_of m g = word (Mapped.map_by m.Takes m.Gives g.grammar)

  module _ {g h : Word I O E} where
    pub map_worded : (Takes : O → Type 0) (Gives : O → P → Type 0) → g ≡ h → map_of (mapping Takes Gives) g ≡ word (Mapped.map_by Takes Gives h.grammar)
    unfolding map_of mapping
    map_worded Takes Gives p = ap (map_of (mapping Takes Gives)) p

    pub map_same : {m n : Mapping O P} → m ≡ n → g ≡ h → map_of m g ≡ map_of n h
    map_same q p = ap₂ map_of q p

-- outputs that a closure maps or refuses
module _ {I O P E : Type 0} (errs : Errors I E) where
  pub map_opt_of : Mapping O (Option P) → Word I O E → Word I P E
  map_opt_of m g = word (Judged.map_opt_by errs m.Takes m.Gives g.grammar)

  module _ {g h : Word I O E} where
    pub map_opt_worded : (Takes : O → Type 0) (Gives : O → Option P → Type 0) → g ≡ h → map_opt_of (mapping Takes Gives) g ≡
        word (Judged.map_opt_by errs Takes Gives h.grammar)
    unfolding map_opt_of mapping
    map_opt_worded Takes Gives p = ap (map_opt_of (mapping Takes Gives)) p

    pub map_opt_same : {m n : Mapping O (Option P)} → m ≡ n → g ≡ h → map_opt_of m g ≡ map_opt_of n h
    map_opt_same q p = ap₂ map_opt_of q p

-- outputs that a closure maps or refuses with an error
module _ {I O P X E : Type 0} (externals : Externals I X E) where
  pub map_res_of : Mapping O (Result P X) → Word I O E → Word I P E
  map_res_of m g = word (Judged.map_res_by externals m.Takes m.Gives g.grammar)

  module _ {g h : Word I O E} where
    pub map_res_worded : (Takes : O → Type 0) (Gives : O → Result P X → Type 0) → g ≡ h → map_res_of (mapping Takes Gives) g ≡
        word (Judged.map_res_by externals Takes Gives h.grammar)
    unfolding map_res_of mapping
    map_res_worded Takes Gives p = ap (map_res_of (mapping Takes Gives)) p

    pub map_res_same : {m n : Mapping O (Result P X)} → m ≡ n → g ≡ h → map_res_of m g ≡ map_res_of n h
    map_res_same q p = ap₂ map_res_of q p

-- outputs and errors that are converted
module _ {I O P E F : Type 0} (Gives : O → P → Type 0) (Converts : E → F → Type 0) where
  pub into_of : Word I O E → Word I P F
  into_of g = word (Mapped.into_by Gives Converts g.grammar)

  module _ {g h : Word I O E} where
    pub into_worded : g ≡ h → into_of g ≡ word (Mapped.into_by Gives Converts h.grammar)
    unfolding into_of
    into_worded p = ap into_of p

    pub into_same : g ≡ h → into_of g ≡ into_of h
    into_same p = ap into_of p
