-- All items of a stream, each given to a function in its turn.
use Rattle.std.specs.Prelude.{◌≡◌, ℕ, ◌-◌, ◌^◌, ◌⊎◌, List, [], ◌∷◌, length, Option, Some, None, Result, Ok, Err}
use Rattle.std.specs.List.{FoldsTo}
use Rattle.nom_error.specs.declared.value.Error.{Error}
use Rattle.nom_internal.specs.Prelude.{Grammar}
use Rattle.nom_stream.specs.declared.stream.Stop.{Stop}
use Rattle.nom_stream.specs.declared.stream.Stream.{Stream}
use Rattle.nom_stream.specs.Items.{Bytes}
use Rattle.nom_stream.specs.Streams.{Decides, ItemResult}
use Rattle.nom_stream.specs.Wholes.{Calls}

-- answers that are items, each with how many bytes it has
abbrev pub told_of : {O : Type 0} → List (ℕ × O) → List (ItemResult O)
told_of [] = []
told_of (p ∷ ps) = Ok (Some p) ∷ told_of ps

module _ {R A V O : Type 0} (left : R → Option (List ℕ)) (grammar : Grammar Bytes V O (Error Bytes)) where
  -- So many calls of `next_item`, one after another, each gave an item, and a step was made with each.
  pub record Gives {P : Type 0} (Step : P → O → P → Type 0) (s t : Stream R A) (p q : P) (count : ℕ) : Type 0 where
    pub items : List (ℕ × O)
    pub counted : length items ≡ count
    pub calls : Calls left grammar (told_of items) s t
    pub steps : FoldsTo (λ p x q. Step p x.1 q) p items q

  -- then a call gave none, since the data ended; or none was made, after as many items as can be counted
  abbrev pub HasEnded : (s t : Stream R A) (count : ℕ) → Type 0
  HasEnded s t count = Decides left grammar s t (Ok None) ⊎ ((t ≡ s) × (count ≡ 2 ^ 64 - 1))

  -- the result tells how many items there were, or why there was no further one
  abbrev pub TellsCount : (s t : Stream R A) (count : ℕ) → Result ℕ Stop → Type 0
  TellsCount s t count (Ok n) = (n ≡ count) × HasEnded s t count
  TellsCount s t count (Err why) = Decides left grammar s t (Err why)

  -- or what the last step gave
  abbrev pub TellsLast : {B : Type 0} → (s t : Stream R A) (count : ℕ) → B → Result B Stop → Type 0
  TellsLast s t count last (Ok b) = (b ≡ last) × HasEnded s t count
  TellsLast s t count last (Err why) = Decides left grammar s t (Err why)

  -- A function f is called with each item.
  abbrev pub GivesEach : {F : Type 0} → (Step : F → O → F → Type 0) (s t : Stream R A) (f : F) → Result ℕ Stop → Type 0
  GivesEach {F} Step s t f r = (u : Stream R A) × (last : F) × (count : ℕ) × Gives Step s u f last count × TellsCount u t count r

  -- A function f is called with what it gave last, and each item.
  abbrev pub FoldsEach : {F B : Type 0} → (Step : F → B → O → F → B → Type 0) (s t : Stream R A) (f : F) (init : B) → Result B Stop → Type 0
  FoldsEach {F} {B} Step s t f init r =
      (u : Stream R A) × (last : F × B) × (count : ℕ) ×
      Gives {P = F × B} (λ p x q. Step p.0 p.1 x q.0 q.1) s u (f, init) last count × TellsLast u t count last.1 r
