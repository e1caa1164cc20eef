-- The reading of a number in a bounded count of digits.
use Rattle.std.specs.Prelude.{◌≡◌, ℕ, ◌<◌, ◌≤◌, true, false, length}
use Rattle.nom_internal.specs.Prelude.{Model, items_len}
use Rattle.nom_character_integer.specs.declared.bounded.Run.{Run}
use Rattle.nom_character_integer.specs.CountedDigits.{first_digits, number_of, AreEnded}

module _ {I A : Type 0} (w : Model I A) (code : A → ℕ) (base n greatest : ℕ) where
  -- the first digits write a number above the greatest
  abbrev pub IsTooGreat : I → Type 0
  IsTooGreat i = greatest < number_of code base (first_digits code base n (w.elements i))

  -- the number of the first digits, with their length and their count, and whether they are ended
  pub record IsRun (i : I) (run : Run) : Type 0 where
    pub count_is : run.count ≡ length (first_digits code base n (w.elements i))
    pub length_is : run.length ≡ items_len w.item_len (first_digits code base n (w.elements i))
    pub value_is : run.value ≡ number_of code base (first_digits code base n (w.elements i))
    pub fits : run.value ≤ greatest
    pub ended_is : run.ended ≡ true → AreEnded code base n (w.elements i)
    pub open_is : run.ended ≡ false → (run.count < n) × (run.count ≡ length (w.elements i))
