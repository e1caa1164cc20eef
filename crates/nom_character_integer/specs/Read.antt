-- The reading of a decimal integer, part by part.
use Rattle.std.specs.Prelude.{◌≡◌, ℕ, ◌<◌, Bool, true, ℤ, length, ◌↔◌}
use Rattle.nom_internal.specs.Prelude.{Model, items_len, IsSuffixOf}
use Rattle.nom_character_integer.specs.declared.integer.Unsigned.{Unsigned}
use Rattle.nom_character_integer.specs.declared.integer.Number.{Number}
use Rattle.nom_character_integer.specs.Integers.{digits_of, after_digits, decimal_number, with_sign, sign_of, after_sign, is_negative}

-- the input after its sign, and whether that is a minus
pub record AfterSign {I A : Type 0} (w : Model I A) (code : A → ℕ) (signed : Bool) (i : I) (u : Unsigned I) : Type 0 where
  pub rest_is : IsSuffixOf w i (items_len w.item_len (sign_of code signed (w.elements i))) u.digits
  pub elements_are : w.elements u.digits ≡ after_sign code signed (w.elements i)
  pub negative_is : u.negative ≡ is_negative code signed (w.elements i)

module _ {I A : Type 0} (w : Model I A) (code : A → ℕ) where
  -- the number of the first digits is none of the type
  abbrev pub IsUnfit : (fits : ℤ → Type 0) → (negative : Bool) → I → Type 0
  IsUnfit fits negative i = ¬ (fits (with_sign negative (decimal_number code (digits_of code (w.elements i)))))

  -- the number of the first digits, with their length, and whether an item follows them
  pub record IsRead {T : Type 0} (value : T → ℤ) (fits : ℤ → Type 0) (negative : Bool) (i : I) (n : Number T) : Type 0 where
    pub value_is : value n.value ≡ with_sign negative (decimal_number code (digits_of code (w.elements i)))
    pub fitting : fits (value n.value)
    pub length_is : n.length ≡ items_len w.item_len (digits_of code (w.elements i))
    pub followed_is : (n.followed ≡ true) ↔ (0 < length (after_digits code (w.elements i)))
