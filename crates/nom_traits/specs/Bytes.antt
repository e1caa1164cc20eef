-- The model of a slice of bytes.
use Rattle.std.specs.Prelude.{ℕ, ◌<◌, ◌^◌, List, length, refl}
use Rattle.std.specs.Borrow.{Bor}
use Rattle.std.proofs.Common.{lit<}
use Rattle.nom_traits.specs.Input.{Model, AreValues, InputLaws}

-- bytes are their own model
abbrev pub bytes_model : Model (Bor (List ℕ)) ℕ
bytes_model = record {
  elements = λ s. s.now;
  item_len = λ _. 1;
  Mark = Unit {0};
  mark = λ _. tt;
  mark_after = λ m _. m;
  IsKnown = λ s. AreValues (λ b. b < 256) s.now × (length s.now < 2 ^ 63);
  IsMore = λ _. Unit {0};
}

pub bytes_lawful : InputLaws bytes_model
bytes_lawful = record {
  positive = λ _. lit< tt;
  mark_none = λ _. refl;
  mark_more = λ _ _ _. refl;
}
