-- Lemmas on the search for a needle.
use Rattle.std.proofs.Common.{◌≡◌, ℕ, ◌<◌, Bool, true, false, List, Ok, Err, Option, Some, None, refl, arith}
use Rattle.nom_internal.specs.Prelude.{Unknown, Incomplete, Errors, Built, Modes, Model, IsSuffixOf, Slice, IsFirst, IsModelledBy, place_first, ShowsMeaning}
use Rattle.nom_search.specs.Substrings.{FindLaws}
use Rattle.nom_internal.proofs.Shown.{accepted, undecided}
use Rattle.nom_bytes.specs.Untils.{until_meaning}

module _ {I A T E : Type 0} {w : Model I A} (errs : Errors I E) {Finds : T → List A → Option ℕ → Type 0} {one : Bool} {needle : T} {mode : Modes} {i : I} where
  pub until_found : FindLaws w Finds → {n : ℕ} {j : I} {x : Option I} → w.IsKnown i → Finds needle (w.elements i) (Some n) → (one ≡ true → 0 < n) →
      IsSuffixOf w i n j → ((t : Slice w) → IsFirst w i n t → Built mode.outputs (IsModelledBy w t) x) →
      ShowsMeaning w (IsModelledBy w) (until_meaning w errs Finds one needle) mode i (Ok (j, x))
  until_found f {n = n} known a some r built =
      let first = place_first w i n (f.place needle i n known a) in
      accepted _ r (first, a, some) (built _ first)

module _ {I A T E : Type 0} {w : Model I A} (errs : Errors I E) (Finds : T → List A → Option ℕ → Type 0) (one : Bool) (needle : T) {mode : Modes} {i : I} where
  pub until_open : mode.streaming ≡ true → Finds needle (w.elements i) None →
      ShowsMeaning w (IsModelledBy w) (until_meaning w errs Finds one needle) mode i (Err (Incomplete Unknown))
  until_open more a = undecided refl (more, (a, refl))

-- where one item isn't asked for, none is
pub not_one : (n : ℕ) → false ≡ true → 0 < n
not_one n e = absurd (cc (e))

pub not_none : (n : ℕ) → (n ≡ 0 → ⊥) → 0 < n
not_none n h = omega (arith, h)
