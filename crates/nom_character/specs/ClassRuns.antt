-- Runs of the items of a class. How many are wanted is None, where there may be none, or Some of the kind of the refusal, where one is wanted at least.
use Rattle.std.specs.Prelude.{◌≡◌, ℕ, Bool, true, false, cond, Option, Some, None}
use Rattle.nom_internal.specs.Prelude.{ErrorKind, Errors, has_code, Model, AreValues, Slice, Meaning, IsLawful, IsSteady, leaf_meaning}
use Rattle.nom_traits.specs.declared.character.AsciiClass.{AsciiClass}
use Rattle.nom_bytes.specs.Predicates.{IsFixed}
use Rattle.nom_bytes.specs.ParsedRuns.{runs}
use Rattle.nom_bytes.specs.laws.RunLaws.{run_lawful, run_steady}

-- one is wanted at least
abbrev pub is_wanted : Option ErrorKind → Bool
is_wanted None = false
is_wanted (Some kind) = true

abbrev pub least_of : Option ErrorKind → ℕ
least_of wanted = cond (is_wanted wanted) 1 0

module _ {I E : Type 0} (errs : Errors I E) where
  abbrev pub wanted_error : Option ErrorKind → I → E → Type 0
  wanted_error None i e = ⊥
  wanted_error (Some kind) i e = errs.of_kind i kind e

  abbrev pub wanted_grows : Option ErrorKind → Type 0
  wanted_grows None = ⊥
  wanted_grows (Some kind) = errs.grows

-- whether an item is of the class
abbrev pub IsOf : {A : Type 0} → (code : A → ℕ) → AsciiClass → A → Bool → Type 0
IsOf code class x b = has_code class (code x) ≡ b

-- the longest list of first items that are of the class
abbrev pub class_meaning : {I A E : Type 0} (w : Model I A) → (code : A → ℕ) → Errors I E → AsciiClass → Option ErrorKind → Meaning I (Slice w) E
class_meaning w code errs class wanted =
    leaf_meaning (wanted_error errs wanted) (wanted_grows errs wanted) (runs w (IsOf code class) None (least_of wanted))

module _ {I A E : Type 0} (w : Model I A) (IsValue : A → Type 0) (values : (i : I) → w.IsKnown i → AreValues IsValue (w.elements i)) (code : A → ℕ)
    (errs : Errors I E) (class : AsciiClass) (wanted : Option ErrorKind) where
  one_class : IsFixed IsValue (IsOf code class)
  one_class x v p q = cc (p, q)

  pub class_lawful : IsLawful w (class_meaning w code errs class wanted)
  class_lawful = run_lawful w IsValue values (IsOf code class) one_class None (least_of wanted) (wanted_error errs wanted) (wanted_grows errs wanted)

  pub class_steady : IsSteady w (class_meaning w code errs class wanted)
  class_steady = run_steady w IsValue values (IsOf code class) one_class None (least_of wanted) (wanted_error errs wanted) (wanted_grows errs wanted)
