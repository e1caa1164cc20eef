-- The laws of what stands after a length.
use Rattle.std.specs.Prelude.{ℕ, List, Option}
use Rattle.nom_internal.specs.Prelude.{Errors, Model, InputLaws, Meaning, IsLawful, IsSteady, Family, IsLawfulFamily, IsOne, of_value, of_value_lawful}
use Rattle.nom_internal.specs.Prelude.{of_value_steady}
use Rattle.nom_internal.specs.laws.SequenceLaws.{then_lawful, then_steady}
use Rattle.nom_bytes.specs.laws.TakeLaws.{take_lawful, take_steady}
use Rattle.nom_repeat.specs.laws.ItemsLaws.{items_lawful, items_steady}
use Rattle.nom_multi.specs.Lengths.{after_length, takes_by_count, length_data_meaning, items_by_count, length_count_meaning}
use Rattle.nom_repeat.specs.Bounds.{exact_limits}

module _ {I A P Q T E : Type 0} {w : Model I A} (l : InputLaws w) {tree : P → Q → T} {IsLength : P → ℕ → Type 0} (one : IsOne IsLength)
    {a : Meaning I P E} (f : Family ℕ I Q E) where
  pub after_lawful : IsLawful w a → IsLawfulFamily w (λ n. (u : P) × IsLength u n) f → IsLawful w (after_length w tree IsLength a f)
  after_lawful p q = then_lawful l (of_value IsLength f) p (of_value_lawful w IsLength f one q)

  pub after_steady : IsSteady w a → ((n : ℕ) → IsSteady w (f.at n)) → IsSteady w (after_length w tree IsLength a f)
  after_steady p q = then_steady l (of_value IsLength f) p (of_value_steady w IsLength f one (λ n _. q n))

module _ {I A P E : Type 0} {w : Model I A} (l : InputLaws w) (errs : Errors I E) (lack : ℕ → List A → Option ℕ) {IsLength : P → ℕ → Type 0}
    {a : Meaning I P E} (one : IsOne IsLength) where
  pub length_data_lawful : IsLawful w a → IsLawful w (length_data_meaning w errs lack IsLength a)
  length_data_lawful p =
      let takes : IsLawfulFamily w (λ n. (u : P) × IsLength u n) (takes_by_count w errs lack) = record {
        lawful = λ n _. take_lawful w errs lack n;
        frugal = λ mode h n _. h;
        settles = λ h n _. h;
        never_fails = λ cause h n _. h;
      } in
      after_lawful l one (takes_by_count w errs lack) p takes

  pub length_data_steady : IsSteady w a → IsSteady w (length_data_meaning w errs lack IsLength a)
  length_data_steady p = after_steady l one (takes_by_count w errs lack) p (take_steady w errs lack)

module _ {I A P V E : Type 0} {w : Model I A} (l : InputLaws w) (errs : Errors I E) {IsLength : P → ℕ → Type 0} {a : Meaning I P E} {m : Meaning I V E}
    (one : IsOne IsLength) where
  pub length_count_lawful : IsLawful w a → IsLawful w m → IsLawful w (length_count_meaning w errs IsLength a m)
  length_count_lawful p q =
      let items : IsLawfulFamily w (λ n. (u : P) × IsLength u n) (items_by_count w errs m) = record {
        lawful = λ n _. items_lawful l errs (exact_limits n) q;
        frugal = λ mode h n _. (h.0, (λ e _. h.1 e), h.2);
        settles = λ h n _. h;
        never_fails = λ cause h n _. h;
      } in
      after_lawful l one (items_by_count w errs m) p items

  pub length_count_steady : IsSteady w a → IsSteady w m → IsSteady w (length_count_meaning w errs IsLength a m)
  length_count_steady p q = after_steady l one (items_by_count w errs m) p (λ n. items_steady l errs (exact_limits n) q)
