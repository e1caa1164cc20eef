-- Which grammars have an outcome at every input: numbers, and what stands after a length.
use Rattle.std.specs.Prelude.{ℕ, true, List, Option, refl}
use Rattle.nom_internal.specs.Prelude.{bytes_model, Errors, Grammar, IsLawful, Meaning, labelled}
use Rattle.nom_multi.specs.Lengths.{HasSize, length_count_meaning, length_data_of}
use Rattle.nom_number.specs.Numbers.{bytes_lack, number_meaning}
use Rattle.nom_stream.specs.Items.{Bytes}
use Rattle.nom_write_stream.specs.Pipes.{HasOutcome}
use Rattle.nom_write_stream.proofs.Counted.{items_outcome}
use Rattle.nom_write_stream.proofs.Everywhere.{case_outcome, of_value_outcome, take_outcome, then_outcome}

pub number_outcome : {N E : Type 0} (errs : Errors Bytes E) (value : List ℕ → N) (count : ℕ) →
    HasOutcome ((number_meaning bytes_model errs value count).answers true)
number_outcome errs value count = case_outcome (λ i a. (labelled (λ t. value t.items) a, refl)) (take_outcome (bytes_lack bytes_model) count)

-- a length, whose trees stand for numbers, and as many items
module _ {V O E : Type 0} (errs : Errors Bytes E) (size : O → ℕ) (g : Grammar Bytes V O E) (lawful : IsLawful bytes_model g.meaning)
    (output : (u : V) → (o : O) × g.IsOutput u o) (first : HasOutcome (g.meaning.answers true)) where
  size_of : (u : V) → HasSize g.IsOutput size u (size (output u).0)
  size_of u = record { output = (output u).0; is_output = (output u).1; size_is = refl }

  pub length_data_outcome : (lack : ℕ → List ℕ → Option ℕ) → HasOutcome ((length_data_of bytes_model errs lack size g).meaning.answers true)
  length_data_outcome lack =
      then_outcome (lawful.within true) (λ u. of_value_outcome (size (output u).0) (size_of u) (take_outcome lack (size (output u).0))) first

  pub length_count_outcome : {U : Type 0} (m : Meaning Bytes U E) → IsLawful bytes_model m → HasOutcome (m.answers true) →
      HasOutcome ((length_count_meaning bytes_model errs (HasSize g.IsOutput size) g.meaning m).answers true)
  length_count_outcome m item_lawful item = then_outcome (lawful.within true) (λ u.
      of_value_outcome (size (output u).0) (size_of u) (items_outcome (size (output u).0) (item_lawful.within true) item)) first
