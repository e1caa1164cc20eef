-- Laws of reading back a value that nothing stands for.
use Rattle.std.specs.Prelude.{◌≡◌, []}
use Rattle.nom_internal.specs.Prelude.{Model}
use Rattle.nom_combinator.specs.Ends.{clone_meaning}
use Rattle.nom_write.specs.Reads.{Anything, Reads}
use Rattle.nom_write.specs.laws.LeafReads.{success_reads}
use Rattle.nom_write.specs.laws.SequenceReads.{as_whole}

module _ {I A R E : Type 0} (w : Model I A) (value : R) (IsSure : Type 0) (IsClone : R → Type 0) where
  pub clone_reads : Reads w (record { meaning = clone_meaning {E = E} value IsSure; IsOutput = λ _. IsClone }) (λ v xs. IsClone v × (xs ≡ [])) Anything
  clone_reads = record { reads = λ v xs f s. as_whole w f.1 (success_reads E w value s (λ _. IsClone v) Anything f.0) }
