-- Lemmas on the grammar of lines: what holds of it by its parts holds of it.
use Rattle.std.proofs.Common.{◌≡◌, ℕ, List, [], ◌∷◌, Option, subst}
use Rattle.nom_error.specs.declared.kind.ErrorKind.TheVariants as Kind
use Rattle.nom_error.specs.declared.value.Error.{Error}
use Rattle.nom_internal.specs.Prelude.{bytes_model, ErrorKind, Grammar, Slice}
use Rattle.nom_stream.specs.Items.{Bytes}
use Rattle.nom_stream.specs.ReaderLines.{line_by, line_of}

pub line_by_parts : (P : Grammar Bytes (Option (Slice bytes_model)) ℕ (Error Bytes) → Type 0) (set text : List ℕ) (kind : ErrorKind) → set ≡ 10 ∷ [] →
    text ≡ 10 ∷ [] → kind ≡ Kind.IsNot → P (line_by set text kind) → P line_of
line_by_parts P set text kind s t k h =
    subst (λ x. P (line_by x (10 ∷ []) Kind.IsNot)) s (
    subst (λ x. P (line_by set x Kind.IsNot)) t (
    subst (λ x. P (line_by set text x)) k h))
