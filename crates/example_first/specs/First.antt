-- The report on a record: an `R`, and four bytes.
use Rattle.std.specs.Prelude.{ℕ, List, codes}
use Rattle.nom_internal.specs.Prelude.{bytes_model, Slice}
use Rattle.nom.specs.grammars.Bytes.{Bytes, BytesGrammar, pair_of, tag_of, take_of}
use Rattle.nom_run.specs.Report.{IsReportBy}
use Rattle.nom_run.specs.Texts.{bytes_text}

abbrev pub record_of : BytesGrammar (Slice bytes_model × Slice bytes_model) (Bytes × Bytes)
record_of = pair_of (tag_of (codes "R")) (take_of 4)

-- the line of its bytes
abbrev pub record_text : List ℕ → List ℕ
record_text bytes = bytes_text (codes "record ") bytes

-- `text` and `status` are the report on `bytes`, given in the parts that `cuts` make of them
unfoldable pub IsReport : (bytes cuts text : List ℕ) → (status : ℕ) → Type 0
IsReport bytes cuts text status = IsReportBy record_of.meaning (λ t. record_text t.1.items) bytes cuts text status
