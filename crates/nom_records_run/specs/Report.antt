-- The report on a file of records.
use Rattle.std.specs.Prelude.{ℕ, List, codes, Vec}
use Rattle.nom_error.specs.declared.value.Error.{Error}
use Rattle.nom_internal.specs.Prelude.{bytes_model, Slice, Meaning}
use Rattle.nom.specs.grammars.Bytes.{Bytes, BytesGrammar, Big, length_data_of, many0_of, number_of, preceded_of, tag_of, terminated_of}
use Rattle.nom_run.specs.Report.{IsReportBy}
use Rattle.nom_run.specs.Texts.{bytes_text, lines_text}

-- a record: `R`, a byte that says how many bytes follow, and these
abbrev pub record_of : BytesGrammar (ℕ × Slice bytes_model) Bytes
record_of = preceded_of (tag_of (codes "R")) (length_data_of (number_of Big 1))

-- records, and then `.`
abbrev pub records_of : {M : Type 0} → BytesGrammar (List (ℕ × Slice bytes_model)) (Vec Bytes M)
records_of = terminated_of (many0_of record_of) (tag_of (codes "."))

abbrev pub record_grammar : Meaning Bytes (List (ℕ × Slice bytes_model)) (Error Bytes)
record_grammar = (records_of {M = Unit {0}}).meaning

-- the line of a record: its length, and its bytes
abbrev pub record_text : List ℕ → List ℕ
record_text bytes = bytes_text (codes "record ") bytes

-- the lines of an output
abbrev pub lines_of : {A : Type 0} → Vec Bytes A → List ℕ
lines_of v = lines_text (λ r. record_text r.now) v.items

-- the lines of its records
abbrev pub records_text : List (ℕ × Slice bytes_model) → List ℕ
records_text ts = lines_text (λ t. record_text t.1.items) ts

-- `text` and `status` are the report on `bytes`, given in the parts that `cuts` make of them
unfoldable pub IsReport : (bytes cuts text : List ℕ) → (status : ℕ) → Type 0
IsReport bytes cuts text status = IsReportBy record_grammar records_text bytes cuts text status
