-- The report, from the answer on records that come in pieces.
use Rattle.std.proofs.Common.{◌≡◌, ℕ, ◌<◌, ◌≤◌, true, List, length, slice_index, codes, Vec, ap, subst}
use Rattle.nom_error.specs.declared.value.Error.{Error}
use Rattle.nom_internal.specs.Prelude.{IResult, bytes_model, Slice, Cause}
use Rattle.nom_internal.specs.Promises.{HasNoFailure}
use Rattle.nom_calls.specs.Growing.{IsGrown}
use Rattle.nom.specs.grammars.Bytes.{Bytes, BytesGrammar, Big, length_data_of, many0_of, number_of, preceded_of, tag_of, terminated_of}
use Rattle.nom_run.specs.Report.{IsAnswerReport}
use Rattle.nom_run.proofs.Reported.{reported}
use Rattle.nom_run.proofs.JoinedLines.{lines-same}
use Rattle.nom_records_run.specs.Report.{record_of, records_of, record_text, records_text, lines_of, record_grammar, IsReport}

-- the grammar, by the tags that its records begin with and that it ends with
abbrev written_of : {M : Type 0} → (begins ends : List ℕ) → BytesGrammar (List (ℕ × Slice bytes_model)) (Vec Bytes M)
written_of begins ends = terminated_of (many0_of (preceded_of (tag_of begins) (length_data_of (number_of Big 1)))) (tag_of ends)

-- what holds of it holds of the report's grammar, where these are its tags
pub by_its_tags : {M : Type 0} (P : BytesGrammar (List (ℕ × Slice bytes_model)) (Vec Bytes M) → Type 0) (begins ends : List ℕ) →
    begins ≡ codes "R" → ends ≡ codes "." → P (written_of begins ends) → P records_of
by_its_tags P begins ends b e h = subst (λ x. P (written_of (codes "R") x)) e (subst (λ x. P (written_of x ends)) b h)

never_fails : (cause : Cause) → record_grammar.NeverFails cause
never_fails cause = search

pub reported_records : {A : Type 0} (whole : Bytes) (cuts : List ℕ) (index start : ℕ) →
    (index < length cuts → start ≡ slice_index cuts index) → (length cuts ≤ index → start ≡ length whole.now) → bytes_model.IsKnown whole →
    (answer : IResult Bytes (Vec Bytes A) (Error Bytes)) (text : List ℕ) (status : ℕ) →
    IsGrown bytes_model (records_of {M = A}).IsOutput record_grammar whole cuts index answer × HasNoFailure bytes_model record_grammar →
    IsAnswerReport lines_of index start answer text status → IsReport whole.now cuts text status
unfolding IsReport
reported_records {A} whole cuts index start at_cut at_end known answer text status g t =
    reported record_grammar records_text (records_of {M = A}).IsOutput lines_of
    (λ ts v h. lines-same record_of.IsOutput (λ t. record_text t.1.items) (λ r. record_text r.now) (λ t o e. ap record_text e.elements_are) ts v.items h)
    whole cuts index start at_cut at_end known (λ cause i k a. g.1 cause true i k (never_fails cause) a) answer text status g.0 t
