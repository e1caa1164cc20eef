-- The report, from the answer on a record that comes in pieces.
use Rattle.std.proofs.Common.{◌≡◌, ℕ, ◌<◌, ◌≤◌, true, List, length, slice_index, codes, ap, subst}
use Rattle.nom_error.specs.declared.value.Error.{Error}
use Rattle.nom_internal.specs.Prelude.{IResult, bytes_model, Slice, Cause}
use Rattle.nom_internal.specs.Promises.{HasNoFailure}
use Rattle.nom_calls.specs.Growing.{IsGrown}
use Rattle.nom.specs.grammars.Bytes.{Bytes, BytesGrammar, pair_of, tag_of, take_of}
use Rattle.nom_run.specs.Report.{IsAnswerReport}
use Rattle.nom_run.proofs.Reported.{reported}
use Rattle.example_first.specs.First.{record_of, record_text, IsReport}

-- what holds of the grammar of a tag and a count holds of the report's, where they are its own
pub by_its_parts : (P : BytesGrammar (Slice bytes_model × Slice bytes_model) (Bytes × Bytes) → Type 0) (begins : List ℕ) (count : ℕ) →
    begins ≡ codes "R" → count ≡ 4 → P (pair_of (tag_of begins) (take_of count)) → P record_of
by_its_parts P begins count b n h = subst (λ k. P (pair_of (tag_of (codes "R")) (take_of k))) n (subst (λ x. P (pair_of (tag_of x) (take_of count))) b h)

never_fails : (cause : Cause) → record_of.meaning.NeverFails cause
never_fails cause = search

pub reported_record : (whole : Bytes) (cuts : List ℕ) (index start : ℕ) →
    (index < length cuts → start ≡ slice_index cuts index) → (length cuts ≤ index → start ≡ length whole.now) → bytes_model.IsKnown whole →
    (answer : IResult Bytes (Bytes × Bytes) (Error Bytes)) (text : List ℕ) (status : ℕ) →
    IsGrown bytes_model record_of.IsOutput record_of.meaning whole cuts index answer × HasNoFailure bytes_model record_of.meaning →
    IsAnswerReport (λ o. record_text o.1.now) index start answer text status → IsReport whole.now cuts text status
unfolding IsReport
reported_record whole cuts index start at_cut at_end known answer text status g t =
    reported record_of.meaning (λ t. record_text t.1.items) record_of.IsOutput (λ o. record_text o.1.now)
    (λ t o e. ap record_text e.1.elements_are)
    whole cuts index start at_cut at_end known (λ cause i k a. g.1 cause true i k (never_fails cause) a) answer text status g.0 t
