-- The report, from the answer on messages that come in pieces.
use Rattle.std.proofs.Common.{◌≡◌, ℕ, true, ◌<◌, ◌≤◌, List, length, slice_index, Vec, ◌∙◌, ap, inl, inr}
use Rattle.nom_error.specs.declared.value.Error.{Error}
use Rattle.std.specs.Prelude.{codes}
use Rattle.nom_internal.specs.Prelude.{IResult, bytes_model, Cause}
use Rattle.nom_calls.specs.Growing.{IsGrown}
use Rattle.nom_internal.specs.Promises.{HasNoFailure}
use Rattle.nom.specs.grammars.Bytes.{Bytes}
use Rattle.nom_messages_run.specs.declared.protocol.Message.{Message}
use Rattle.nom_messages_run.specs.Protocol.{Body, body_of, messages_of}
use Rattle.nom_run.specs.Report.{IsAnswerReport}
use Rattle.nom_run.specs.Texts.{bytes_text}
use Rattle.nom_run.proofs.Reported.{reported}
use Rattle.nom_run.proofs.JoinedLines.{lines-same}
use Rattle.nom_messages_run.specs.Report.{ping_text, message_text, body_text, bodies_text, lines_of, message_grammar, IsReport}

abbrev AreBodies : {A : Type 0} → List Body → Vec Message A → Type 0
AreBodies {A} = (messages_of {M = A}).IsOutput

abbrev IsBody : Body → Message → Type 0
IsBody = body_of.IsOutput

-- a message has the line of its tree
same_line : (t : Body) (m : Message) → IsBody t m → message_text m ≡ body_text t
same_line (inl (inl t)) m h = ap message_text h.given ∙ ap ping_text h.is_output.1
same_line (inl (inr t)) m h = ap message_text h.given ∙ ap (bytes_text (codes "text ")) h.is_output.elements_are
same_line (inr t) m h = ap message_text h.given

never_fails : (cause : Cause) → message_grammar.NeverFails cause
never_fails cause = search

pub reported_messages : {A : Type 0} (whole : Bytes) (cuts : List ℕ) (index start : ℕ) →
    (index < length cuts → start ≡ slice_index cuts index) → (length cuts ≤ index → start ≡ length whole.now) → bytes_model.IsKnown whole →
    (answer : IResult Bytes (Vec Message A) (Error Bytes)) (text : List ℕ) (status : ℕ) →
    IsGrown bytes_model AreBodies message_grammar whole cuts index answer → HasNoFailure bytes_model message_grammar →
    IsAnswerReport lines_of index start answer text status → IsReport whole.now cuts text status
unfolding IsReport
reported_messages whole cuts index start at_cut at_end known answer text status g none t =
    reported message_grammar bodies_text AreBodies lines_of (λ ts v h. lines-same IsBody body_text message_text same_line ts v.items h) whole
    cuts index start at_cut at_end known (λ cause i k a. none cause true i k (never_fails cause) a) answer text status g t
