-- Messages after their lengths.
use Rattle.std.specs.Prelude.{◌≡◌, ℕ, ◌⊎◌, true, List, [], ◌∷◌, Err, Vec}
use Rattle.nom_internal.specs.Prelude.{IResult, OutOfMemory, bytes_model, Slice, Outcome, ParsesOutcome}
use Rattle.nom_error.specs.declared.value.Error.{Error}
use Rattle.nom.specs.grammars.Bytes.{Bytes, BytesGrammar, all_consuming_of, alt_of, length_data_of, length_value_of, many0_of, map_of, number_of, or_of}
use Rattle.nom.specs.grammars.Bytes.{pair_of, preceded_of, tag_of, terminated_of, Big}
use Rattle.nom_messages_run.specs.declared.protocol.Message.{Message}
use Rattle.nom_messages_run.specs.declared.protocol.Message.TheVariants.{Ping, Text, Close}

-- a ping, a text, or a leave
abbrev pub Body : Type 0
Body = ((Slice bytes_model × ℕ) ⊎ (ℕ × Slice bytes_model)) ⊎ Slice bytes_model

-- each kind by the byte that it begins with
abbrev pub body_of : BytesGrammar Body Message
body_of = alt_of (or_of (or_of
    (map_of (λ o. Ping o.1) (pair_of (tag_of (1 ∷ [])) (number_of Big 4)))
    (map_of Text (preceded_of (tag_of (2 ∷ [])) (length_data_of (number_of Big 1)))))
    (map_of (λ _. Close) (tag_of (3 ∷ []))))

-- messages, each a body after its length, and an end
abbrev pub messages_of : {M : Type 0} → BytesGrammar (List Body) (Vec Message M)
messages_of = terminated_of (many0_of (length_value_of (number_of Big 2) (all_consuming_of body_of))) (tag_of (0 ∷ 0 ∷ []))

-- What is answered is what the grammar makes of the whole, running out of memory aside: nothing tells where the cuts were, but an error, which
-- holds the input as it was on a beginning.
abbrev pub AnswersAll : {M : Type 0} → Bytes → IResult Bytes (Vec Message M) (Error Bytes) → Type 0
AnswersAll {M} whole r = (o : Outcome (List Body)) → (messages_of {M = M}).meaning.answers true whole o → (r ≡ Err OutOfMemory) ⊎
    ((beginning : Bytes) × ParsesOutcome bytes_model (messages_of {M = M}).IsOutput whole ((messages_of {M = M}).meaning.blames true beginning) o r)
