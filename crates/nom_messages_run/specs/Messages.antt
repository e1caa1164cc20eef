-- The messages of `protocol`, as they are received.
use Rattle.std.specs.Prelude.{[], ◌∷◌, length}
use Rattle.nom.specs.grammars.Bytes.{BytesGrammar, Big, all_consuming_of, alt_of, length_data_of, length_value_of, map_of, number_of, or_of}
use Rattle.nom.specs.grammars.Bytes.{pair_of, preceded_of, tag_of}
use Rattle.nom_messages_run.specs.Protocol.{Body}
use Rattle.nom_messages_run.specs.declared.messages.Received.{Received}
use Rattle.nom_messages_run.specs.declared.messages.Received.TheVariants.{Ping, Text, Close}

-- each kind by the byte that it begins with
abbrev pub body_of : BytesGrammar Body Received
body_of = alt_of (or_of (or_of
    (map_of (λ o. Ping o.1) (pair_of (tag_of (1 ∷ [])) (number_of Big 4)))
    (map_of (λ bytes. Text (length bytes.now)) (preceded_of (tag_of (2 ∷ [])) (length_data_of (number_of Big 1)))))
    (map_of (λ _. Close) (tag_of (3 ∷ []))))

-- a body after its length
abbrev pub message_of : BytesGrammar Body Received
message_of = length_value_of (number_of Big 2) (all_consuming_of body_of)
