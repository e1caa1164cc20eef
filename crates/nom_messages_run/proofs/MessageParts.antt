-- Lemmas on the grammar of messages: what holds of it by its parts holds of it.
use Rattle.std.proofs.Common.{◌≡◌, ℕ, List, [], ◌∷◌, length, subst}
use Rattle.nom.specs.grammars.Bytes.{BytesGrammar, Endianness, Big, all_consuming_of, alt_of}
use Rattle.nom.specs.grammars.Bytes.{length_data_of, length_value_of, map_of, number_of, or_of, pair_of}
use Rattle.nom.specs.grammars.Bytes.{preceded_of, tag_of}
use Rattle.nom_messages_run.specs.Protocol.{Body}
use Rattle.nom_messages_run.specs.declared.messages.Received.{Received}
use Rattle.nom_messages_run.specs.declared.messages.Received.TheVariants.{Ping, Text, Close}
use Rattle.nom_messages_run.specs.Messages.{message_of}

-- the grammar, by which bytes each kind begins, and by the orders of numbers of several bytes
abbrev written_of : (ping text close : List ℕ) → (length_endian number_endian : Endianness) → BytesGrammar Body Received
written_of ping text close length_endian number_endian =
    let first = map_of (λ o. Ping o.1) (pair_of (tag_of ping) (number_of number_endian 4)) in
    let second = map_of (λ bytes. Text (length bytes.now)) (preceded_of (tag_of text) (length_data_of (number_of Big 1))) in
    length_value_of (number_of length_endian 2) (all_consuming_of (alt_of (or_of (or_of first second) (map_of (λ _. Close) (tag_of close)))))

pub message_by_parts : (P : BytesGrammar Body Received → Type 0) (ping text close : List ℕ) (l n : Endianness) → ping ≡ 1 ∷ [] → text ≡ 2 ∷ [] →
    close ≡ 3 ∷ [] → l ≡ Big → n ≡ Big → P (written_of ping text close l n) → P message_of
message_by_parts P ping text close l n p t c f g h =
    subst (λ x. P (written_of x (2 ∷ []) (3 ∷ []) Big Big)) p (
    subst (λ x. P (written_of ping x (3 ∷ []) Big Big)) t (
    subst (λ x. P (written_of ping text x Big Big)) c (
    subst (λ x. P (written_of ping text close x Big)) f (
    subst (λ x. P (written_of ping text close l x)) g h))))
