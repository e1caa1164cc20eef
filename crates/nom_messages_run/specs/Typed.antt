-- Messages as they are typed.
use Rattle.std.specs.Prelude.{ℕ, ℤ, ◌⊎◌, codes}
use Rattle.nom_internal.specs.Prelude.{bytes_model, Slice}
use Rattle.nom.specs.grammars.Bytes.{BytesGrammar, all_consuming_of, alt_of, decimal_of, map_of, or_of, pair_of, preceded_of, tag_of, take_of}
use Rattle.nom_messages_run.specs.declared.protocol.Message.{Message}
use Rattle.nom_messages_run.specs.declared.protocol.Message.TheVariants.{Ping, Text, Close}

-- a number, a text, or a leave
abbrev pub Line : Type 0
Line = ((Slice bytes_model × ℤ) ⊎ Slice bytes_model) ⊎ Slice bytes_model

-- each by its word, and nothing after it; a text has so many bytes
abbrev pub typed_of : (count : ℕ) → BytesGrammar Line Message
typed_of count = all_consuming_of (alt_of (or_of (or_of
    (map_of (λ o. Ping o.1) (pair_of (tag_of (codes "ping ")) (decimal_of 32)))
    (map_of Text (preceded_of (tag_of (codes "text ")) (take_of count))))
    (map_of (λ _. Close) (tag_of (codes "close")))))
