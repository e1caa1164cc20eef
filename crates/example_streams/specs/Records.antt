-- A record.
use Rattle.std.specs.Prelude.{ℕ, [], ◌∷◌, length}
use Rattle.nom_internal.specs.Prelude.{bytes_model, Slice}
use Rattle.nom.specs.grammars.Bytes.{BytesGrammar, Big, length_data_of, map_of, number_of, preceded_of, tag_of}

-- an `R`, a byte that says how many bytes follow, and these, of which the length is told
abbrev pub record_of : BytesGrammar (ℕ × Slice bytes_model) ℕ
record_of = map_of (λ bytes. length bytes.now) (preceded_of (tag_of (82 ∷ [])) (length_data_of (number_of Big 1)))
