-- A field.
use Rattle.std.specs.Prelude.{ℕ, [], ◌∷◌, length}
use Rattle.nom_internal.specs.Prelude.{bytes_model, Slice}
use Rattle.nom.specs.grammars.Bytes.{BytesGrammar, is_not_of, map_of, preceded_of, tag_of}

-- a `;` and the bytes up to the next one, of which the length is told
abbrev pub field_of : BytesGrammar (Slice bytes_model) ℕ
field_of = map_of (λ bytes. length bytes.now) (preceded_of (tag_of (59 ∷ [])) (is_not_of (59 ∷ [])))
