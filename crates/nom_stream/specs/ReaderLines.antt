-- The lines of a reader.
use Rattle.std.specs.Prelude.{◌≡◌, ℕ, ◌↔◌, not, IsTrue, Contains, List, [], ◌∷◌, length, Option, None, Some}
use Rattle.nom_error.specs.PlainErrors.{plain_errors}
use Rattle.nom_error.specs.declared.kind.ErrorKind.TheVariants as Kind
use Rattle.nom_error.specs.declared.value.Error.{Error}
use Rattle.nom_internal.specs.Prelude.{bytes_model, ComparesBytes, ErrorKind, Grammar, Slice, map_by, sliced}
use Rattle.nom_bytes.specs.ParsedRuns.{run1_meaning}
use Rattle.nom_bytes.specs.Tags.{tag_meaning}
use Rattle.nom_combinator.specs.Verdicts.{opt_of}
use Rattle.nom_sequence.specs.Sequences.{terminated_of}
use Rattle.nom_stream.specs.Items.{Bytes}

-- the length of a line, without its end
abbrev pub line_len : Option Bytes → ℕ
line_len None = 0
line_len (Some bytes) = length bytes.now

-- bytes that aren't in a set, or none, and a text, or none; a refusal within is of a kind
abbrev pub line_by : (set text : List ℕ) → ErrorKind → Grammar Bytes (Option (Slice bytes_model)) ℕ (Error Bytes)
line_by set text kind =
    let inside = sliced bytes_model (run1_meaning bytes_model (λ item b. IsTrue (not b) ↔ Contains set item) plain_errors kind) in
    let end = sliced bytes_model (tag_meaning bytes_model plain_errors length ComparesBytes text) in
    map_by (λ _. Unit {0}) (λ o n. n ≡ line_len o) (terminated_of bytes_model (opt_of inside) (opt_of end))

-- line = (any byte but the end of a line)+? end?, where the end is the byte 10; only the last line of the data may lack it
abbrev pub line_of : Grammar Bytes (Option (Slice bytes_model)) ℕ (Error Bytes)
line_of = line_by (10 ∷ []) (10 ∷ []) Kind.IsNot
