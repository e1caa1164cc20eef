use Rattle.std.proofs.Common.{◌≡◌, ◌++◌, ◌≤◌, length}
use Rattle.std.specs.Prelude.{encode_utf8_all, string_bytes}
use Rattle.bstr.specs.Utf8.{lossy_chars}
use Rattle.nom_values.proofs.dump.lossy_text.Given as goal

abbrev pub invariant-characters : goal.invariant-characters
invariant-characters g l =
    (string_bytes l.text ++ encode_utf8_all l.characters ≡ encode_utf8_all (lossy_chars l.fn.bytes)) × (length l.characters ≤ length l.fn.bytes)

abbrev pub decreases-characters : goal.decreases-characters
decreases-characters g l = length l.characters
