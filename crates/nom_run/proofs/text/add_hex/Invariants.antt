use Rattle.std.proofs.Common.{◌≡◌, ◌++◌, take, string_bytes}
use Rattle.nom_run.specs.Texts.{hex_of}
use Rattle.nom_run.proofs.text.add_hex.Given as goal

abbrev pub invariant-loop-byte : goal.invariant-loop-byte
invariant-loop-byte g l = string_bytes l.text ≡ string_bytes l.fn.text ++ hex_of (take l.byte-index l.bytes)
