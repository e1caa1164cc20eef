use Rattle.std.proofs.Common.{◌≡◌, take}
use Rattle.std.specs.Str.{str_to_ascii_lowercase}
use Rattle.nom_traits.proofs.compare.compare_bytes_no_case.Given as goal

abbrev pub invariant-loop-i : goal.invariant-loop-i
invariant-loop-i l =
    take l.i (str_to_ascii_lowercase l.bytes) ≡ take l.i (str_to_ascii_lowercase l.tag)
