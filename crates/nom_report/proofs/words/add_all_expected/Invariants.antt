use Rattle.std.proofs.Common.{◌≡◌, ◌++◌, codes, map, string_bytes, length, take}
use Rattle.nom_report.specs.Words.{items_text}
use Rattle.nom_report.specs.Wanted.{seen}
use Rattle.nom_report.proofs.words.add_all_expected.Given as goal

abbrev pub invariant-loop-index : goal.invariant-loop-index
invariant-loop-index g l =
    string_bytes l.out ≡ string_bytes l.fn.out ++ (codes "error: expected " ++ items_text 0 (length l.items) l.more (map seen (take l.index l.items)))
