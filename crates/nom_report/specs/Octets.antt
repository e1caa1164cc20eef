-- The text of a report on bytes.
use Rattle.std.specs.Prelude.{ℕ, ◌-◌, ◌*◌, ◌/◌, ◌%◌, List, [], ◌∷◌, ◌++◌, length, take, drop, codes, min, replicate}
use Rattle.std.specs.List.{flat_map}
use Rattle.std.specs.Char.{digit_char}
use Rattle.std.specs.Fmt.{decimal}
use Rattle.nom_report.specs.Around.{around}
use Rattle.nom_report.specs.Kept.{kept}
use Rattle.nom_report.specs.Left.{slice_place}
use Rattle.nom_report.specs.Named.{Context}
use Rattle.nom_report.specs.Rendered.{more_text, name_text}
use Rattle.nom_report.specs.Words.{all_expected_text}
use Rattle.nom_report.specs.declared.value.Report.{Report}
use Rattle.std.specs.Borrow.{Bor}

-- a byte as two digits in base 16, after a space
abbrev pub octet_text : ℕ → List ℕ
octet_text b = 32 ∷ digit_char (b / 16) ∷ digit_char (b % 16) ∷ []

abbrev pub octets_text : List ℕ → List ℕ
octets_text bs = flat_map octet_text bs

-- the place of the first byte that is quoted, eight before an offset
abbrev pub quoted_from : ℕ → ℕ
quoted_from offset = offset - 8

-- bytes, after the offset of the first of them
abbrev pub octets_line : ℕ → List ℕ → List ℕ
octets_line begin bs = decimal begin ++ codes " |" ++ octets_text bs ++ codes "\n"

-- the caret below the byte after so many, below an offset of so many digits
abbrev pub octets_caret : ℕ → ℕ → List ℕ
octets_caret digits count = replicate digits 32 ++ codes " |" ++ replicate (3 * count) 32 ++ codes " ^\n"

-- sixteen bytes around an offset, and the caret
abbrev pub octets_quote : List ℕ → ℕ → List ℕ
octets_quote source offset =
    let begin = quoted_from offset in
    octets_line begin (take 16 (drop begin source)) ++ octets_caret (length (decimal begin)) (offset - begin)

-- an offset in a source, by its place; none lies behind the end
abbrev pub offset_in : List ℕ → ℕ → ℕ → ℕ
offset_in source start place = min (place - start) (length source)

abbrev pub begins_text : List ℕ → ℕ → List ℕ
begins_text name offset = codes "while reading " ++ name ++ codes ", which begins at " ++ decimal offset ++ codes "\n"

abbrev pub octets_context : List ℕ → ℕ → Context → List ℕ
octets_context source start c = begins_text c.name (offset_in source start c.begins)

abbrev pub octets_contexts : List ℕ → ℕ → List Context → List ℕ
octets_contexts source start cs = flat_map (octets_context source start) cs

-- what was expected, at which offset, the bytes around it, and the contexts
abbrev pub octets_report : List ℕ → Bor (List ℕ) → Report (Bor (List ℕ)) → List ℕ
octets_report name source e =
    let offset = offset_in source.now (slice_place source) (slice_place e.at) in
    all_expected_text (kept e.expected).wanted (kept e.expected).more ++ name_text name ++ decimal offset ++ codes "\n" ++ octets_quote source.now offset
    ++ octets_contexts source.now (slice_place source) (around e.inside) ++ more_text e.inside.more
