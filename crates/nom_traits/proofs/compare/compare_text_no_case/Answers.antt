use Rattle.std.specs.Str.{str_to_ascii_lowercase}
use Rattle.nom_traits.specs.CompareTags.{folded_form}
use Rattle.nom_traits.proofs.compare.compare_text_no_case.Goals as goal

pub returns : goal.returns
returns c =
    c.between_characters.ensures str_to_ascii_lowercase folded_form (rw c.as_bytes.ensures.value at c.compare_bytes_no_case.ensures)
