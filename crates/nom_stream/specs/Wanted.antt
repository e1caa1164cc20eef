-- How many bytes are waited for.
use Rattle.std.specs.Prelude.{ℕ, max, if◌then◌else◌}
use Rattle.std.specs.Int.NonZero.{non_zero_usize_get}
use Rattle.nom_internal.specs.Prelude.{Needed, Unknown, Size}
use Rattle.nom_stream.specs.declared.settings.Settings.{Settings}

-- how many bytes more a parser asks for: one where it doesn't tell
abbrev pub asked_of : Needed → ℕ
asked_of Unknown = 1
asked_of (Size size) = non_zero_usize_get size

-- Where some bytes are held and don't decide: as many as the parser asks for; with patience as many as are held, if these are more, so
-- that they double.
abbrev pub wanted_of : Settings → Needed → (held : ℕ) → ℕ
wanted_of s needed held = if s.patient then max held (asked_of needed) else asked_of needed

-- how many bytes a read asks for at the most
abbrev pub most_read : Settings → ℕ
most_read s = max s.read 1
