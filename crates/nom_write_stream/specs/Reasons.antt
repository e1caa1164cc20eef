-- Why an item isn't written, by the error of its writer.
use Rattle.std.specs.Prelude.{ℕ, ◌-◌, Option, Some, None}
use Rattle.nom_sink.specs.declared.error.WriteError.{WriteError}
use Rattle.nom_sink.specs.declared.error.WriteError.TheVariants as Write
use Rattle.nom_write_stream.specs.declared.outgoing.Unwritten.{Unwritten}
use Rattle.nom_write_stream.specs.declared.outgoing.Unwritten.TheVariants.{TooLong, Mismatch, OutOfMemory}

-- why an item isn't written that begins at a place of what is held; none where there is no room for it beside what is held
abbrev pub why_unwritten : WriteError → (start : ℕ) → Option Unwritten
why_unwritten Write.OutOfMemory start = Some OutOfMemory
why_unwritten Write.Full start = None
why_unwritten (Write.TooLong place) start = Some (TooLong (place - start))
why_unwritten (Write.Mismatch place) start = Some (Mismatch (place - start))
