-- Few bytes are parsed again.
use Rattle.std.proofs.Common.{arith, ◌≡◌, ℕ, ◌≤◌, true, List, ◌++◌, length, length-append, ap}
use Rattle.nom_internal.specs.Prelude.{Grammar, Needed}
use Rattle.nom_error.specs.declared.value.Error.{Error}
use Rattle.nom_stream.specs.declared.settings.Settings.{Settings}
use Rattle.nom_stream.specs.Items.{Bytes}
use Rattle.nom_stream.specs.Repeats.{ParsesFew, parsed_before}
use Rattle.nom_stream.specs.Streams.{AreFillings}
use Rattle.nom_stream.specs.Streams.AreFillings.{NoFilling, OneMore}
use Rattle.nom_stream.specs.Wanted.{wanted_of}

-- with patience as many are wanted as are held
as_many : (settings : Settings) (k : Needed) (n : ℕ) → settings.patient ≡ true → n ≤ wanted_of settings k n
as_many settings k n patient = rw patient (omega arith)

module _ {V O : Type 0} (grammar : Grammar Bytes V O (Error Bytes)) (settings : Settings) (patient : settings.patient ≡ true) (held : List ℕ) where
  few : {given : List ℕ} → (all : AreFillings grammar settings held given) → parsed_before grammar settings held all ≤ length (held ++ given)
  few (NoFilling e) = omega arith
  few {given} (OneMore earlier last all f many e) =
      let wanted = as_many settings f.needed (length (held ++ earlier)) patient in
      omega (arith, few all, wanted, many, ap length e, length-append held given, length-append held earlier, length-append earlier last)

pub parses_few : {V O : Type 0} (grammar : Grammar Bytes V O (Error Bytes)) (settings : Settings) → ParsesFew grammar settings
parses_few grammar settings patient held given all = few grammar settings patient held all
