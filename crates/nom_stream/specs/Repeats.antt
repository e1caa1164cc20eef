-- How much is parsed again.
use Rattle.std.specs.Prelude.{◌≡◌, ℕ, ◌+◌, ◌≤◌, true, List, ◌++◌, length}
use Rattle.nom_internal.specs.Prelude.{Grammar}
use Rattle.nom_error.specs.declared.value.Error.{Error}
use Rattle.nom_stream.specs.declared.settings.Settings.{Settings}
use Rattle.nom_stream.specs.Items.{Bytes}
use Rattle.nom_stream.specs.Streams.{AreFillings}
use Rattle.nom_stream.specs.Streams.AreFillings.{NoFilling, OneMore}

module _ {V O : Type 0} (grammar : Grammar Bytes V O (Error Bytes)) (settings : Settings) (held : List ℕ) where
  -- how many bytes the parses had together that were made before fillings, and left the item undecided
  abbrev pub parsed_before : {given : List ℕ} → AreFillings grammar settings held given → ℕ
  parsed_before (NoFilling e) = 0
  parsed_before (OneMore earlier last all f many e) = parsed_before all + length (held ++ earlier)

-- With patience these are at most as many bytes as are held after the fillings.
abbrev pub ParsesFew : {V O : Type 0} → Grammar Bytes V O (Error Bytes) → Settings → Type 0
ParsesFew grammar settings =
    settings.patient ≡ true → (held given : List ℕ) → (all : AreFillings grammar settings held given) →
    parsed_before grammar settings held all ≤ length (held ++ given)
