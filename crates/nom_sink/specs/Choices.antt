-- Forms of a choice: the first part's, or where the first can't write a value the second's.
use Rattle.std.specs.Prelude.{◌⊎◌, List}
use Rattle.nom_sink.specs.declared.error.WriteError.{WriteError}
use Rattle.nom_sink.specs.Written.{IsWantOfRoom, Space}

-- a part can't write a value, whatever the room
abbrev pub IsUnfit : (Space → WriteError → Type 0) → Type 0
IsUnfit Fails = (s : Space) × (e : WriteError) × Fails s e × (IsWantOfRoom e → ⊥)

-- a form of the first, or one of the second where the first can't
abbrev pub Either : {A : Type 0} → (List A → Type 0) → (Space → WriteError → Type 0) → (List A → Type 0) → List A → Type 0
Either First FirstFails Second xs = First xs ⊎ (IsUnfit FirstFails × Second xs)

-- the first lacks room, or it can't write the value, and the second fails
abbrev pub EitherFails : (Space → WriteError → Type 0) → (Space → WriteError → Type 0) → Space → WriteError → Type 0
EitherFails FirstFails SecondFails s e = (FirstFails s e × IsWantOfRoom e) ⊎ (IsUnfit FirstFails × SecondFails s e)
