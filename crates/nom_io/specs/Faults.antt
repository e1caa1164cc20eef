-- The faults of a reader or a writer.
use Rattle.std.specs.Prelude.{◌≡◌, ℕ, ◌-◌, ◌^◌, ◌<◌, ◌≤◌, None, Some, Result, MatchResult}
use Rattle.std.specs.IoError.{error_kind}
use Rattle.std_io.specs.declared.io.error.Error.{Error}
use Rattle.std_io.specs.declared.io.kind.ErrorKind.TheVariants.{Interrupted, WriteZero}
use Rattle.nom_io.specs.Account.{one_more}
use Rattle.nom_io.specs.declared.counted.Faults.{Faults}

-- no call failed or was interrupted
abbrev pub HasNone : Faults → Type 0
HasNone f = (f.count ≡ 0) × (f.last ≡ None) × (f.interruptions ≡ 0)

-- an interruption, of which the count has room for more
abbrev pub IsPassed : Faults → Error → Type 0
IsPassed f e = (error_kind e ≡ Interrupted) × (f.interruptions < 2 ^ 64 - 1)

-- an error that is an interruption only where the count of these has no room for more
abbrev pub IsLate : Faults → Error → Type 0
IsLate f e = error_kind e ≡ Interrupted → 2 ^ 64 - 1 ≤ f.interruptions

module _ (old new : Faults) where
  -- no call failed
  abbrev pub NoFault : Type 0
  NoFault = (new.count ≡ old.count) × (new.last ≡ old.last)

  -- one call failed, with this error
  abbrev pub OneFault : Error → Type 0
  OneFault e = (new.count ≡ one_more old.count) × (new.last ≡ Some e)

  -- A call gave this error. An interruption is counted, and passed over while its count has room for more. Else the call failed.
  abbrev pub CountsError : Error → Type 0
  CountsError e = (error_kind e ≡ Interrupted → new.interruptions ≡ one_more old.interruptions) ×
      ((error_kind e ≡ Interrupted → ⊥) → new.interruptions ≡ old.interruptions) × (IsPassed new e → NoFault) × ((IsPassed new e → ⊥) → OneFault e)

  -- of one read
  abbrev pub CountsRead : {T : Type 0} → Result T Error → Type 0
  CountsRead r = MatchResult r (λ _. NoFault × (new.interruptions ≡ old.interruptions)) CountsError

  -- of a write that took so many bytes: one that takes none fails
  abbrev pub CountsTaken : ℕ → Type 0
  CountsTaken n = (new.interruptions ≡ old.interruptions) × (0 < n → NoFault) × (n ≡ 0 → (e : Error) × (error_kind e ≡ WriteZero) × OneFault e)

  -- of one write
  abbrev pub CountsWrite : Result ℕ Error → Type 0
  CountsWrite r = MatchResult r CountsTaken CountsError

  -- of calls up to one that failed
  abbrev pub CountsCalls : {T : Type 0} → Result T Error → Type 0
  CountsCalls r = MatchResult r (λ _. NoFault) OneFault
