-- A text that is written in pieces.
use Rattle.std.specs.Prelude.{◌≡◌, ℕ, ◌≤◌, List, ◌++◌, Result, Ok, Err, Vec, vec_capacity, vec_len}
use Rattle.nom_io.specs.Account.{Account}
use Rattle.nom_io.specs.Written.{WroteBut, WroteFront}
use Rattle.nom_run.specs.declared.error.RunError.{RunError}
use Rattle.nom_run.specs.declared.error.RunError.TheVariants.{Write}

-- the bytes that aren't written yet fit, and need no more memory
abbrev pub HasRoom : {A : Type 0} → Vec ℕ A → Type 0
HasRoom room = (vec_len room ≤ 65536) × (65536 ≤ vec_capacity room)

-- A text is added to what is held. It is held or written after it, and so much is left; or a beginning was written, until a write failed.
pub data Puts (a b : Account) (held text left : List ℕ) (r : Result (Unit {0}) RunError) : Type 0 where
  Added : r ≡ Ok tt → WroteBut a b (held ++ text) left → Puts a b held text left r
  Broken : r ≡ Err Write → WroteFront a b (held ++ text) → Puts a b held text left r
