-- Texts that were written, whole or in part.
use Rattle.std.specs.Prelude.{◌≡◌, ℕ, ◌<◌, List, ◌++◌, length}
use Rattle.std.specs.Io.KnownBytes.{Appends}
use Rattle.nom_io.specs.Account.{Account, NoneFailed, OneFailed}

module _ (a b : Account) where
  -- all of a text was written, and no call failed
  pub record Wrote (text : List ℕ) : Type 0 where
    pub appends : Appends a.bytes b.bytes text
    pub none : NoneFailed a b

  -- all of a text but what is left
  pub record WroteBut (text left : List ℕ) : Type 0 where
    pub front : List ℕ
    pub parts : text ≡ front ++ left
    pub wrote : Wrote front

  -- a beginning of a text and not all, until a call failed
  pub record WroteFront (text : List ℕ) : Type 0 where
    pub front : List ℕ
    pub left : List ℕ
    pub parts : text ≡ front ++ left
    pub some : 0 < length left
    pub appends : Appends a.bytes b.bytes front
    pub failed : OneFailed a b
