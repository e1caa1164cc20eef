-- The bytes that stand for messages.
use Rattle.std.specs.Prelude.{◌≡◌, ℕ, ◌+◌, ◌<◌, List, [], ◌∷◌, ◌++◌, length}
use Rattle.nom.specs.grammars.Bytes.{Big}
use Rattle.nom_number.specs.Numbers.{binary_number}
use Rattle.nom_messages_run.specs.declared.protocol.Message.{Message}
use Rattle.nom_messages_run.specs.declared.protocol.Message.TheVariants.{Ping, Text, Close}

-- the body of a message: the byte of its kind, and what it holds
abbrev pub IsBody : Message → List ℕ → Type 0
IsBody (Ping number) xs = (ys : List ℕ) × (xs ≡ 1 ∷ ys) × (length ys ≡ 4) × (binary_number Big ys ≡ number)
IsBody (Text bytes) xs = xs ≡ 2 ∷ length bytes.now ∷ bytes.now
IsBody Close xs = xs ≡ 3 ∷ []

-- and how many bytes it has
abbrev pub body_len : Message → ℕ
body_len (Ping number) = 5
body_len (Text bytes) = 2 + length bytes.now
body_len Close = 1

-- bytes after their length, of two bytes; the highest byte of a number is the first
pub record IsFrame (body xs : List ℕ) : Type 0 where
  pub size : List ℕ
  pub two : length size ≡ 2
  pub counts : binary_number Big size ≡ length body
  pub whole : xs ≡ size ++ body

-- the bytes of a message: its body after the body's length
abbrev pub IsMessage : Message → List ℕ → Type 0
IsMessage m xs = (body : List ℕ) × IsBody m body × IsFrame body xs

-- its text has more bytes than the byte before it can say
abbrev pub IsLong : Message → Type 0
IsLong (Ping number) = ⊥
IsLong (Text bytes) = 255 < length bytes.now
IsLong Close = ⊥
