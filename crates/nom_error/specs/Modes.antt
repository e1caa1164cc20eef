-- Values that are built only where a mode asks for them.
use Rattle.std.specs.Prelude.{◌≡◌, Bool, true, false, Option, Some, None}

-- what is built, and whether more input may come
pub record Modes : Type 0 where
  -- outputs are built
  pub outputs : Bool
  -- so are the errors of refusals
  pub errors : Bool
  -- more input may come
  pub streaming : Bool

abbrev pub modes : Bool → Bool → Bool → Modes
modes outputs errors streaming = record { outputs = outputs; errors = errors; streaming = streaming }

-- the same but for one of them
abbrev pub with_outputs : Bool → Modes → Modes
with_outputs outputs mode = modes outputs mode.errors mode.streaming

abbrev pub with_errors : Bool → Modes → Modes
with_errors errors mode = modes mode.outputs errors mode.streaming

abbrev pub with_streaming : Bool → Modes → Modes
with_streaming streaming mode = modes mode.outputs mode.errors streaming

-- a value with the fact, where values are built, and none elsewhere
abbrev pub Built : {T : Type 0} → Bool → (T → Type 0) → Option T → Type 0
Built {T} true P b = (v : T) × (b ≡ Some v) × P v
Built false P b = b ≡ None

-- what a closure gives for a value, where values are built
abbrev pub BuiltFrom : {T U : Type 0} → Bool → (T → U → Type 0) → Option T → Option U → Type 0
BuiltFrom built Gives None y = y ≡ None
BuiltFrom built Gives (Some x) y = Built built (Gives x) y

-- what a closure gives for two values, where values are built
abbrev pub BuiltFromBoth : {S T U : Type 0} → Bool → (S → T → U → Type 0) → Option S → Option T → Option U → Type 0
BuiltFromBoth built Gives None y z = z ≡ None
BuiltFromBoth built Gives (Some x) None z = z ≡ None
BuiltFromBoth built Gives (Some x) (Some y) z = Built built (Gives x y) z
