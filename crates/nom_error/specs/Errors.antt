-- Error types, by what their functions give.
use Rattle.std.specs.Prelude.{ℕ, List}
use Rattle.nom_error.specs.declared.kind.ErrorKind.{ErrorKind}

-- the errors E of parsers over I
pub record Errors (I E : Type 0) : Type 1 where
  -- the error for a kind at an input
  pub of_kind : I → ErrorKind → E → Type 0
  -- the error that adds a kind at an input to one from below
  pub appended : I → ErrorKind → E → E → Type 0
  -- the error for a character that was wanted at an input
  pub of_char : I → ℕ → E → Type 0
  -- the error of two branches, the first tried first
  pub joined : E → E → E → Type 0
  -- making one may take memory
  pub grows : Type 0

-- what an error type E of parsers over I makes of names of places
pub record Contexts (I E : Type 0) : Type 1 where
  -- the error that adds a name, as bytes, and an input to one from below
  pub named : I → List ℕ → E → E → Type 0
  -- making one may take memory
  pub grows : Type 0

-- what an error type E of parsers over I makes of other errors X
pub record Externals (I X E : Type 0) : Type 1 where
  -- the error for a kind at an input, of another error
  pub of_external : I → ErrorKind → X → E → Type 0
  -- making one may take memory
  pub grows : Type 0
