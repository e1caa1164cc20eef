-- The words of functions as parts: `given_of` by a function's contract, and `called`, of a function that answers by a word.
use Rattle.std.specs.Prelude.{◌≡◌, true}
use Rattle.std.proofs.Common.{refl, ap₂}
use Rattle.nom_internal.specs.Prelude.{Errors, IResult, Model, View}
use Rattle.nom_internal.specs.Word.{Answers, Word, word}
use Rattle.nom_calls.specs.Func.{IsParser, IsStreamParser, func_of}

module _ {I A O E : Type 0} (w : Model I A) (errs : Errors I E) (view : View O) where
  -- a function that takes some inputs, and gives some answers at each
  pub given_of : (I → Type 0) → (I → IResult I O E → Type 0) → Word I O E
  given_of Takes Gives = word (func_of w view errs Gives Takes (IsParser w view Gives))

  pub given_worded : (Takes : I → Type 0) (Gives : I → IResult I O E → Type 0) → given_of Takes Gives ≡
      word (func_of w view errs Gives Takes (IsParser w view Gives))
  unfolding given_of
  given_worded Takes Gives = refl

  -- the same as a stream parser
  pub stream_given_of : (I → Type 0) → (I → IResult I O E → Type 0) → Word I O E
  stream_given_of Takes Gives = word (func_of w view errs Gives Takes (IsStreamParser w view Gives))

  pub stream_given_worded : (Takes : I → Type 0) (Gives : I → IResult I O E → Type 0) → stream_given_of Takes Gives ≡
      word (func_of w view errs Gives Takes (IsStreamParser w view Gives))
  unfolding stream_given_of
  stream_given_worded Takes Gives = refl

  module _ {Takes Takes' : I → Type 0} {Gives Gives' : I → IResult I O E → Type 0} where
    pub given_same : Takes ≡ Takes' → Gives ≡ Gives' → given_of Takes Gives ≡ given_of Takes' Gives'
    given_same p q = ap₂ given_of p q

    pub stream_given_same : Takes ≡ Takes' → Gives ≡ Gives' → stream_given_of Takes Gives ≡ stream_given_of Takes' Gives'
    stream_given_same p q = ap₂ stream_given_of p q

  -- A function that takes every input, and answers by a word as `parse` does. Its contract is applied, as what a function ensures
  -- computes to it: so the check compares the two as they are written.
  abbrev pub called : Word I O E → Word I O E
  called h = given_of (λ i. Unit {0}) (λ i r. Answers w h true i r)

  abbrev pub stream_called : Word I O E → Word I O E
  stream_called h = stream_given_of (λ i. Unit {0}) (λ i r. Answers w h true i r)

  -- and one that also ensures a second clause
  abbrev pub called_with : Word I O E → (I → IResult I O E → Type 0) → Word I O E
  called_with h Also = given_of (λ i. Unit {0}) (λ i r. Answers w h true i r × Also i r)

  abbrev pub stream_called_with : Word I O E → (I → IResult I O E → Type 0) → Word I O E
  stream_called_with h Also = stream_given_of (λ i. Unit {0}) (λ i r. Answers w h true i r × Also i r)
