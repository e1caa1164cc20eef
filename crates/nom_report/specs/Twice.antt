-- One grammar twice: first without the errors of refusals, and again with them where the input is refused.
use Rattle.std.specs.Prelude.{◌≡◌, ◌⊎◌, Bool, true, false, Option, Some, None}
use Rattle.std.proofs.Common.{ap}
use Rattle.nom_internal.specs.Prelude.{IResult, Meaning, Grammar, Modes, modes, with_errors, rest_of}
use Rattle.nom_internal.specs.Word.{Word, word}

-- memory may run out in either parse
abbrev pub twice_meaning : {I V E : Type 0} → Meaning I V E → Meaning I V E
twice_meaning m = record m {
  may_run_out = λ mode i. m.may_run_out (with_errors false mode) i ⊎ m.may_run_out mode i;
  IsFrugal = λ mode. m.IsFrugal (with_errors false mode) × m.IsFrugal mode;
}

-- all else is as in one
abbrev pub parsed_twice : {I V O E : Type 0} → Grammar I V O E → Grammar I V O E
parsed_twice g = record { meaning = twice_meaning g.meaning; IsOutput = g.IsOutput }

-- its word
pub twice_of : {I O E : Type 0} → Word I O E → Word I O E
twice_of h = word (parsed_twice h.grammar)

module _ {I V O E : Type 0} {h : Word I O E} {g : Grammar I V O E} where
  pub twice_worded : h ≡ word g → twice_of h ≡ word (parsed_twice g)
  unfolding twice_of
  twice_worded p = ap twice_of p

-- the rest that is accepted, where there is an answer
abbrev pub rest_answered : {I O E : Type 0} → Option (IResult I O E) → Option I
rest_answered (Some r) = rest_of r
rest_answered None = None

-- What the parses owe: the first alone, or, where it refuses, both. Between them the parser has the meaning that it had.
pub data OwesTwice {P S I : Type 0} (Owes : Modes → P → P → I → Option I → Type 0) (state : P → S) (Refuses : Type 0) (s : Bool) (old new : P) (i : I)
    (rest : Option I) : Type 0 where
  Once : Owes (modes true false s) old new i rest → OwesTwice Owes state Refuses s old new i rest
  Again : Refuses → (middle : P) → state middle ≡ state old → Owes (modes true false s) old middle i None → Owes (modes true true s) middle new i rest →
      OwesTwice Owes state Refuses s old new i rest
