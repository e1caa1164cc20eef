-- How choices among several parsers show their answers, and what they owe besides.
use Rattle.std.specs.Prelude.{◌≡◌, Ok, Err, Option}
use Rattle.std.proofs.Common.{sym, ap, subst}
use Rattle.nom_error.specs.declared.kind.ErrorKind.TheVariants.{Alt}
use Rattle.nom_internal.specs.Prelude.{Incomplete, Error, Failure, OutOfMemory, PResult, Errors, Modes, Model, Meaning, ShowsMeaning, EitherOutput}
use Rattle.nom_internal.specs.Prelude.{Grammar, Shows, OnError, ClosesResult, ShowsNext, OrSideCondition, rest_of}
use Rattle.nom_internal.proofs.Choices.{either_shown, closed_shown}
use Rattle.nom_internal.proofs.Owed.{or_side_condition}
use Rattle.nom_branch.specs.Alternatives.{next_meaning, choice_meaning, or_of, alt_of}

-- the branches before, and the next one
pub next_shown : {I A P Q O E : Type 0} (w : Model I A) (First : P → O → Type 0) (Second : Q → O → Type 0) (e : Errors I E) (a : Meaning I P E)
    (b : Meaning I Q E) (mode : Modes) (i : I) (before r : PResult I O E) →
    ShowsMeaning w First a mode i before → OnError (ShowsNext w Second e.joined e.grows b mode i) before r →
    ShowsMeaning w (EitherOutput First Second) (next_meaning e a b) mode i r
next_shown w First Second e = either_shown w First Second e.joined e.grows

-- all branches, closed
pub choice_shown : {I A V O E : Type 0} (w : Model I A) (IsOutput : V → O → Type 0) (e : Errors I E) (m : Meaning I V E) (mode : Modes) (i : I)
    (before r : PResult I O E) → ShowsMeaning w IsOutput m mode i before →
    ClosesResult (e.appended i Alt) e.grows before r → ShowsMeaning w IsOutput (choice_meaning e m) mode i r
choice_shown w IsOutput e m mode i = closed_shown w IsOutput mode i m (λ j. e.appended j Alt) e.grows

-- what the branches so far answer, and what they owe besides
pub record IsChosen {I A V O E : Type 0} (w : Model I A) (e : Errors I E) (mode : Modes) (i : I) (g : Grammar I V O E) (Owes : Option I → Type 0)
    (r : PResult I O E) : Type 0 where
  pub shown : Shows w g mode i r
  pub owed : Owes (rest_of r)

module _ {I A V O E : Type 0} (w : Model I A) (e : Errors I E) (mode : Modes) (i : I) (g : Grammar I V O E) (Owes : Option I → Type 0) where
  -- the first branch
  pub first_chosen : {r : PResult I O E} → Shows w g mode i r → Owes (rest_of r) → IsChosen w e mode i g Owes r
  first_chosen h k = record { shown = h; owed = k }

closed_owed : {I O E : Type 0} (Owes : Option I → Type 0) (Closes : E → E → Type 0) (Grows : Type 0) (before r : PResult I O E) →
    ClosesResult Closes Grows before r → Owes (rest_of before) → Owes (rest_of r)
closed_owed Owes Closes Grows (Ok v) r h k = subst Owes (sym (ap rest_of h)) k
closed_owed Owes Closes Grows (Err (Incomplete n)) r h k = subst Owes (sym (ap rest_of h)) k
closed_owed Owes Closes Grows (Err (Error e)) r h k = subst Owes (sym (ap rest_of h.2)) k
closed_owed Owes Closes Grows (Err (Failure e)) r h k = subst Owes (sym (ap rest_of h)) k
closed_owed Owes Closes Grows (Err OutOfMemory) r h k = subst Owes (sym (ap rest_of h)) k

module _ {I A V O E : Type 0} {w : Model I A} {e : Errors I E} {mode : Modes} {i : I} {g : Grammar I V O E} {Owes : Option I → Type 0}
    {before : PResult I O E} (k : IsChosen w e mode i g Owes before) where
  -- one more branch
  pub next_chosen : {U : Type 0} (h : Grammar I U O E) (Next : Option I → Type 0) (r : PResult I O E) →
      OnError (ShowsNext w h.IsOutput e.joined e.grows h.meaning mode i) before r → OnError (λ _ r. Next (rest_of r)) before r →
      IsChosen w e mode i (or_of e g h) (OrSideCondition Owes Next) r
  next_chosen h Next r n o = record {
    shown = next_shown w g.IsOutput h.IsOutput e g.meaning h.meaning mode i before r k.shown n;
    owed = or_side_condition Owes Next before r k.owed o;
  }

  -- all branches, closed
  pub all_chosen : (r : PResult I O E) → ClosesResult (e.appended i Alt) e.grows before r → IsChosen w e mode i (alt_of e g) Owes r
  all_chosen r c = record {
    shown = choice_shown w g.IsOutput e g.meaning mode i before r k.shown c;
    owed = closed_owed Owes (e.appended i Alt) e.grows before r c k.owed;
  }
