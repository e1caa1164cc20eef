-- Lemmas on what calls owe besides their outcome, from what their parts owe.
use Rattle.std.specs.Prelude.{◌≡◌, Bool, true, false, Ok, Err, Option, Some}
use Rattle.std.proofs.Common.{sym, ap, subst}
use Rattle.nom_internal.specs.Prelude.{Incomplete, Error, Failure, OutOfMemory, PResult, Built, Modes, Model}
use Rattle.nom_internal.specs.Prelude.{Grammar, GivesAt, JoinsResult, OnError, OrSideCondition, ShowsMeaning, rest_of}
use Rattle.nom_internal.specs.Results.OrSideCondition.{Taken, Other}
use Rattle.nom_internal.proofs.Shown.{accepts}

-- joining errors leaves the rest
pub join_rest : {I O E : Type 0} (Joins : E → E → E → Type 0) (Grows : Type 0) (x : Option E) (second r : PResult I O E) →
    JoinsResult Joins Grows x second r → rest_of r ≡ rest_of second
join_rest Joins Grows x (Ok v) r h = ap rest_of h
join_rest Joins Grows x (Err (Incomplete k)) r h = ap rest_of h
join_rest Joins Grows x (Err (Error e)) r h = ap rest_of h.2
join_rest Joins Grows x (Err (Failure e)) r h = ap rest_of h
join_rest Joins Grows x (Err OutOfMemory) r h = ap rest_of h

-- a first part, and where it refuses what the next one owes
pub or_side_condition : {I O E : Type 0} (First Second : Option I → Type 0) (before r : PResult I O E) → First (rest_of before) →
    OnError (λ _ r. Second (rest_of r)) before r → OrSideCondition First Second (rest_of r)
or_side_condition First Second (Ok v) r h k = Taken (subst First (sym (ap rest_of k)) h)
or_side_condition First Second (Err (Incomplete n)) r h k = Taken (subst First (sym (ap rest_of k)) h)
or_side_condition First Second (Err (Error e)) r h k = Other h k
or_side_condition First Second (Err (Failure e)) r h k = Taken (subst First (sym (ap rest_of k)) h)
or_side_condition First Second (Err OutOfMemory) r h k = Taken (subst First (sym (ap rest_of k)) h)

is_built : {T : Type 0} (b : Bool) (P : T → Type 0) (x : Option T) (o : T) → b ≡ true → x ≡ Some o → Built b P x → P o
is_built true P x o e f h = subst P (cc (h.1, f)) h.2
is_built false P x o e f h = absurd (cc (e))

-- what was built for an acceptance
pub gives_at : {I A V O E : Type 0} {w : Model I A} (g : Grammar I V O E) {mode : Modes} {i j : I} {x : Option O} {o : O} →
    ShowsMeaning w g.IsOutput g.meaning mode i (Ok (j, x)) → mode.outputs ≡ true → x ≡ Some o → GivesAt g mode.streaming i o
gives_at g {mode = mode} {x = x} {o = o} h built e =
    let a = accepts h in
    record {
      length = a.length;
      tree = a.tree;
      accepted = a.answered;
      is_output = is_built mode.outputs (g.IsOutput a.tree) x o built e a.built_is;
    }
