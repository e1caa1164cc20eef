use Rattle.std.specs.Prelude.{◌≡◌, Bool, Option, Some, refl}
use Rattle.nom_internal.specs.Prelude.{Built}
use Rattle.nom_internal.specs.declared.flat.One.{One}
use Rattle.nom_branch.specs.Members.Choice.{NoChoice}
use Rattle.nom_branch.specs.Rounds.{IsApplied}
use Rattle.nom_branch.proofs.Places.{flat_built, none_built, step_applied, taken_built}
use Rattle.nom_branch.proofs.members.OneNested.outputs.Goals as goal

-- an output that is built, as that of the first member
first_built : {O : Type 0} (outputs : Bool) (P : O → Type 0) (x : Option O) (v : O) → x ≡ Some v → Built outputs P x →
    Built outputs (λ (o : One O). P o.member) (Some record { member = v })
first_built outputs P x v e h = flat_built outputs P (λ o. P o.member) (λ v. record { member = v }) x (Some record { member = v }) (λ v k. k) h
    (λ u f. let g : v ≡ u = cc (e, f) in rw g refl) (λ f. cc (e, f))

pub returns-in-Some : goal.returns-in-Some
returns-in-Some g c outputs s t h k =
    let o = (g.A.Parser.grammar s).IsOutput in
    let over = step_applied g.A.Error.ParseError.errors.joined g.A.Error.ParseError.errors.grows (g.A.Parser.grammar s).meaning (λ v. Some v) NoChoice t k in
    first_built outputs (IsApplied o t) c.taken.result c.in-Some.member c.in-Some.is
    (taken_built outputs o t over.1 c.args.slots c.taken.result over.2 h c.taken.ensures)

pub returns-in-None : goal.returns-in-None
returns-in-None g c outputs s t h k =
    let o = (g.A.Parser.grammar s).IsOutput in
    let over = step_applied g.A.Error.ParseError.errors.joined g.A.Error.ParseError.errors.grows (g.A.Parser.grammar s).meaning (λ v. Some v) NoChoice t k in
    none_built outputs (IsApplied o t) (λ (p : One _). IsApplied o t p.member) c.taken.result c.in-None.is
    (taken_built outputs o t over.1 c.args.slots c.taken.result over.2 h c.taken.ensures)
