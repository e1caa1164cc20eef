use Rattle.std.proofs.Common.{ℕ, Ok, ap}
use Rattle.nom_internal.proofs.Shown.{err_from_residual}
use Rattle.example_formats.specs.Arithmetic.{Given, IsLeveled, Sign, FormResult, one_of_by}
use Rattle.example_formats.proofs.Functions.{by_set, given_stops, given_takes}
use Rattle.example_formats.proofs.arithmetic.operator.Goals as goal

pub returns-in_err-rest : goal.returns-in_err-rest
returns-in_err-rest c =
    let list = c.one_of.result.predicate.list.now in
    by_set (λ set kind. Given IsLeveled (one_of_by set kind) c.args.input c.from_residual.result) (ap (λ l. l.now) c.one_of.ensures.predicate)
    c.one_of.ensures.kind (given_stops (one_of_by list c.one_of.result.kind) IsLeveled c.in_err-rest.was (err_from_residual c.from_residual.ensures)
    c.parse_complete.ensures.shown)

pub returns : goal.returns
returns c =
    let list = c.one_of.result.predicate.list.now in
    let leveled : ℕ → ℕ × Sign = λ k. (k, (c.args.input, c.in_ok-rest.sign)) in
    let taken = given_takes (one_of_by list c.one_of.result.kind) IsLeveled c.in_ok-rest.was (ap leveled c.level.ensures) c.parse_complete.ensures.shown in
    let answer : FormResult (ℕ × Sign) = Ok (c.in_ok-rest.rest, (c.level.result, (c.args.input, c.in_ok-rest.sign))) in
    by_set (λ set kind. Given IsLeveled (one_of_by set kind) c.args.input answer) (ap (λ l. l.now) c.one_of.ensures.predicate) c.one_of.ensures.kind taken
