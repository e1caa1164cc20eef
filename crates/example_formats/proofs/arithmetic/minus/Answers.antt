use Rattle.std.proofs.Common.{Ok, refl, subst}
use Rattle.nom_internal.proofs.Shown.{err_from_residual}
use Rattle.example_formats.specs.Arithmetic.{Given, IsPlace, FormResult, Text, char_of}
use Rattle.example_formats.proofs.Functions.{given_stops, given_takes}
use Rattle.example_formats.proofs.arithmetic.minus.Goals as goal

pub returns-in_err-rest : goal.returns-in_err-rest
returns-in_err-rest c = subst (λ m. Given IsPlace (char_of m) c.args.input c.from_residual.result) c.char.ensures
    (given_stops (char_of c.char.result.wanted) IsPlace c.in_err-rest.was (err_from_residual c.from_residual.ensures) c.parse_complete.ensures.shown)

pub returns : goal.returns
returns c =
    let answer : FormResult Text = Ok (c.in_ok-rest.rest, c.args.input) in
    subst (λ m. Given IsPlace (char_of m) c.args.input answer) c.char.ensures
    (given_takes (char_of c.char.result.wanted) IsPlace {y = c.args.input} c.in_ok-rest.was refl c.parse_complete.ensures.shown)
