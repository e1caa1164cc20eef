use Rattle.nom_internal.proofs.Shown.{err_from_residual}
use Rattle.example_formats.specs.Arithmetic.{IsNumber, digits_of}
use Rattle.example_formats.proofs.Functions.{given_stops, given_takes}
use Rattle.example_formats.proofs.arithmetic.number.Goals as goal

pub returns-in_err-rest : goal.returns-in_err-rest
returns-in_err-rest c = given_stops digits_of IsNumber c.in_err-rest.was (err_from_residual c.from_residual.ensures) c.parse_complete.ensures.shown

pub returns : goal.returns
returns c = given_takes digits_of IsNumber c.in_ok-rest.was c.told.ensures c.parse_complete.ensures.shown
