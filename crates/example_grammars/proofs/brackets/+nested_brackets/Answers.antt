use Rattle.example_grammars.proofs.Nested.{char_taken, char_missed, inner_taken, inner_open, nested_none, nested_taken, nested_inner, nested_missed}
use Rattle.example_grammars.proofs.brackets.+nested_brackets.Goals as goal

pub returns-in-Err : goal.returns-in-Err
returns-in-Err t c = nested_none c.known.ensures (char_missed _ 40 c.char-open.ensures c.in-Err.ensures.shown)

pub returns-in_err-after-in-Ok : goal.returns-in_err-after-in-Ok
returns-in_err-after-in-Ok t c =
    nested_inner (char_taken _ 40 c.char-open.ensures c.in-Ok.ensures.shown) (inner_open c.in_err-after-in-Ok.ensures) c.from_residual.ensures

pub returns-in_err-rest-in-Ok : goal.returns-in_err-rest-in-Ok
returns-in_err-rest-in-Ok t c = nested_missed (char_taken _ 40 c.char-open.ensures c.in-Ok.ensures.shown) (inner_taken c.in_ok-after-in-Ok.ensures)
    (char_missed _ 41 c.char-close.ensures c.in_err-rest-in-Ok.ensures.shown) c.from_residual-in_err-rest-in-Ok.ensures

pub returns-in_ok-rest-in-Ok : goal.returns-in_ok-rest-in-Ok
returns-in_ok-rest-in-Ok t c = nested_taken (char_taken _ 40 c.char-open.ensures c.in-Ok.ensures.shown) (inner_taken c.in_ok-after-in-Ok.ensures)
    (char_taken _ 41 c.char-close.ensures c.in_ok-rest-in-Ok.ensures.shown)
