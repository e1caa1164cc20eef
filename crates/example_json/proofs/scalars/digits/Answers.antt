use Rattle.example_json.proofs.scalars.digits.Goals as goal

pub returns : goal.returns
returns c =
    let whole = rw (c.recognize.ensures, c.opt-minus.ensures, c.char.ensures, c.alt-whole.ensures, c.tag.ensures) at c.parse_complete.ensures.written in
    let fraction = rw (c.opt-fraction.ensures, c.preceded.ensures.first, c.char-2.ensures, c.opt-exponent.ensures, c.preceded-2.ensures.first) at whole in
    let mark = rw (c.pair-mark.ensures.first, c.pair-mark.ensures.second, c.one_of.ensures.predicate, c.one_of.ensures.kind) at fraction in
    rw (c.opt.ensures, c.one_of-2.ensures.predicate, c.one_of-2.ensures.kind) at mark
