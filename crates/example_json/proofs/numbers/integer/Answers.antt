use Rattle.example_json.proofs.numbers.integer.Goals as goal

pub returns : goal.returns
returns c =
    let look = rw (c.preceded.ensures.first, c.peek.ensures, c.all_consuming.ensures) at c.parse_complete.ensures.written in
    let whole = rw (c.pair-whole.ensures.first, c.opt.ensures, c.char.ensures, c.pair-whole.ensures.second, c.alt.ensures, c.tag.ensures) at look in
    rw (c.preceded.ensures.second, c.i64.ensures) at whole
