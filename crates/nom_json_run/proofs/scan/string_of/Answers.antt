use Rattle.nom_json_run.proofs.scan.string_of.Goals as goal

pub returns : goal.returns
returns c =
    let escapes = rw (c.recognize.ensures, c.char-3.ensures, c.many0_count-escapes.ensures, c.terminated.ensures.first) at c.parse_complete.ensures.written in
    let escape = rw (c.preceded-escape.ensures.first, c.char-2.ensures, c.preceded-escape.ensures.second, c.cut-2.ensures, c.alt.ensures) at escapes in
    let long = rw (c.terminated-long.ensures.first, c.char.ensures, c.terminated-long.ensures.second, c.cut.ensures) at escape in
    let hex = rw (c.satisfy.ensures.kind, c.satisfy-2.ensures.kind, c.satisfy-3.ensures.kind, c.satisfy-4.ensures.kind) at long in
    rw (c.one_of.ensures.predicate, c.one_of.ensures.kind) at hex
