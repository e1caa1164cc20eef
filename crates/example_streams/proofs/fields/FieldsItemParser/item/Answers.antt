use Rattle.example_streams.proofs.fields.FieldsItemParser.item.Goals as goal

pub returns-clause-parses : goal.returns-clause-parses
returns-clause-parses c =
    let s1 = rw (c.map.ensures.parser) at c.parse_item.ensures.parses in
    let s2 = rw (c.preceded-field.ensures.first) at s1 in
    let s3 = rw (c.preceded-field.ensures.second) at s2 in
    let s4 = rw (c.tag.ensures) at s3 in
    let s5 = rw (c.is_not.ensures.predicate) at s4 in
    rw (c.is_not.ensures.kind) at s5
