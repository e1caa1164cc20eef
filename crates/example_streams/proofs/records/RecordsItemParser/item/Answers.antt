use Rattle.example_streams.proofs.records.RecordsItemParser.item.Goals as goal

pub returns-clause-parses : goal.returns-clause-parses
returns-clause-parses c =
    let s1 = rw (c.map.ensures.parser) at c.parse_item.ensures.parses in
    let s2 = rw (c.preceded-record.ensures.first) at s1 in
    let s3 = rw (c.preceded-record.ensures.second) at s2 in
    rw (c.tag.ensures) at s3
