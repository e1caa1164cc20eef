use Rattle.example_parts.proofs.functions.complete.Goals as goal

pub parse_complete-requires : goal.parse_complete-requires
parse_complete-requires g c = record { runs = rw (c.func-parser.ensures) c.requires.runs }
