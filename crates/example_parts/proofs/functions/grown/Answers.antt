use Rattle.example_parts.proofs.functions.grown.Goals as goal

pub parse_growing-requires-clause-runs : goal.parse_growing-requires-clause-runs
parse_growing-requires-clause-runs g c = rw (c.stream_func.ensures) c.requires.runs

pub parse_growing-requires-clause-sound : goal.parse_growing-requires-clause-sound
parse_growing-requires-clause-sound g c = rw (c.stream_func.ensures) c.requires.sound
