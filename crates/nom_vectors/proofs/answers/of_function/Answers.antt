use Rattle.nom_vectors.proofs.answers.of_function.Goals as goal

pub answers_of-requires-clause-runs : goal.answers_of-requires-clause-runs
answers_of-requires-clause-runs g c = rw (c.stream_func.ensures) c.requires.runs

pub answers_of-requires-clause-sound : goal.answers_of-requires-clause-sound
answers_of-requires-clause-sound g c = rw (c.stream_func.ensures) c.requires.sound
