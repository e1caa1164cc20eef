use Rattle.std.proofs.Common.{inl}
use Rattle.nom_json_run.proofs.lines.stopped.Goals as goal

pub returns-in-TooLong : goal.returns-in-TooLong
returns-in-TooLong g c = inl (c.in-TooLong.is, c.tell_too_long.ensures)
