use Rattle.std.proofs.Common.{arith, length}
use Rattle.memchr.specs.Find.{is_byte}
use Rattle.nom_search.proofs.BytePlaces.{found_in_part, none_in_part}
use Rattle.nom_located.proofs.located.next_end.Goals as goal

pub returns-in-Some : goal.returns-in-Some
returns-in-Some c = found_in_part (is_byte 10) c.args.bytes.now c.args.start (length c.args.bytes.now) c.requires (omega arith) c.in-Some.place
    c.in-Some.ensures

pub returns-in-None : goal.returns-in-None
returns-in-None c = none_in_part (is_byte 10) c.args.bytes.now c.args.start (length c.args.bytes.now) c.requires (omega arith) c.in-None.ensures
