use Rattle.memchr.specs.Find.{is_byte}
use Rattle.nom_search.proofs.BytePlaces.{found_in_part, none_in_part}
use Rattle.nom_search.proofs.pages.find_between.Goals as goal

pub returns-in-Some : goal.returns-in-Some
returns-in-Some c = found_in_part (is_byte c.args.byte) c.args.bytes.now c.args.start c.args.end c.requires.ordered c.requires.room c.in-Some.place
    c.in-Some.ensures

pub returns-in-None : goal.returns-in-None
returns-in-None c = none_in_part (is_byte c.args.byte) c.args.bytes.now c.args.start c.args.end c.requires.ordered c.requires.room c.in-None.ensures
