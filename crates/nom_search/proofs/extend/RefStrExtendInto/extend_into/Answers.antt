use Rattle.std.proofs.Common.{rules}
use Rattle.std.proofs.lemmas.Str.{encodes-chars}
use Rattle.nom_search.proofs.extend.RefStrExtendInto.extend_into.Goals as goal

pub returns-clause-parts : goal.returns-clause-parts
returns-clause-parts g c = rw (encodes-chars c.args.self.now.now c.known.ensures.0) (search rules)
