use Rattle.nom_operators.specs.Prefixes.{prefixes_in}
use Rattle.nom_operators.proofs.PendingShown.{term_read}
use Rattle.nom_operators.proofs.pending.read_term.Goals as goal

pub returns-in-Some-clause-read : goal.returns-in-Some-clause-read
returns-in-Some-clause-read g c = λ ss h. term_read (λ x. g.G.Fn.post c.args.fold.now (x, tt)) (prefixes_in c.args.term.prefixes) c.args.term.operand
    c.args.term.postfixes.items ss _ _ _ _ c.in-Some.ensures.waiting c.apply_all.ensures.read h
