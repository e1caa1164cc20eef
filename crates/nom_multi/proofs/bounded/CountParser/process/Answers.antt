use Rattle.std.proofs.Common.{refl}
use Rattle.nom_internal.specs.Prelude.{RanOut}
use Rattle.nom_repeat.specs.Bounds.{exact_limits}
use Rattle.nom_repeat.proofs.Parts.{shown_as, shown_at}
use Rattle.nom_repeat.proofs.ListAccumulated.{list_of_none}
use Rattle.nom_multi.specs.Bounded.{count_of}
use Rattle.nom_multi.proofs.bounded.CountParser.process.Goals as goal

pub returns-in-Ok-clause-shown : goal.returns-in-Ok-clause-shown
returns-in-Ok-clause-shown g c =
    shown_at (λ s. count_of g.I.Items.model g.F.Error.ParseError.errors c.args.self.now.count (g.F.Parser.grammar s)) c.in-Ok.ensures.kept
    (shown_as (list_of_none _ _ c.in-Ok.ensures.empty) c.items_exactly.ensures.shown)

pub returns-in-Err-clause-shown : goal.returns-in-Err-clause-shown
returns-in-Err-clause-shown g c = RanOut refl (c.in-Err.ensures.lacks (exact_limits c.args.self.now.count) c.in-Err.ensures.some)
