use Rattle.std.proofs.Common.{refl}
use Rattle.nom_error.specs.declared.kind.ErrorKind.TheVariants as Kind
use Rattle.nom_internal.specs.Prelude.{RanOut}
use Rattle.nom_repeat.specs.Bounds.{any_limits}
use Rattle.nom_repeat.proofs.Parts.{shown_as, shown_at}
use Rattle.nom_repeat.proofs.ListAccumulated.{list_of_none}
use Rattle.nom_multi.specs.Many.{many0_of}
use Rattle.nom_multi.proofs.many.Many0Parser.process.Goals as goal

pub returns-in-Ok-clause-shown : goal.returns-in-Ok-clause-shown
returns-in-Ok-clause-shown g c = shown_at (λ s. many0_of g.I.Items.model g.F.Error.ParseError.errors (g.F.Parser.grammar s)) c.in-Ok.ensures.kept
    (shown_as (list_of_none _ _ c.in-Ok.ensures.empty) c.any_items.ensures.shown)

pub returns-in-Err-clause-shown : goal.returns-in-Err-clause-shown
returns-in-Err-clause-shown g c = RanOut refl (c.in-Err.ensures.lacks (any_limits Kind.Many0) tt)
