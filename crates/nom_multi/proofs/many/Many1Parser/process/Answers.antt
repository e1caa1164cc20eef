use Rattle.std.proofs.Common.{arith, refl, true}
use Rattle.nom_error.specs.declared.kind.ErrorKind.TheVariants as Kind
use Rattle.nom_internal.specs.Prelude.{RanOut}
use Rattle.nom_internal.specs.Sequence.ThenRunsOut.{RunsOutFirst}
use Rattle.nom_internal.proofs.Shown.{accepts, then_err, then_ok}
use Rattle.nom_repeat.specs.Bounds.{one_limits}
use Rattle.nom_repeat.specs.declared.items.TooFew.TheVariants.{Added}
use Rattle.nom_repeat.proofs.Parts.{shown_as, shown_at}
use Rattle.nom_repeat.proofs.Accumulating.{kept_both, kept_ready}
use Rattle.nom_repeat.proofs.ListAccumulated.{list_of_none, ListPushes}
use Rattle.nom_repeat.specs.Accumulated.{Accumulated}
use Rattle.nom_multi.specs.Many.{many0_meaning, many1_of}
use Rattle.nom_multi.proofs.many.Many1Parser.process.Goals as goal

pub returns-in-Err-clause-shown : goal.returns-in-Err-clause-shown
returns-in-Err-clause-shown g c = RanOut refl (RunsOutFirst (c.in-Err.ensures.lacks (one_limits (Added Kind.Many1) true) (omega arith)))

pub returns-in_err-rest-clause-shown : goal.returns-in_err-rest-clause-shown
returns-in_err-rest-clause-shown g c = shown_at (λ s. many1_of g.I.Items.model g.F.Error.ParseError.errors (g.F.Parser.grammar s)) c.in-Ok.ensures.kept
    (then_err g.met.I.Items.lawful c.in_err-rest.ensures.shown c.from_residual.ensures)

pub any_items-requires-clause-built : goal.any_items-requires-clause-built
any_items-requires-clause-built g c =
    let first = accepts c.in_ok-rest.ensures.shown in
    kept_ready ListPushes (λ _. Unit {0}) _ _ _ _ _ first.built_is

pub returns-clause-shown : goal.returns-clause-shown
returns-clause-shown g c =
    let more = shown_at (λ s. record {
      meaning = many0_meaning g.I.Items.model g.F.Error.ParseError.errors (g.F.Parser.grammar s).meaning;
      IsOutput = Accumulated ListPushes (λ _. Unit {0}) (g.F.Parser.grammar s).IsOutput c.in_ok-rest.first;
    }) c.in_ok-rest.ensures.kept c.any_items.ensures.shown in
    shown_at (λ s. many1_of g.I.Items.model g.F.Error.ParseError.errors (g.F.Parser.grammar s)) c.in-Ok.ensures.kept
    (then_ok g.met.I.Items.lawful c.in_ok-rest.ensures.shown
    (λ vs first. shown_as (λ us list kept. list_of_none _ _ c.in-Ok.ensures.empty _ list
    (kept_both ListPushes (λ _. Unit {0}) _ _ _ _ vs us list first kept)) more))
