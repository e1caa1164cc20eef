use Rattle.nom_internal.proofs.Shown.{accepts, then_err}
use Rattle.nom_repeat.proofs.CountAccumulated.{CountPushes}
use Rattle.nom_repeat.proofs.Accumulating.{kept_ready}
use Rattle.nom_repeat.proofs.Parts.{shown_at}
use Rattle.nom_repeat.specs.Items.{items_meaning}
use Rattle.nom_multi_fold.specs.Dropped.{dropped_meaning}
use Rattle.nom_multi_fold.proofs.CountShown.{CountAccumulated, count1_shown}
use Rattle.nom_multi_fold.proofs.counts.Many1CountParser.process.Goals as goal
use Rattle.nom_repeat.specs.Bounds.{any_limits}
use Rattle.nom_error.specs.declared.kind.ErrorKind.TheVariants as Kind

pub returns-in_err-rest-clause-shown : goal.returns-in_err-rest-clause-shown
returns-in_err-rest-clause-shown g c = then_err g.met.I.Items.lawful c.in_err-rest.ensures.shown c.from_residual.ensures

pub any_items-requires-clause-built : goal.any_items-requires-clause-built
any_items-requires-clause-built g c =
    let first = accepts c.in_ok-rest.ensures.shown in
    kept_ready CountPushes (λ _. Unit {0}) (λ _ _. Unit {0}) _ _ _ _ first.built_is

pub returns-clause-shown : goal.returns-clause-shown
returns-clause-shown g c =
    let s = g.F.Parser.state c.args.self.now.item.parser in
    let more = shown_at (λ z. record {
      meaning = items_meaning g.I.Items.model g.F.Error.ParseError.errors (any_limits Kind.Many1Count) ⊥
          (dropped_meaning (g.F.Parser.grammar z).meaning);
      IsOutput = CountAccumulated c.in_ok-rest.first;
    }) c.in_ok-rest.ensures.kept c.any_items.ensures.shown in
    count1_shown g.met.I.Items.lawful g.F.Error.ParseError.errors (g.F.Parser.grammar s).meaning (g.met.F.Parser.lawful s) c.fits.ensures.known
    c.fits.ensures.fits c.built-none.ensures c.in_ok-rest.ensures.shown more
