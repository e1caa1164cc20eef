use Rattle.std.proofs.Common.{refl}
use Rattle.std.specs.List.{AllZip}
use Rattle.nom_internal.specs.Prelude.{RanOut}
use Rattle.nom_internal.proofs.Shown.{then_err}
use Rattle.nom_repeat.specs.Bounds.{exact_limits}
use Rattle.nom_repeat.proofs.Parts.{shown_as, shown_at}
use Rattle.nom_repeat.proofs.ListAccumulated.{list_of_none}
use Rattle.nom_multi.proofs.LengthShown.{after_ok}
use Rattle.nom_multi.specs.Bounded.{count_of}
use Rattle.nom_multi.specs.Lengths.{items_by_count}
use Rattle.nom_multi.proofs.counted.LengthCountParser.process.Goals as goal

pub returns-in_err-rest-clause-shown : goal.returns-in_err-rest-clause-shown
returns-in_err-rest-clause-shown g c = then_err g.met.I.Items.lawful c.in_err-rest.ensures.shown c.from_residual.ensures

pub returns-in-Ok-clause-shown : goal.returns-in-Ok-clause-shown
returns-in-Ok-clause-shown g c =
    let is_item = (g.G.Parser.grammar (g.G.Parser.state c.args.self.now.parser)).IsOutput in
    after_ok _ g.met.I.Items.lawful (λ u vs. vs) (g.F.Parser.grammar (g.F.Parser.state c.args.self.now.length)).IsOutput _ (λ vs o. AllZip is_item vs o.items)
    (g.F.Parser.grammar (g.F.Parser.state c.args.self.now.length)).meaning
    (items_by_count g.I.Items.model g.F.Error.ParseError.errors (g.G.Parser.grammar (g.G.Parser.state c.args.self.now.parser)).meaning) _ c.args.input _ _
    c.in-Some.length c.to_usize-count.result _ c.in_ok-rest.ensures.shown c.in-Some.is c.to_usize-count.ensures
    (λ u. shown_at (λ s. count_of g.I.Items.model g.F.Error.ParseError.errors c.to_usize-count.result (g.G.Parser.grammar s)) c.in-Ok.ensures.kept
    (shown_as (list_of_none _ _ c.in-Ok.ensures.empty) c.items_exactly.ensures.shown))

pub returns-in-Err-clause-shown : goal.returns-in-Err-clause-shown
returns-in-Err-clause-shown g c =
    let is_item = (g.G.Parser.grammar (g.G.Parser.state c.args.self.now.parser)).IsOutput in
    after_ok _ g.met.I.Items.lawful (λ u vs. vs) (g.F.Parser.grammar (g.F.Parser.state c.args.self.now.length)).IsOutput _ (λ vs o. AllZip is_item vs o.items)
    (g.F.Parser.grammar (g.F.Parser.state c.args.self.now.length)).meaning
    (items_by_count g.I.Items.model g.F.Error.ParseError.errors (g.G.Parser.grammar (g.G.Parser.state c.args.self.now.parser)).meaning) _ c.args.input _ _
    c.in-Some.length c.to_usize-count.result _ c.in_ok-rest.ensures.shown c.in-Some.is c.to_usize-count.ensures
    (λ u. RanOut refl (c.in-Err.ensures.lacks (exact_limits c.to_usize-count.result) c.in-Err.ensures.some))
