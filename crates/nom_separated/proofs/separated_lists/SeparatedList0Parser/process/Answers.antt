use Rattle.std.proofs.Common.{subst}
use Rattle.std.specs.List.{AllZip}
use Rattle.nom_internal.proofs.Shown.{accepts, built_error, then_err, then_ok}
use Rattle.nom_repeat.proofs.Parts.{shown_as, shown_at}
use Rattle.nom_repeat.proofs.Accumulating.{kept_both, kept_ready}
use Rattle.nom_repeat.proofs.ListAccumulated.{list_of_none, ListPushes}
use Rattle.nom_repeat.specs.Accumulated.{Accumulated}
use Rattle.nom_separated.specs.Separated.{HasFirstItem, further_meaning}
use Rattle.nom_separated.proofs.SeparatedShown.{told, nothing_follows, items_follow}
use Rattle.nom_separated.proofs.separated_lists.SeparatedList0Parser.process.Goals as goal

pub returns-in_err-rest-clause-shown : goal.returns-in_err-rest-clause-shown
returns-in_err-rest-clause-shown g c = then_err g.met.I.Items.lawful c.in_err-rest.ensures.shown c.from_residual.ensures

pub returns-then-not-found-clause-shown : goal.returns-then-not-found-clause-shown
returns-then-not-found-clause-shown g c =
    let is_output = (g.F.Parser.grammar (g.F.Parser.state c.args.self.now.next.second)).IsOutput in
    let known = (accepts c.in_ok-rest.ensures.shown).rest_is.known in
    then_ok g.met.I.Items.lawful c.in_ok-rest.ensures.shown (λ vs first.
    let it = told ListPushes (λ _. Unit {0}) is_output _ _ vs c.in-Some.is first in
    nothing_follows g.met.I.Items.lawful g.F.Error.ParseError.errors (g.G.Parser.grammar (g.G.Parser.state c.args.self.now.next.first)).meaning
    (g.F.Parser.grammar (g.F.Parser.state c.args.self.now.next.second)).meaning
    (λ us list. AllZip is_output us list.items) known vs (subst (λ b. HasFirstItem b vs) c.if-not-found.true it.0) _
    (built_error _ _ _ _ (list_of_none is_output _ c.none_yet-none.ensures.empty vs) it.1))

pub any_items-requires-clause-built : goal.any_items-requires-clause-built
any_items-requires-clause-built g c =
    let is_output = (g.F.Parser.grammar (g.F.Parser.state c.args.self.now.next.second)).IsOutput in
    let first = accepts c.in_ok-rest.ensures.shown in
    kept_ready ListPushes (λ _. Unit {0}) is_output _ _ _ _ (told ListPushes (λ _. Unit {0}) is_output _ _ first.tree c.in-Some.is first.built_is).1

pub returns-clause-shown : goal.returns-clause-shown
returns-clause-shown g c =
    let is_output = (g.F.Parser.grammar (g.F.Parser.state c.args.self.now.next.second)).IsOutput in
    let more = shown_at (λ s. record {
      meaning = further_meaning g.I.Items.model g.F.Error.ParseError.errors
          (g.G.Parser.grammar (g.G.Parser.state c.args.self.now.next.first)).meaning (g.F.Parser.grammar s).meaning;
      IsOutput = Accumulated ListPushes (λ _. Unit {0}) (g.F.Parser.grammar s).IsOutput c.in-Some.list;
    }) c.in_ok-rest.ensures.kept c.any_items.ensures.shown in
    then_ok g.met.I.Items.lawful c.in_ok-rest.ensures.shown (λ vs first.
    let it = told ListPushes (λ _. Unit {0}) is_output _ _ vs c.in-Some.is first in
    items_follow g.met.I.Items.lawful g.F.Error.ParseError.errors (g.G.Parser.grammar (g.G.Parser.state c.args.self.now.next.first)).meaning
    (g.F.Parser.grammar (g.F.Parser.state c.args.self.now.next.second)).meaning
    (λ us list. AllZip is_output us list.items) vs (subst (λ b. HasFirstItem b vs) c.if-not-found.false it.0)
    (shown_as (λ us list kept. list_of_none is_output _ c.none_yet-none.ensures.empty _ list
    (kept_both ListPushes (λ _. Unit {0}) is_output _ _ _ vs us list it.1 kept)) more))
