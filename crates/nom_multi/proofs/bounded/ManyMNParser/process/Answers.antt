use Rattle.std.proofs.Common.{refl, true}
use Rattle.std.specs.List.{AllZip}
use Rattle.std.proofs.lemmas.Bool.{lt-ltb, le-ltb}
use Rattle.nom_error.specs.declared.kind.ErrorKind.TheVariants as Kind
use Rattle.nom_internal.specs.Prelude.{RanOut}
use Rattle.nom_repeat.proofs.InvertedShown.{inverted_fails, not_inverted}
use Rattle.nom_repeat.proofs.Parts.{shown_as, shown_at}
use Rattle.nom_repeat.proofs.ListAccumulated.{list_of_none}
use Rattle.nom_repeat.specs.Items.{items_meaning}
use Rattle.nom_multi.proofs.bounded.ManyMNParser.process.Goals as goal
use Rattle.nom_repeat.specs.Bounds.{bounded_limits}

pub returns-then-self-clause-shown : goal.returns-then-self-clause-shown
returns-then-self-clause-shown g c =
    let s = c.args.self.now in
    inverted_fails g.F.Error.ParseError.errors Kind.ManyMN
    (items_meaning g.I.Items.model g.F.Error.ParseError.errors (bounded_limits Kind.ManyMN s.min s.max) (Unit {0})
    (g.F.Parser.grammar (g.F.Parser.state s.parser)).meaning) _ (lt-ltb s.max s.min c.if-self.true) c.failure.ensures

pub returns-in-Ok-clause-shown : goal.returns-in-Ok-clause-shown
returns-in-Ok-clause-shown g c =
    let s = c.args.self.now in
    not_inverted g.F.Error.ParseError.errors Kind.ManyMN
    (items_meaning g.I.Items.model g.F.Error.ParseError.errors (bounded_limits Kind.ManyMN s.min s.max) (Unit {0})
    (g.F.Parser.grammar (g.F.Parser.state s.parser)).meaning) true _ (le-ltb s.max s.min c.if-self.false)
    (shown_at (λ p. record {
      meaning = items_meaning g.I.Items.model g.F.Error.ParseError.errors (bounded_limits Kind.ManyMN s.min s.max) (Unit {0}) (g.F.Parser.grammar p).meaning;
      IsOutput = λ ts o. AllZip (g.F.Parser.grammar p).IsOutput ts o.items;
    }) c.in-Ok.ensures.kept (shown_as (list_of_none _ _ c.in-Ok.ensures.empty) c.bounded_items.ensures.shown))

pub returns-in-Err-clause-shown : goal.returns-in-Err-clause-shown
returns-in-Err-clause-shown g c =
    let s = c.args.self.now in
    not_inverted g.F.Error.ParseError.errors Kind.ManyMN
    (items_meaning g.I.Items.model g.F.Error.ParseError.errors (bounded_limits Kind.ManyMN s.min s.max) (Unit {0})
    (g.F.Parser.grammar (g.F.Parser.state s.parser)).meaning) true _ (le-ltb s.max s.min c.if-self.false)
    (RanOut refl (c.in-Err.ensures.lacks (bounded_limits Kind.ManyMN s.min s.max) c.in-Err.ensures.some))
