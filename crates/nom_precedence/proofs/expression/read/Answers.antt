use Rattle.std.proofs.Common.{refl, length}
use Rattle.nom.proofs.Choices.{shown_map}
use Rattle.nom.proofs.Parts.{shown_as}
use Rattle.nom.proofs.Shown.{built_error, then_err}
use Rattle.nom_operators.specs.Groups.{groups_left}
use Rattle.nom_precedence.specs.Readings.{pair_by, pairs_by, term_by}
use Rattle.nom_precedence.specs.Values.{folding}
use Rattle.nom_precedence.proofs.OperatorShown.{closed_read}
use Rattle.nom_precedence.proofs.ReadShown.{at_states, first_stuck, first_whole, item_of, kept_three, read_more, told_ok}
use Rattle.nom_precedence.proofs.ValueShown.{stands_built}
use Rattle.nom_precedence.proofs.expression.read.Goals as goal

pub returns-in_err-rest-clause-shown : goal.returns-in_err-rest-clause-shown
returns-in_err-rest-clause-shown g c =
    then_err g.met.I.Items.lawful (closed_read g.F.Error.ParseError.errors c.term-first.ensures.shown c.in_err-rest.ensures) c.from_residual.ensures

pub returns-in-Stuck-clause-shown : goal.returns-in-Stuck-clause-shown
returns-in-Stuck-clause-shown g c = first_stuck g.met.I.Items.lawful (refl, refl)
    (told_ok c.emitted.ensures c.in-Stuck.is (closed_read g.F.Error.ParseError.errors c.term-first.ensures.shown c.in_ok-rest.ensures))

pub pairs-requires-clause-before : goal.pairs-requires-clause-before
pairs-requires-clause-before g c =
    let before = shown_map _ _ _ _ _ (λ _. Unit {0}) _ (λ _. Unit {0}) _ (Unit {0}) _ (λ _ _. tt) (λ _ _. tt) (λ _. tt) c.term-first.ensures.shown in
    let closed = closed_read g.F.Error.ParseError.errors {Answers = λ _ _. Unit {0}} {Blames = λ _ _. Unit {0}} {RunsOut = λ _. Unit {0}} before
    c.in_ok-rest.ensures in
    built_error _ _ _ _ (λ _ _. tt) (item_of (told_ok c.emitted.ensures c.in-Whole.is closed)).built_is

pub returns-in-Whole-clause-shown : goal.returns-in-Whole-clause-shown
returns-in-Whole-clause-shown g c =
    let w = g.I.Items.model in
    let errs = g.F.Error.ParseError.errors in
    let levels = c.args.levels.now in
    let post = g.G.Fn.post c.args.fold.now in
    let term = c.term-first.ensures in
    let f = folding (g.P.Parser.grammar (g.P.Parser.state c.args.prefix.now)).IsOutput (g.F.Parser.grammar (g.F.Parser.state c.args.operand.now)).IsOutput
    (g.Q.Parser.grammar (g.Q.Parser.state c.args.postfix.now)).IsOutput (g.C.Parser.grammar (g.C.Parser.state c.args.binary.now)).IsOutput
    (λ o. post (o, tt)) in
    let more = at_states (λ p o q b. pairs_by w (groups_left levels) (λ x. post (x, tt)) c.in-Whole.value
    (pair_by w errs (length levels) (g.C.Parser.grammar b)
    (term_by w (g.P.Parser.grammar p) (g.F.Parser.grammar o) (g.Q.Parser.grammar q) (λ x. post (x, tt)))))
    (kept_three term.prefix_kept term.operand_kept term.postfix_kept) c.pairs.ensures.shown in
    first_whole g.met.I.Items.lawful (told_ok c.emitted.ensures c.in-Whole.is (closed_read errs term.shown c.in_ok-rest.ensures))
    (λ t b. shown_as (λ u x. read_more _ (λ ps z k. stands_built f (groups_left levels) g.OM.Output.Mode.BUILDS t ps _ _ b k)) more)
