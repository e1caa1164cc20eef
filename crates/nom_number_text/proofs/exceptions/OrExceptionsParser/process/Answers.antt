use Rattle.std.specs.Prelude.{codes}
use Rattle.nom_internal.specs.Prelude.{modes, IsModelledBy, EitherOutput}
use Rattle.nom_branch.specs.Alternatives.{next_meaning}
use Rattle.nom_branch.proofs.Alternatives.{next_shown, choice_shown}
use Rattle.nom_number_text.specs.Exceptions.{word_meaning}
use Rattle.nom_number_text.proofs.exceptions.OrExceptionsParser.process.Goals as goal

pub returns-clause-shown : goal.returns-clause-shown
returns-clause-shown g c =
    let w = g.I.Items.model in
    let e = g.F.Error.ParseError.errors in
    let mode = modes g.OM.Output.Mode.BUILDS g.OM.Error.Mode.BUILDS g.OM.Incomplete.IsStreaming.STREAMING in
    let i = c.args.input in
    let word = word_meaning w g.I.Item.Value.code e in
    let o1 = IsModelledBy w in
    let m0 = (g.F.Parser.grammar (g.F.Parser.state c.args.self.now.parser)).meaning in
    let o0 = (g.F.Parser.grammar (g.F.Parser.state c.args.self.now.parser)).IsOutput in
    let t1 = next_shown w o0 o1 e m0 (word (codes "nan")) mode i c.process-answer.result c.next_branch-answer.result c.process-answer.ensures.shown
    c.next_branch-answer.ensures.shown in
    let a1 = next_meaning e m0 (word (codes "nan")) in
    let e1 = EitherOutput o0 o1 in
    let t2 = next_shown w e1 o1 e a1 (word (codes "infinity")) mode i c.next_branch-answer.result c.next_branch-answer-2.result t1
    c.next_branch-answer-2.ensures.shown in
    let a2 = next_meaning e a1 (word (codes "infinity")) in
    let e2 = EitherOutput e1 o1 in
    let t3 = next_shown w e2 o1 e a2 (word (codes "inf")) mode i c.next_branch-answer-2.result c.next_branch-answer-3.result t2
    c.next_branch-answer-3.ensures.shown in
    let a3 = next_meaning e a2 (word (codes "inf")) in
    let e3 = EitherOutput e2 o1 in
    choice_shown w e3 e a3 mode i c.next_branch-answer-3.result c.close.result t3 c.close.ensures
