use Rattle.std.proofs.Common.{ℕ, length}
use Rattle.nom.specs.Prelude.{Built, input_len}
use Rattle.nom_operators.specs.Groups.{groups_left}
use Rattle.nom_operators.specs.declared.operation.Operation.TheVariants.{Binary}
use Rattle.nom_precedence.specs.Expressions.{Pair, Term}
use Rattle.nom_precedence.specs.Readings.{AreKept, Reading, pair_by, term_by}
use Rattle.nom_precedence.proofs.ChainShown.{Chain}
use Rattle.nom_precedence.proofs.HeldShown.{HasRun}
use Rattle.nom_precedence.proofs.pairs.pairs.Given as goal

-- the grammar of a pair, by what folds it, the number of levels and the states of the parts
abbrev pub pair_at : (g : goal.Over) → g.row.G.Denot → ℕ → g.P.Parser.State → g.F.Parser.State → g.Q.Parser.State → g.C.Parser.State →
    Reading g.row.I.Denot (Pair g.C.Parser.Tree (Term g.P.Parser.Tree g.F.Parser.Tree g.Q.Parser.Tree)) ((ℕ × g.row.B.Denot) × g.row.F-Output.Denot)
    g.row.F-Error.Denot
pair_at g fold n p f q b =
    pair_by g.I.Items.model g.F.Error.ParseError.errors n (g.C.Parser.grammar b)
    (term_by g.I.Items.model (g.P.Parser.grammar p) (g.F.Parser.grammar f) (g.Q.Parser.grammar q) (λ o. g.G.Fn.post fold (o, tt)))

abbrev pub invariant-loop-next : goal.invariant-loop-next
invariant-loop-next g l =
    let p = g.P.Parser.state l.fn.prefix in
    let f = g.F.Parser.state l.fn.operand in
    let q = g.Q.Parser.state l.fn.postfix in
    let b = g.C.Parser.state l.fn.binary in
    let pair = pair_at g l.fn.fold (length l.fn.levels) p f q b in
    record {
      kept : AreKept (g.P.Parser.state l.prefix) p (g.F.Parser.state l.operand) f (g.Q.Parser.state l.postfix) q (g.C.Parser.state l.binary) b;
      collected : Chain g.I.Items.model (pair.meaning.answers g.OM.Incomplete.IsStreaming.STREAMING) (λ vs. Built g.OM.Output.Mode.BUILDS
          (HasRun (groups_left l.fn.levels) (λ d. d.0) (λ x d y z. g.G.Fn.post l.fn.fold (Binary x d.1 y, tt) z) pair.IsOutput (λ k. k.innermost)
          (λ k. k.value) l.fn.before l.outer.items vs) l.held) l.fn.input l.rest;
    }

abbrev pub decreases-loop-next : goal.decreases-loop-next
decreases-loop-next g l = input_len g.I.Items.model l.rest
