use Rattle.std.proofs.Common.{◌≡◌, map}
use Rattle.nom_internal.specs.Prelude.{modes}
use Rattle.nom_choose.proofs.Listed.{ShowsBefore}
use Rattle.nom_choose.proofs.choose.choose.Given as goal

-- The states are as at the start, and the branches before k answered
abbrev pub invariant-loop-k : goal.invariant-loop-k
invariant-loop-k g l = record {
  kept : map g.A.Parser.state l.branches ≡ map g.A.Parser.state l.fn.branches;
  shown : ShowsBefore g.I.Items.model g.A.Error.ParseError.errors g.A.Parser.grammar g.A.Parser.state
      (modes g.OM.Output.Mode.BUILDS g.OM.Error.Mode.BUILDS g.OM.Incomplete.IsStreaming.STREAMING) l.input l.fn.branches l.k l.answer;
}
