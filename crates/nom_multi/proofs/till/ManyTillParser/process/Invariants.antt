use Rattle.std.proofs.Common.{◌≡◌}
use Rattle.std.specs.List.{AllZip}
use Rattle.nom_internal.specs.Prelude.{Built, input_len}
use Rattle.nom_multi.specs.Till.{end_or_item}
use Rattle.nom_multi.proofs.TillShown.{Till}
use Rattle.nom_multi.proofs.till.ManyTillParser.process.Given as goal

abbrev pub invariant-loop-next : goal.invariant-loop-next
invariant-loop-next g l = record {
  parser_kept : g.F.Parser.state l.self.parser ≡ g.F.Parser.state l.fn.self.parser;
  end_kept : g.G.Parser.state l.self.end ≡ g.G.Parser.state l.fn.self.end;
  collected : Till g.I.Items.model
      ((end_or_item (g.G.Parser.grammar (g.G.Parser.state l.fn.self.end)).meaning (g.F.Parser.grammar (g.F.Parser.state l.fn.self.parser)).meaning).answers
      g.OM.Incomplete.IsStreaming.STREAMING)
      (λ vs. Built g.OM.Output.Mode.BUILDS (λ list. AllZip (g.F.Parser.grammar (g.F.Parser.state l.fn.self.parser)).IsOutput vs list.items) l.kept)
      l.fn.input l.rest;
}

abbrev pub decreases-loop-next : goal.decreases-loop-next
decreases-loop-next g l = input_len g.I.Items.model l.rest
