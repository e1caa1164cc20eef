use Rattle.std.proofs.Common.{◌≡◌}
use Rattle.nom_write_stream.proofs.Several.{Added}
use Rattle.nom_write_stream.proofs.outgoing.Outgoing.write_items.Given as goal

abbrev pub invariant-loop-count : goal.invariant-loop-count
invariant-loop-count g l = record {
  added : Added (g.W.Write.contents) (g.P.Writer.Form l.writer) (g.P.Writer.Fails l.writer) l.values l.count l.fn.self l.self;
  flushes : l.self.target.flushes ≡ l.fn.self.target.flushes;
  most : l.self.most ≡ l.fn.self.most;
}
