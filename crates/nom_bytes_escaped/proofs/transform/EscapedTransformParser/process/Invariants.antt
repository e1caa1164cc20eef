use Rattle.std.proofs.Common.{◌≡◌}
use Rattle.nom_internal.specs.Prelude.{modes, input_len}
use Rattle.nom_bytes_escaped.proofs.TransformShown.{Gathered}
use Rattle.nom_bytes_escaped.proofs.transform.EscapedTransformParser.process.Given as goal

abbrev pub invariant-loop-text : goal.invariant-loop-text
invariant-loop-text g l = record {
  normal_kept : g.F.Parser.state l.self.normal ≡ g.F.Parser.state l.fn.self.normal;
  control_kept : l.self.control_char ≡ l.fn.self.control_char;
  transform_kept : g.G.Parser.state l.self.transform ≡ g.G.Parser.state l.fn.self.transform;
  collected : Gathered g.I.Items.model g.F.Error.ParseError.errors (λ x. g.C.Value.code x ≡ l.fn.self.control_char)
      (g.F.Parser.grammar (g.F.Parser.state l.fn.self.normal)) (g.G.Parser.grammar (g.G.Parser.state l.fn.self.transform))
      g.F.Output.ExtendInto.added g.G.Output.ExtendInto.added g.X.Builder.parts
      (modes g.OM.Output.Mode.BUILDS g.OM.Error.Mode.BUILDS g.OM.Incomplete.IsStreaming.STREAMING) l.fn.input l.rest l.text;
}

abbrev pub decreases-loop-text : goal.decreases-loop-text
decreases-loop-text g l = input_len g.I.Items.model l.rest
