use Rattle.std.proofs.Common.{◌≡◌, None, Some}
use Rattle.nom_internal.specs.Prelude.{size_of, input_len}
use Rattle.nom_repeat.specs.Repeat.{TurnsBy}
use Rattle.nom_repeat.proofs.Repeated.{Collected}
use Rattle.nom_bytes_escaped.specs.NextPieces.{next_piece_meaning}
use Rattle.nom_bytes_escaped.specs.Escapes.{escape_turn}
use Rattle.nom_bytes_escaped.proofs.EscapeShown.{AnyPieces}
use Rattle.nom_bytes_escaped.proofs.raw.EscapedParser.process.Given as goal

abbrev pub invariant-loop-next : goal.invariant-loop-next
invariant-loop-next g l = record {
  normal_kept : g.F.Parser.state l.self.normal ≡ g.F.Parser.state l.fn.self.normal;
  control_kept : l.self.control_char ≡ l.fn.self.control_char;
  escapable_kept : g.G.Parser.state l.self.escapable ≡ g.G.Parser.state l.fn.self.escapable;
  lack_is : size_of l.lack ≡ Some 1;
  collected : Collected g.I.Items.model
      (TurnsBy None escape_turn (λ _.
      (next_piece_meaning g.I.Items.model (λ x. g.I.Item.Value.code x ≡ l.fn.self.control_char) (Some 1)
      (g.F.Parser.grammar (g.F.Parser.state l.fn.self.normal)).meaning
      (g.G.Parser.grammar (g.G.Parser.state l.fn.self.escapable)).meaning).answers g.OM.Incomplete.IsStreaming.STREAMING)) AnyPieces l.fn.input l.rest;
}

abbrev pub decreases-loop-next : goal.decreases-loop-next
decreases-loop-next g l = input_len g.I.Items.model l.rest
