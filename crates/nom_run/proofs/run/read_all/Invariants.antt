use Rattle.std.proofs.Common.{◌≤◌, length}
use Rattle.std.specs.Prelude.{vec_capacity}
use Rattle.std.specs.Io.KnownBytes.{Consumes}
use Rattle.nom_io.specs.Account.{NoneFailed}
use Rattle.nom_run.proofs.run.read_all.Given as goal

abbrev pub invariant-loop-turn : goal.invariant-loop-turn
invariant-loop-turn g l = record {
  read : Consumes (g.S.Source.account l.fn.source).bytes (g.S.Source.account l.source).bytes l.bytes.items;
  none : NoneFailed (g.S.Source.account l.fn.source) (g.S.Source.account l.source);
  turns : l._turn ≤ length l.bytes.items;
  room : vec_capacity l.fn.bytes ≤ vec_capacity l.bytes;
}
