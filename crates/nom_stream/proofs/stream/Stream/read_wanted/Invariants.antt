use Rattle.std.proofs.Common.{◌≡◌, ◌<◌, ◌+◌, ◌-◌, length, false, None}
use Rattle.nom_stream.specs.Held.{held_of}
use Rattle.nom_io.specs.Faults.{NoFault}
use Rattle.nom_stream.specs.Streams.{Fills}
use Rattle.nom_stream.specs.Wanted.{most_read}
use Rattle.nom_stream.proofs.stream.Stream.read_wanted.Given as goal

abbrev pub invariant-loop-wanted : goal.invariant-loop-wanted
invariant-loop-wanted g l = record {
  fills : Fills g.R.Read.remaining l.fn.self l.self;
  faults : NoFault l.fn.self.source.faults l.self.source.faults;
  pending : (l.self.pending ≡ None) × (l.fn.self.pending ≡ None);
  goes_on : l.self.ended ≡ false;
  settings : l.self.settings ≡ l.fn.self.settings;
  offset : l.self.offset ≡ l.fn.self.offset;
  counts : l.wanted ≡ l.fn.wants + length (held_of l.fn.self.held) - length (held_of l.self.held);
  no_more : length (held_of l.self.held) < l.fn.wants + length (held_of l.fn.self.held) + most_read l.fn.self.settings;
}

abbrev pub decreases-loop-wanted : goal.decreases-loop-wanted
decreases-loop-wanted g l = l.wanted
