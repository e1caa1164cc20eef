use Rattle.std.proofs.Common.{inl}
use Rattle.nom_messages_run.proofs.program.write_messages.Goals as goal

pub returns-in-Ok : goal.returns-in-Ok
returns-in-Ok g c = inl (record {
  s = c.new-stream.result;
  t = c.write_lines-halt.new.stream;
  fresh = record {
    source = c.new-stream.ensures.source.0;
    none = c.new-stream.ensures.source.1;
    held = c.new-stream.ensures.none;
    offset = c.new-stream.ensures.offset;
    goes_on = c.new-stream.ensures.starts;
    pending = c.new-stream.ensures.told;
    settings_are = c.new-stream.ensures.settings;
  };
  o = c.in-Ok.outgoing;
  p = c.write_lines-halt.new.outgoing;
  before = record { target = c.in-Ok.ensures.target; held = c.in-Ok.ensures.none; most_is = c.in-Ok.ensures.most };
  halt = c.write_lines-halt.result;
  sent = c.write_lines-halt.ensures.sent;
  tells = c.tell_halt.ensures;
})
