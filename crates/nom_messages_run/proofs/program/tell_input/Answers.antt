use Rattle.nom_messages_run.proofs.program.tell_input.Goals as goal

pub returns : goal.returns
returns g c =
    let new = c.new-stream.ensures in
    record {
      s = c.new-stream.result;
      t = c.tell_messages-answer.new.stream;
      fresh = record {
        source = new.source.0;
        none = new.source.1;
        held = new.none;
        offset = new.offset;
        goes_on = new.starts;
        pending = new.told;
        settings_are = new.settings;
      };
      answer = c.tell_messages-answer.result;
      between = c.tell_messages-answer.new.sink;
      tells = c.tell_messages-answer.ensures;
      ends = c.status_after.ensures;
    }
