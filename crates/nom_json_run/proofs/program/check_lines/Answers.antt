use Rattle.nom_json_run.proofs.program.check_lines.Goals as goal

pub returns : goal.returns
returns g c =
    let new = c.new-stream.ensures in
    record {
      s = c.new-stream.result;
      t = c.tell_lines-answer.new.stream;
      fresh = record {
        source = new.source.0;
        none = new.source.1;
        held = new.none;
        offset = new.offset;
        goes_on = new.starts;
        pending = new.told;
        settings_are = new.settings;
      };
      answer = c.tell_lines-answer.result;
      between = c.tell_lines-answer.new.sink;
      lists = c.tell_lines-answer.ensures;
      ends = c.status_after.ensures;
    }
