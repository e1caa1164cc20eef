use Rattle.std.proofs.Common.{◌≡◌, true, false, refl}
use Rattle.nom_write_stream.proofs.Sending.{sends_none}
use Rattle.nom_messages_run.specs.Sent.{Finishes, is_failed_write}
use Rattle.nom_messages_run.proofs.write.write_lines.Goals as goal

pub returns-then-is_failed_write : goal.returns-then-is_failed_write
returns-then-is_failed_write g c =
    let there = c.write_each-halt.new.outgoing in
    let failed : is_failed_write c.write_each-halt.result ≡ true = cc in
    record {
      sent = record {
        halt = c.write_each-halt.result;
        outgoing = there;
        until = c.write_each-halt.ensures.sent;
        nothing = sends_none g.W.Write.contents there there refl refl;
        finishes = Finishes.Left failed refl refl;
      };
    }

pub returns-in-Ok : goal.returns-in-Ok
returns-in-Ok g c =
    let other : is_failed_write c.write_each-halt.result ≡ false = cc in
    record {
      sent = record {
        halt = c.write_each-halt.result;
        outgoing = c.write_each-halt.new.outgoing;
        until = c.write_each-halt.ensures.sent;
        nothing = c.in-Ok.ensures.sends;
        finishes = Finishes.Flushed other refl c.in-Ok.ensures.none c.in-Ok.ensures.counts c.in-Ok.ensures.flushed;
      };
    }

pub returns-in-Err : goal.returns-in-Err
returns-in-Err g c =
    let other : is_failed_write c.write_each-halt.result ≡ false = cc in
    record {
      sent = record {
        halt = c.write_each-halt.result;
        outgoing = c.write_each-halt.new.outgoing;
        until = c.write_each-halt.ensures.sent;
        nothing = c.in-Err.ensures.sends;
        finishes = Finishes.Failed _ other refl c.in-Err.ensures.counts c.in-Err.ensures.flushed;
      };
    }
