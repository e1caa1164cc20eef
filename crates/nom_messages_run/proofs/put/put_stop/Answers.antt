use Rattle.std.proofs.Common.{Some, ◌++◌, ◌∙◌, ap, sym}
use Rattle.std.specs.Prelude.{codes}
use Rattle.nom_run.proofs.Piecewise.{puts_same}
use Rattle.nom_messages_run.specs.Pipe.{ending_text, offset_text}
use Rattle.nom_messages_run.proofs.put.put_stop.Goals as goal

pub returns-in-Refused-clause-puts : goal.returns-in-Refused-clause-puts
returns-in-Refused-clause-puts g c =
    puts_same (ap (λ z. codes "error " ++ offset_text z c.args.offset) c.description.ensures
    ∙ ap (λ z. ending_text (Some z) c.args.offset) (sym c.in-Refused.is)) c.put_offset.ensures.puts

pub returns-in-Failed-clause-puts : goal.returns-in-Failed-clause-puts
returns-in-Failed-clause-puts g c =
    puts_same (ap (λ z. codes "failure " ++ offset_text z c.args.offset) c.description-in-Failed.ensures
    ∙ ap (λ z. ending_text (Some z) c.args.offset) (sym c.in-Failed.is)) c.put_offset-in-Failed.ensures.puts

pub returns-in-Nothing-clause-puts : goal.returns-in-Nothing-clause-puts
returns-in-Nothing-clause-puts g c = puts_same (ap (λ z. ending_text (Some z) c.args.offset) (sym c.in-Nothing.is)) c.put_offset-in-Nothing.ensures.puts

pub returns-in-Incomplete-clause-puts : goal.returns-in-Incomplete-clause-puts
returns-in-Incomplete-clause-puts g c = puts_same (ap (λ z. ending_text (Some z) c.args.offset) (sym c.in-Incomplete.is)) c.put_need.ensures.puts

pub returns-in-TooLong-clause-puts : goal.returns-in-TooLong-clause-puts
returns-in-TooLong-clause-puts g c = puts_same (ap (λ z. ending_text (Some z) c.args.offset) (sym c.in-TooLong.is)) c.put_offset-in-TooLong.ensures.puts

pub returns-in-Fault-clause-puts : goal.returns-in-Fault-clause-puts
returns-in-Fault-clause-puts g c = puts_same (ap (λ z. ending_text (Some z) c.args.offset) (sym c.in-Fault.is)) c.put.ensures.puts

pub returns-in-OutOfMemory-clause-puts : goal.returns-in-OutOfMemory-clause-puts
returns-in-OutOfMemory-clause-puts g c = puts_same (ap (λ z. ending_text (Some z) c.args.offset) (sym c.in-OutOfMemory.is)) c.put-in-OutOfMemory.ensures.puts
