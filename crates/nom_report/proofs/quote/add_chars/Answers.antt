use Rattle.std.proofs.Common.{sym, ap, ◌∙◌, arith, map-id, length-append, take, drop, string_bytes, ◌++◌, ◌∷◌, []}
use Rattle.std.proofs.lemmas.Iterator.{YieldsList-from_chars}
use Rattle.std.proofs.lemmas.Iterator.Consumers.{YieldsList-end}
use Rattle.std.proofs.Math.Utf8.{encode}
use Rattle.nom_report.specs.Quotes.{written_char, written_text}
use Rattle.nom_report.proofs.Windows.{written_more, appended}
use Rattle.nom_report.proofs.quote.add_chars.Goals as goal

pub loop-c-preserved-in-Continue-1 : goal.loop-c-preserved-in-Continue-1
loop-c-preserved-in-Continue-1 g c =
    let long = length-append c.loop-c.yielded (c.in-Some.c ∷ []) in
    let more = written_more c.args.below c.args.skip c.args.count c.loop-c.yielded c.in-Some.c (omega arith) (omega arith) in
    record {
      left_is = omega (arith, long);
      room_is = omega (arith, long);
      written =
          appended (string_bytes c.push.new.self) (string_bytes c.loop-c.out) (string_bytes c.args.out.now)
          (written_text c.args.below (take c.args.count (drop c.args.skip c.loop-c.yielded)))
          (written_text c.args.below (take c.args.count (drop c.args.skip (c.loop-c.yielded ++ (c.in-Some.c ∷ [])))))
          (encode (written_char c.args.below c.in-Some.c))
          (c.in_ok-push.ensures.bytes ∙ ap (λ r. string_bytes c.loop-c.out ++ encode r) c.written.ensures) c.loop-c.invariant.written more;
    }

pub returns : goal.returns
returns g c =
    let end = YieldsList-end (YieldsList-from_chars c.args.text.now c.utf8.text cc) c.loop-c.yielded _ c.loop-c.yielded_by _ _ c.in-None.is
    c.next.ensures.steps in
    c.loop-c.invariant.written ∙ ap (λ cs. string_bytes c.args.out.now ++ written_text c.args.below (take c.args.count (drop c.args.skip cs)))
    (sym (map-id c.loop-c.yielded) ∙ end.0)
