use Rattle.std.proofs.Common.{◌<◌, ◌≤◌, ◌-◌, ◌∙◌, ap, arith, drop, length, map, string_bytes, subst, sym}
use Rattle.std.proofs.lemmas.List.{drop-map, length-drop, length-map, take_all}
use Rattle.nom_run.specs.Words.{Numbers}
use Rattle.nom_run.proofs.Numbers.{word-is}
use Rattle.nom_run.proofs.program.read_task.Goals as goal

pub returns-clause-task : goal.returns-clause-task
returns-clause-task g c =
    let ws = c.args.words.now in
    let some : 1 < length ws = omega (arith, c.if-words-lt2.false) in
    let all : length (drop 2 ws) ≤ length ws - 2 = omega (arith, length-drop 2 ws) in
    record {
      enough = omega (arith, some, length-map ws string_bytes);
      first = c.as_str-file.ensures.value ∙ (ap string_bytes c.index-words-1.is ∙ sym (word-is string_bytes ws 1 _ some));
      others = subst (λ z. Numbers z c.in_ok-cuts.cuts.items) (ap (λ z. map string_bytes z) (take_all (length ws - 2) (drop 2 ws) all)
          ∙ sym (drop-map string_bytes 2 ws)) c.in_ok-cuts.ensures.numbers;
    }
