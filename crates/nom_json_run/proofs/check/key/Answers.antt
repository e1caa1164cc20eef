use Rattle.std.proofs.Common.{◌≡◌, drop, arith, subst, sym}
use Rattle.std.specs.Prelude.{◌↔◌}
use Rattle.nom_json_run.specs.Json.{JsonItem, JsonValue}
use Rattle.nom_json_run.specs.declared.bracket.Bracket.TheVariants.{Array}
use Rattle.nom_json_run.proofs.Values.{element_same}
use Rattle.nom_json_run.proofs.check.key.Goals as goal

pub returns-in-Array-clause-ok : goal.returns-in-Array-clause-ok
returns-in-Array-clause-ok c =
    let e : c.args.bracket ≡ Array = cc in
    record {
      begins = omega arith;
      within = c.requires;
      same = λ bs s r. let i = drop c.args.at bs in subst (λ o. JsonItem o i r ↔ JsonValue i r) (sym e) (element_same i r);
    }
