use Rattle.std.proofs.Common.{arith, codes, ◌++◌, refl, subst}
use Rattle.std.proofs.lemmas.Grind.{common_steps}
use Rattle.nom_report.specs.Quotes.{IsCut}
use Rattle.nom_report.proofs.text.add_context.Goals as goal

pub returns : goal.returns
returns g c =
    let at = c.in_ok-add_place.ensures in (
      codes "while reading " ++ c.args.context.now.label.now ++ codes ", which begins at " ++ at.0 ++ codes "\n",
      record {
        before = c.cut.result.0.now;
        after = c.cut.result.1.now;
        cut_is = subst (λ k. IsCut c.args.source.now k c.cut.result.0.now c.cut.result.1.now) c.saturating_sub.ensures c.cut.ensures;
        place = at.0;
        place_is = at.1;
        text_is = refl;
      },
      grind (arith, common_steps, at.2),
    )
