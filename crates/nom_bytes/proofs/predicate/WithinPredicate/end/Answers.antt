use Rattle.nom_bytes.proofs.Ends.{position_as, listed_found, unlisted_missed}
use Rattle.nom_bytes.proofs.predicate.WithinPredicate.end.Goals as goal

pub returns-in-Some-run_end : goal.returns-in-Some-run_end
returns-in-Some-run_end g c = position_as g.I.Items.model c.args.input c.in-Some-run_end.end c.in-Some-run_end.ensures _ _
    (λ x p. listed_found _ _ _ c.in-Some.ensures x p) (λ x p. unlisted_missed _ _ _ c.in-Some.ensures x p)
