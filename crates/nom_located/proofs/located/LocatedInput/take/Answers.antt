use Rattle.nom_located.specs.Located.{located, place}
use Rattle.nom_located.specs.laws.LocatedLaws.{located_fitting}
use Rattle.nom_located.specs.laws.MovingLaws.{fits_front}
use Rattle.nom_located.proofs.located.LocatedInput.take.Goals as goal

pub invariant_of-result : goal.invariant_of-result
invariant_of-result g c =
    let fitting = located_fitting g.I.Items.model g.I.ByteItems.read g.met.I.ByteItems.reading in
    record {
      fits = fits_front (located (λ x. x.fragment) (λ x. place x.offset x.line x.column) (λ x. x.extra) g.I.ByteItems.read) g.I.Items.model fitting
          c.args.self.now c.args.index c.take-fragment.result c.args.self.now.fits c.take-fragment.ensures;
    }
