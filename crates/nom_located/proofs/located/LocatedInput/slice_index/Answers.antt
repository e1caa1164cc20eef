use Rattle.nom_located.specs.Located.{located, place}
use Rattle.nom_located.specs.laws.MovingLaws.{counts_moving}
use Rattle.nom_located.proofs.located.LocatedInput.slice_index.Goals as goal

pub returns : goal.returns
returns g c =
    counts_moving (located (λ x. x.fragment) (λ x. place x.offset x.line x.column) (λ x. x.extra) g.I.ByteItems.read) g.I.Items.model c.args.self.now
    c.args.count
    g.I.Input.lack c.slice_index.result c.slice_index.ensures
