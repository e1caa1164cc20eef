use Rattle.nom_located.specs.Located.{place}
use Rattle.nom_located.proofs.Counted.{rest_after}
use Rattle.nom_located.proofs.promises.stands_after.Goals as goal

pub returns : goal.returns
returns g c = rest_after g.I.Items.model g.I.ByteItems.read g.met.I.ByteItems.reading (λ x. x.fragment) (λ x. place x.offset x.line x.column) (λ x. x.extra)
    c.args.input c.args._rest c.args._length c.known.ensures.0 c.requires
