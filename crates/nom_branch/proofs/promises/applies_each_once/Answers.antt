use Rattle.nom_error.specs.declared.kind.ErrorKind.TheVariants as Kind
use Rattle.nom_branch.proofs.Applied.{applies_once, accepts_orders}
use Rattle.nom_branch.proofs.promises.applies_each_once.Goals as goal

pub returns : goal.returns
returns g c =
    let errors = g.N.Error.ParseError.errors in
    let state = g.N.Nested.state c.args._parser.now.members in
    record {
      once = applies_once g.I.Items.model g.met.I.Items.lawful errors.joined (λ i. errors.appended i Kind.Permutation) errors.grows
          (g.N.Nested.members state) g.N.Nested.none ((g.met.N.Nested.good state).all_wait) ((g.met.N.Nested.good state).one_fewer);
      every = accepts_orders g.I.Items.model g.met.I.Items.lawful errors.joined (λ i. errors.appended i Kind.Permutation) errors.grows
          (g.N.Nested.members state) g.N.Nested.none;
    }
