use Rattle.std.proofs.Common.{arith, subst}
use Rattle.nom_traits.specs.Input.{IsSuffixOf}
use Rattle.nom_located.specs.Located.{place, located_model}
use Rattle.nom_located.specs.laws.LocatedLaws.{rest_offset}
use Rattle.nom_located.proofs.located.LocatedOffset.offset.Goals as goal

pub overflow_sub-result : goal.overflow_sub-result
overflow_sub-result g c =
    let e = rest_offset g.I.Items.model g.I.ByteItems.read g.met.I.ByteItems.reading
    (λ x. x.fragment) (λ x. place x.offset x.line x.column) (λ x. x.extra) c.args.self.now c.args.second.now c.requires.0 c.requires.1 in
    omega (arith, e)

pub returns : goal.returns
returns g c =
    let e = rest_offset g.I.Items.model g.I.ByteItems.read g.met.I.ByteItems.reading
    (λ x. x.fragment) (λ x. place x.offset x.line x.column) (λ x. x.extra) c.args.self.now c.args.second.now c.requires.0 c.requires.1 in
    let model = located_model (λ x. x.fragment) (λ x. place x.offset x.line x.column) (λ x. x.extra) g.I.ByteItems.read g.I.Items.model in
    subst (λ n. IsSuffixOf model c.args.self.now n c.args.second.now) (omega (arith, e)) c.requires.1
