use Rattle.std.proofs.Common.{◌≡◌, ◌-◌, arith, subst}
use Rattle.nom_traits.specs.Cuts.{CutsAs}
use Rattle.nom_located.specs.Located.{located, place, located_model}
use Rattle.nom_located.proofs.Cuts.{moving_cut, moving_nowhere, rest_within, rest_at}
use Rattle.nom_located.proofs.located.LocatedCutRest.cut_rest.Goals as goal

pub overflow_sub-input_len : goal.overflow_sub-input_len
overflow_sub-input_len g c =
    let e = c.in-Some.ensures in
    omega (arith, rest_within g.I.Items.model c.args.self.fragment _ e.0 e.2, c.input_len.ensures, c.input_len-in-Some.ensures)

pub take_from-requires : goal.take_from-requires
take_from-requires g c =
    let w = g.I.Items.model in
    let e = c.in-Some.ensures in
    let at : e.0 ≡ c.input_len.result - c.input_len-in-Some.result =
    omega (arith, rest_at w c.args.self.fragment _ e.0 e.2, c.input_len.ensures, c.input_len-in-Some.ensures) in
    let m = located (λ x. x.fragment) (λ x. place x.offset x.line x.column) (λ x. x.extra) g.I.ByteItems.read in
    (subst (λ n. CutsAs (located_model (λ x. x.fragment) (λ x. place x.offset x.line x.column) (λ x. x.extra) g.I.ByteItems.read w) c.args.self n
    c.args.left) at
    (moving_cut m w c.args.self c.args.left e.0 e.1)).place

pub returns-in-Some : goal.returns-in-Some
returns-in-Some g c =
    let w = g.I.Items.model in
    let e = c.in-Some.ensures in
    let at : e.0 ≡ c.input_len.result - c.input_len-in-Some.result =
    omega (arith, rest_at w c.args.self.fragment _ e.0 e.2, c.input_len.ensures, c.input_len-in-Some.ensures) in
    let m = located (λ x. x.fragment) (λ x. place x.offset x.line x.column) (λ x. x.extra) g.I.ByteItems.read in (
      _,
      subst (λ n. CutsAs (located_model (λ x. x.fragment) (λ x. place x.offset x.line x.column) (λ x. x.extra) g.I.ByteItems.read w) c.args.self n
          c.args.left) at
          (moving_cut m w c.args.self c.args.left e.0 e.1),
      c.take_from.ensures,
    )

pub returns-in-None : goal.returns-in-None
returns-in-None g c =
    moving_nowhere (located (λ x. x.fragment) (λ x. place x.offset x.line x.column) (λ x. x.extra) g.I.ByteItems.read) g.I.Items.model c.args.self c.args.left
    c.in-None.ensures
